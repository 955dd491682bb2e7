-- A program in which literals stand for the variables of which it is told what they hold, and
-- alternatives that no run takes are gone.
use Rattle.std.specs.Prelude.{ℕ, length}
use Rattle.grin_syntax.specs.Tree.{Code, leaf, case, Program}
use Rattle.grin_meaning.specs.Rewritten.{rewritten}
use Rattle.flow_system.specs.Solution.{Solution}
use Rattle.pass_ground.specs.OpenUpdates.{tag_variable}
use Rattle.grin_rewrite.specs.WithFacts.{WithFacts, walk_code}
use Rattle.grin_rewrite.specs.ByWords.{leaf_by}
use Rattle.case_simplify.specs.Known.{Facts, nothing_known, known_after, facts_in_alternative}
use Rattle.pass_known.specs.Told.{known_word, known_val, known_cells}
use Rattle.pass_known.specs.Needed.{needed_arms, tags_at}

module _ (count : ℕ) (A : Solution) where
  -- what becomes of each piece where these facts are known
  abbrev pub literals_for_known : WithFacts Facts
  literals_for_known = record {
    leaf_becomes = λ facts l. leaf (leaf_by (known_word count A facts) l);
    value_becomes = known_val count A;
    cells_become = known_cells count A;
    case_becomes = λ facts v as'. case v (needed_arms (tags_at count A (tag_variable v)) as');
    after = λ facts t o. known_after t o facts;
    inside = λ facts v s. facts_in_alternative v s facts;
  }

  abbrev pub known_code : Facts → Code → Code
  known_code = walk_code literals_for_known

-- by a solution
abbrev pub known : Solution → Program → Program
known A g = rewritten (known_code (length g.tags) A nothing_known) g
