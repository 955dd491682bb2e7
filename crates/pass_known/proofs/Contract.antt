-- That the pass meets its contract: the shape of what it makes, and that this keeps the program.
use Rattle.std.proofs.Common.{ℕ, List, length, refl}
use Rattle.grin_syntax.specs.declared.program.Word.{Word}
use Rattle.grin_syntax.specs.Tree.{Program}
use Rattle.grin_meaning.specs.Run.{run}
use Rattle.grin_meaning.specs.Follows.{HoldsInEveryState}
use Rattle.grin_meaning.specs.Keeps.{world_of, Keeps}
use Rattle.flow_system.specs.Tables.{tables}
use Rattle.flow_system.specs.System.{system}
use Rattle.flow_system.specs.Solution.{Solution, IsLeast}
use Rattle.flow_system.proofs.Covered.{covers}
use Rattle.flow_system.proofs.Starting.{formed_is_started}
use Rattle.pass_ground.specs.Vectors.{IsVectorForm}
use Rattle.grin_rewrite.specs.WithFacts.{WithFacts}
use Rattle.grin_rewrite.proofs.KeptByWords.{updates_kept}
use Rattle.grin_rewrite.proofs.FactText.{walked_slim, updates_fewer}
use Rattle.grin_rewrite.proofs.FactSound.{FactsAreSound, stays, keeps}
use Rattle.case_simplify.specs.Known.{Facts, nothing_known}
use Rattle.pass_known.specs.Told.{known_word}
use Rattle.pass_known.specs.Known.{literals_for_known, known}
use Rattle.pass_known.specs.KnownWords.{KnownWordsAreLiterals}
use Rattle.pass_known.proofs.Tells.{Tells, all_tell}
use Rattle.pass_known.proofs.Gives.{procs_untold, opens, fewer_open}
use Rattle.pass_known.proofs.Asked.{sound}

module _ (g : Program) (A : Solution) (of : IsVectorForm g)
    (tells : (i : List ℕ) (n : ℕ) → HoldsInEveryState (Tells g A) (world_of (run g i n)).seen) where
  abbrev R : WithFacts Facts
  R = literals_for_known (length g.tags) A

  abbrev word : Facts → Word → Word
  word = known_word (length g.tags) A

  facts_sound : FactsAreSound R word g nothing_known (Tells g A)
  facts_sound = sound g A of.formed

  pub whole : KnownWordsAreLiterals A g (known A g)
  unfolding updates_kept
  whole = record {
    stays = stays R word g nothing_known (Tells g A) facts_sound of tells;
    made = refl;
    known = procs_untold (length g.tags) A g.procs of.vectorised;
    no_more_open = updates_fewer R word nothing_known facts_sound.by (opens (length g.tags) A)
        (facts_sound.cases (updates_kept (opens (length g.tags) A))) (fewer_open (length g.tags) A)
        g.procs;
    slim = walked_slim R word nothing_known facts_sound.by facts_sound.cases g;
  }

  pub kept : Keeps g (known A g)
  kept = keeps R word g nothing_known (Tells g A) facts_sound of tells

pub by_solution : (g : Program) (A : Solution) → IsVectorForm g → IsLeast (tables g) (system g) A
    → (i : List ℕ) (n : ℕ) → HoldsInEveryState (Tells g A) (world_of (run g i n)).seen
by_solution g A of least i n = all_tell g A _
    ((covers g A (formed_is_started g of.formed) least.solves).passed i n)
