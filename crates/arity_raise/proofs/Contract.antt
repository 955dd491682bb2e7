-- That the pass meets its contract: what it makes is what the law of raising speaks of, by the
-- least
-- solution.
use Rattle.std.proofs.Common.{◌≡◌, ℕ, List, refl, sym, subst}
use Rattle.grin_syntax.specs.Tree.{Program}
use Rattle.grin_meaning.specs.Ready.{IsFetchedByWords}
use Rattle.grin_meaning.specs.Keeps.{Keeps}
use Rattle.flow_system.specs.Tables.{tables}
use Rattle.flow_system.specs.System.{system}
use Rattle.flow_system.specs.Solution.{Solution, IsLeast}
use Rattle.pass_ground.specs.Vectors.{IsVectorForm}
use Rattle.raise_theory.specs.Raising.{Decisions, raised}
use Rattle.raise_theory.specs.Decided.{IsDecided}
use Rattle.raise_theory.specs.Raised.{Raised, MadeByLeastSolution}
use Rattle.raise_theory.specs.Laws.{RaisedKeeps}
use Rattle.raise_theory.proofs.Kept.{raising_law}

module _ (g : Program) (A : Solution) (D : List Decisions) (n : ℕ) (of : IsVectorForm g)
    (words : IsFetchedByWords g) (least : IsLeast (tables g) (system g) A) (d : IsDecided A g D n)
  where
    kept : RaisedKeeps g (raised D n g)
    kept = raising_law g A D n of words least.solves d

    whole : Raised g (raised D n g)
    whole = record {
      of_vectors = kept.of_vectors;
      outside = kept.outside;
      narrow = kept.narrow;
      by_words = kept.by_words;
      by_least = record
          { solution = A; least = least; decisions = D; next = n; decided = d; made = refl };
      no_more_open = kept.no_more_open;
    }

pub is_raised : (g h : Program) → IsVectorForm g → IsFetchedByWords g → MadeByLeastSolution g h
    → Raised g h
is_raised g h of words m =
    subst (Raised g) (sym m.made) (whole g m.solution m.decisions m.next of words m.least m.decided)

pub is_kept : (g h : Program) → IsVectorForm g → IsFetchedByWords g → MadeByLeastSolution g h
    → Keeps g h
is_kept g h of words m =
    subst (Keeps g) (sym m.made)
    (kept g m.solution m.decisions m.next of words m.least m.decided).keeps

pub by_least : {g h : Program} {A : Solution} {D : List Decisions} {n : ℕ}
    → IsLeast (tables g) (system g) A → IsDecided A g D n → h ≡ raised D n g
    → MadeByLeastSolution g h
by_least {A = A} {D = D} {n = n} least d e = record
    { solution = A; least = least; decisions = D; next = n; decided = d; made = e }
