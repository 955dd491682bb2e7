-- That the pass meets its contract: what it makes is what the law of unboxing speaks of, by the
-- least
-- solution.
use Rattle.std.proofs.Common.{◌≡◌, refl, sym, subst}
use Rattle.grin_syntax.specs.Tree.{Program}
use Rattle.grin_meaning.specs.Keeps.{Keeps}
use Rattle.flow_system.specs.Tables.{tables}
use Rattle.flow_system.specs.System.{system}
use Rattle.flow_system.specs.Solution.{Solution, IsLeast}
use Rattle.pass_ground.specs.Vectors.{IsVectorForm}
use Rattle.unbox_theory.specs.Ends.{Procedures}
use Rattle.unbox_theory.specs.Members.{IsGreatestClosedSet}
use Rattle.unbox_theory.specs.Unboxing.{unboxed}
use Rattle.unbox_theory.specs.Unboxed.{Unboxed, MadeByLeastSolution}
use Rattle.unbox_theory.specs.Laws.{UnboxedKeeps}
use Rattle.unbox_theory.proofs.Kept.{unboxing_law}

module _ (g : Program) (A : Solution) (M : Procedures) (of : IsVectorForm g)
    (least : IsLeast (tables g) (system g) A) (are : IsGreatestClosedSet A g M) where
  kept : UnboxedKeeps g (unboxed M g) M
  kept = unboxing_law g A M of least.solves are.closed

  whole : Unboxed g (unboxed M g)
  whole = record {
    stays = kept.stays;
    solution = A;
    least = least;
    members = M;
    are_members = are;
    made = refl;
    one_word = kept.one_word;
    same_updates = kept.same_updates;
  }

pub is_unboxed : (g h : Program) → IsVectorForm g → MadeByLeastSolution g h → Unboxed g h
is_unboxed g h of m =
    subst (Unboxed g) (sym m.made) (whole g m.solution m.members of m.least m.are_members)

pub is_kept : (g h : Program) → IsVectorForm g → MadeByLeastSolution g h → Keeps g h
is_kept g h of m =
    subst (Keeps g) (sym m.made) (kept g m.solution m.members of m.least m.are_members).keeps

pub by_least : {g h : Program} {A : Solution} {M : Procedures} → IsLeast (tables g) (system g) A
    → IsGreatestClosedSet A g M → h ≡ unboxed M g → MadeByLeastSolution g h
by_least {A = A} {M = M} least are e = record
    { solution = A; least = least; members = M; are_members = are; made = e }
