-- That the pass meets its contract: the shape of what it makes, and that this keeps the program.
use Rattle.std.proofs.Common.{◌≡◌, ℕ, ◌≤◌, refl, sym, subst, arith}
use Rattle.grin_syntax.specs.declared.program.Val.{Val}
use Rattle.grin_syntax.specs.Tree.{Program}
use Rattle.grin_meaning.specs.Keeps.{Keeps}
use Rattle.grin_meaning.proofs.Bodies.{AnyState, every_any}
use Rattle.pass_ground.specs.OpenUpdates.{procs_update_sum}
use Rattle.pass_ground.specs.Vectors.{IsVectorForm}
use Rattle.grin_rewrite.proofs.KeptByWords.{updates_kept}
use Rattle.grin_rewrite.proofs.FactText.{updates_fewer}
use Rattle.grin_rewrite.proofs.FactSound.{stays, keeps}
use Rattle.case_simplify.specs.Known.{nothing_known}
use Rattle.case_simplify.specs.Simple.{simplifying, simplified}
use Rattle.case_simplify.specs.Simplified.{Simplified}
use Rattle.case_simplify.proofs.Asked.{unchanged, sound}
use Rattle.case_simplify.proofs.Gives.{procs_simple}

pub is_simplified : (g h : Program) → h ≡ simplified g → IsVectorForm g → Simplified g h
is_simplified g h e of = subst (Simplified g) (sym e) (record {
  stays = stays simplifying unchanged g nothing_known AnyState (sound g) of (λ i n. every_any _);
  made = refl;
  simple = procs_simple g.procs;
})

pub is_kept : (g h : Program) → h ≡ simplified g → IsVectorForm g → Keeps g h
is_kept g h e of = subst (Keeps g) (sym e)
    (keeps simplifying unchanged g nothing_known AnyState (sound g) of (λ i n. every_any _))

pub fewer_updates : (count : Val → ℕ) (g : Program)
    → procs_update_sum count (simplified g).procs ≤ procs_update_sum count g.procs
unfolding updates_kept
fewer_updates count g =
    let asked = sound g in
    updates_fewer simplifying unchanged nothing_known asked.by count
    (asked.cases (updates_kept count))
    (λ facts v. subst (λ u. count u ≤ count v) (asked.by.values facts v) (omega arith)) g.procs
