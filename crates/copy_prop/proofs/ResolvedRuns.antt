-- A program and the same one with words in place of their copies run alike.
use Rattle.std.proofs.Common.{ℕ, List}
use Rattle.grin_syntax.specs.Tree.{Program}
use Rattle.grin_meaning.specs.Follows.{Same, same}
use Rattle.grin_meaning.specs.Looking.{checked_run}
use Rattle.grin_meaning.specs.Ready.{EveryBodyIsOfKind}
use Rattle.grin_meaning.proofs.Beside.{no_deeper, Likewise}
use Rattle.grin_meaning.proofs.Bodies.{AnyState, every_any}
use Rattle.grin_meaning.proofs.Procedures.{run_follows}
use Rattle.pass_ground.specs.Vectors.{IsVectorForm}
use Rattle.grin_rewrite.specs.Table.{nothing_known}
use Rattle.grin_rewrite.proofs.FactSides.{plan, bodies_go}
use Rattle.grin_rewrite.proofs.FactSound.{inlined_vectors, both_bodies}
use Rattle.copy_prop.specs.Resolved.{as_word, copies_stand, resolved}
use Rattle.copy_prop.proofs.Standing.{sound}

module _ (g : Program) (of : IsVectorForm g) where
  of_kind : EveryBodyIsOfKind inlined_vectors g.procs
  of_kind = both_bodies g.procs of.ready.inlined of.vectorised

  pub goes_likewise : (i : List ℕ) (n : ℕ) → Likewise no_deeper Same (checked_run g i n)
      (checked_run (resolved g) i n)
  goes_likewise i n = run_follows
      (plan copies_stand as_word g nothing_known inlined_vectors (sound g).places AnyState)
      (λ c c' cb cf. bodies_go copies_stand as_word g nothing_known inlined_vectors (sound g).places
      AnyState (sound g).by (sound g).holding c c' cb cf 0 g.procs of.formed.procedures of_kind
      of.formed.variables_once)
      i n same same (every_any _)
