use Rattle.std.proofs.Common.{refl}
use Rattle.grin_rewrite.proofs.Tables.{adds_again}
use Rattle.copy_prop.proofs.Noted.{noted_next}
use Rattle.copy_prop.proofs.resolve.note_copies.Goals as goal

pub copies-preserved : goal.copies-preserved
copies-preserved c = record {
  is = noted_next _ _ _ _ _ _ _ c.copies-test.true refl c.copies.invariant.is
      c.in_ok-note.ensures.facts;
  adds = adds_again _ _ _ c.copies.invariant.adds c.in_ok-note.ensures.adds;
}
