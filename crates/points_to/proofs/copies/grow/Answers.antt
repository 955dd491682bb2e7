use Rattle.std.proofs.Common.{refl}
use Rattle.points_to.proofs.CopiesSound.{row_grown}
use Rattle.points_to.proofs.copies.grow.Goals as goal

pub growing-init : goal.growing-init
growing-init c = λ m. refl

pub growing-preserved : goal.growing-preserved
growing-preserved c = row_grown c.args.rows.now.items c.growing.rows.items c.push.new.self.items
    c.new.result c.new.ensures c.in_ok-push.ensures.items c.growing.invariant
