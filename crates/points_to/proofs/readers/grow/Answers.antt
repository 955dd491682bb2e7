use Rattle.std.proofs.Common.{◌≡◌, sym, subst}
use Rattle.points_to.specs.Waiting.{numbers_at}
use Rattle.points_to.proofs.Waiting.{numbers_grown}
use Rattle.points_to.proofs.readers.grow.Goals as goal

pub growing-preserved : goal.growing-preserved
growing-preserved c = subst (λ l. numbers_at l ≡ numbers_at c.args.rows.now.items)
    (sym c.in_ok-push.ensures.items)
    (numbers_grown c.args.rows.now.items c.growing.rows.items c.new.result c.new.ensures
    c.growing.invariant)
