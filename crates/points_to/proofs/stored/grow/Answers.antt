use Rattle.std.proofs.Common.{◌≡◌, sym, subst}
use Rattle.points_to.specs.Stored.{sets_at}
use Rattle.points_to.proofs.NumberedSets.{sets_grown}
use Rattle.points_to.proofs.stored.grow.Goals as goal

pub growing-preserved : goal.growing-preserved
growing-preserved c = subst (λ l. sets_at l ≡ sets_at c.args.sets.now.items)
    (sym c.in_ok-push.ensures.items)
    (sets_grown c.args.sets.now.items c.growing.sets.items c.new.result c.new.ensures
    c.growing.invariant)
