use Rattle.std.proofs.Common.{◌≡◌, sym, subst}
use Rattle.points_to.specs.Known.{items_at}
use Rattle.points_to.proofs.Sets.{grown}
use Rattle.points_to.proofs.facts.grow.Goals as goal

pub growing-preserved : goal.growing-preserved
growing-preserved c = subst (λ l. items_at l ≡ items_at c.args.sets.now.items)
    (sym c.in_ok-push.ensures.items)
    (grown c.args.sets.now.items c.growing.sets.items c.new.result c.new.ensures
    c.growing.invariant)
