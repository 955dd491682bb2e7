use Rattle.std.proofs.Common.{◌≡◌, take}
use Rattle.pass_order.specs.Order.{delayed_tags}
use Rattle.pass_order.proofs.order.order_for.Given as goal

abbrev pub invariant-loop-tag : goal.invariant-loop-tag
invariant-loop-tag l = l.delayed ≡ delayed_tags (take l.tag-index l.tags)
