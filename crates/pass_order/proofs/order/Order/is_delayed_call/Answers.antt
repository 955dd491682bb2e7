use Rattle.std.proofs.Common.{sym, ap, ◌∙◌}
use Rattle.pass_order.specs.Order.{is_delayed_call}
use Rattle.pass_order.proofs.Loops.{none_there}
use Rattle.pass_order.proofs.order.Order.is_delayed_call.Goals as goal

pub returns-in-None : goal.returns-in-None
returns-in-None c = sym (ap (is_delayed_call c.args.self.now.delayed) c.in-Node.is
    ∙ none_there c.args.self.now.delayed c.in-Node.tag.0 (sym c.in-None.ensures.value))
