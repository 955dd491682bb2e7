use Rattle.command_line.proofs.Order.{order_is_free}
use Rattle.command_line.proofs.laws.option_order_is_free.Goals as goal

pub returns : goal.returns
returns c = order_is_free
