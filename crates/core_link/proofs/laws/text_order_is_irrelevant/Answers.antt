use Rattle.core_link.proofs.OneUnion.{order_is_free}
use Rattle.core_link.proofs.laws.text_order_is_irrelevant.Goals as goal

pub returns : goal.returns
returns c = order_is_free
