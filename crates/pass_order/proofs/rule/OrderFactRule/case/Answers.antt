use Rattle.std.proofs.Common.{ap, ◌∙◌}
use Rattle.grin_syntax.specs.Tree.{case}
use Rattle.grin_syntax.proofs.TreeOf.{act_of-Case}
use Rattle.pass_order.proofs.rule.OrderFactRule.case.Goals as goal

pub returns : goal.returns
returns c = act_of-Case c.args.value _ ∙ ap (case c.args.value) c.in_ok-values_first.ensures
