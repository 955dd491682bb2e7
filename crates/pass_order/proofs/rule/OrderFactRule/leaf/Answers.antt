use Rattle.std.proofs.Common.{sym, ap, ◌∙◌}
use Rattle.grin_rewrite.specs.WithFacts.{walk_act}
use Rattle.grin_rewrite.proofs.Leaves.{leaf_seen}
use Rattle.pass_order.specs.Order.{ordering}
use Rattle.pass_order.proofs.rule.OrderFactRule.leaf.Goals as goal

pub returns : goal.returns
unfolding walk_act
returns c = let s = leaf_seen c.args.op c.requires in s.tree
    ∙ ap (walk_act (ordering c.args.self.now.delayed) tt) (sym s.tree)
