use Rattle.std.proofs.Common.{sym, ap, ◌∙◌}
use Rattle.grin_rewrite.specs.WithFacts.{walk_act}
use Rattle.grin_rewrite.proofs.Leaves.{leaf_seen}
use Rattle.case_simplify.specs.Simple.{simple_act}
use Rattle.case_simplify.proofs.rule.SimplifyFactRule.leaf.Goals as goal

pub returns : goal.returns
unfolding walk_act
returns c = let s = leaf_seen c.args.op c.requires in s.tree ∙ ap (simple_act _) (sym s.tree)
