use Rattle.update_special.proofs.Loops.{other_stays}
use Rattle.update_special.proofs.blocks.TagsRule.leaf.Goals as goal

pub returns-in_default : goal.returns-in_default
returns-in_default c = other_stays _ c.args.op c.requires c.in_default.not-Update
