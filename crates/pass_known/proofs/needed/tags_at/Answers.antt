use Rattle.std.proofs.Common.{sym, ap, ◌∙◌}
use Rattle.std.specs.Prelude.{option_copied}
use Rattle.pass_ground.specs.OpenUpdates.{tag_variable}
use Rattle.pass_known.specs.Told.{solution_or_empty}
use Rattle.pass_known.specs.Needed.{tags_at}
use Rattle.pass_known.proofs.Tells.{silent_tags}
use Rattle.pass_known.proofs.needed.tags_at.Goals as goal

pub returns-in_default : goal.returns-in_default
returns-in_default c = sym
    (ap (λ o. tags_at c.args.told.now.count (solution_or_empty (option_copied o))
    (tag_variable c.args.v.now)) c.in_default.is ∙ silent_tags c.args.told.now.count
    (tag_variable c.args.v.now))
