use Rattle.std.proofs.Common.{rules}
use Rattle.text_commands.proofs.Checks.{line_is}
use Rattle.text_commands.proofs.check.summary.Goals as goal

pub returns : goal.returns
returns c =
    line_is _ _ c.args.accepted.now.size c.push_named.new.self c.push_named-2.new.self
    c.push_named-3.new.self c.push.new.self
    (search (rules, c.push_named.ensures.named)) (search (rules, c.push_named-2.ensures.named))
    c.push_named-3.ensures.named c.push.ensures
