-- A name that is no command's.
use Rattle.command_line.specs.Walk.{said, asked_said}
use Rattle.command_line.proofs.Names.{other_name}
use Rattle.command_line.proofs.command.Command.from_arguments.Goals as goal

pub returns-in_default : goal.returns-in_default
returns-in_default c =
    let d = c.in_default in
    other_name (asked_said (said c.args.arguments)) c.args.name.now d.not-run d.not-check d.not-list
    d.not-build d.not-costs d.not-trace d.not-profile d.not-exec d.not-gen d.not-lift d.not-match
    d.not-types
    d.not-sides
    d.not-points
