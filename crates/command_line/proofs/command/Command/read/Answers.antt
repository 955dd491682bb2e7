-- What the words say decides the command.
use Rattle.std.proofs.Common.{map, string_bytes, ap, ◌∙◌, rules, tests}
use Rattle.std.specs.Option.{option_map, option_and_then}
use Rattle.command_line.specs.Parts.{parts_of}
use Rattle.command_line.specs.Commands.{asked_by}
use Rattle.command_line.specs.Walk.{chosen}
use Rattle.command_line.proofs.Links.{other_command}
use Rattle.command_line.proofs.command.Command.read.Goals as goal

pub returns-in_err-arguments : goal.returns-in_err-arguments
returns-in_err-arguments c =
    let name = c.args.name.now in
    let read = ap (option_and_then (chosen name)) c.read.ensures ∙ other_command name
    (parts_of (map string_bytes c.args.words.now)) (search (rules, tests)) in
    ap (option_map asked_by) c.from_residual.ensures ∙ (rw c.in_err-arguments.was at read)

pub returns : goal.returns
returns c =
    let name = c.args.name.now in
    let read = ap (option_and_then (chosen name)) c.read.ensures ∙ other_command name
    (parts_of (map string_bytes c.args.words.now)) (search (rules, tests)) in
    c.from_arguments.ensures ∙ (rw c.in_ok-arguments.was at read)
