use Rattle.std.proofs.Common.{sym, ap, ◌∙◌, subst}
use Rattle.std.specs.Option.{option_map}
use Rattle.command_line.specs.Commands.{asked_by}
use Rattle.text_commands.specs.Over.{shelf_over, source_over, sink_over}
use Rattle.grin_driver.specs.Costs.{AnswersAtCost}
use Rattle.grin_driver.proofs.Ranges.{asked_is_within}
use Rattle.grin_driver.proofs.command.run_line.Goals as goal

pub run_command-requires-clause-within : goal.run_command-requires-clause-within
run_command-requires-clause-within g c = asked_is_within c.args.line.now
    (asked_by c.in-Some.command) (sym c.command.ensures ∙ ap (option_map asked_by) c.in-Some.is)

pub returns-in-Some-clause-answer : goal.returns-in-Some-clause-answer
returns-in-Some-clause-answer g c =
    let i = (source_over g.I.Source c.args.input.now c.run_command.new.input) in
    let o = (sink_over g.K.Sink c.args.out.now
    c.run_command.new.out) in
    let f = (shelf_over g.F.Shelf c.args.shelf.now
    c.run_command.new.shelf) in
    let ended = c.run_command.result in
    subst (λ x. AnswersAtCost f i o x ended.status ended.cost)
    (sym (ap (option_map asked_by) c.in-Some.is) ∙ c.command.ensures) c.run_command.ensures.answer
