use Rattle.std.proofs.Common.{subst}
use Rattle.command_line.specs.Commands.{command_of}
use Rattle.text_commands.specs.Over.{shelf_over, source_over, sink_over}
use Rattle.grin_driver.specs.Answer.{Answers}
use Rattle.grin_driver.proofs.Commands.{command_gives, memory_untouched}
use Rattle.grin_driver.proofs.command.grinc_main.Goals as goal

pub returns-clause-answer : goal.returns-clause-answer
returns-clause-answer g c =
    let ended = c.run_line-ended in
    record {
      answer = ended.ensures.answer.0;
      cost = ended.result.cost;
      cost_is = ended.ensures.answer.1;
      told = c.tell.ensures;
    }

pub returns-clause-complete : goal.returns-clause-complete
returns-clause-complete g c = λ nothing_failed.
    command_gives _ _ _ nothing_failed c.one_accepted_program.ensures (command_of c.args.line.now)
    c.run_line-ended.result.status c.run_line-ended.ensures.answer.0

pub returns-clause-memory : goal.returns-clause-memory
returns-clause-memory g c = λ e.
    let f = (shelf_over g.F.Shelf c.args.shelf.now
    c.run_line-ended.new.shelf) in
    let i = (source_over g.I.Source c.args.input.now
    c.run_line-ended.new.input) in
    let o = (sink_over g.K.Sink c.args.out.now
    c.run_line-ended.new.out) in
    memory_untouched f i o (command_of c.args.line.now)
    (subst (Answers f i o (command_of c.args.line.now)) e c.run_line-ended.ensures.answer.0)
