use Rattle.std.proofs.Common.{refl}
use Rattle.text_commands.specs.Over.{source_over, sink_over}
use Rattle.grin_io.specs.declared.outside.Fault.TheVariants.{Read, Write}
use Rattle.grin_driver.specs.declared.cost.RunCounts.{RunCounts}
use Rattle.grin_driver.proofs.Execution.{failed}
use Rattle.grin_driver.proofs.Costs.{counted, executes}
use Rattle.grin_driver.proofs.exec.execute.Goals as goal

pub returns-in-Err-Read-clause-ran : goal.returns-in-Err-Read-clause-ran
returns-in-Err-Read-clause-ran g c = (
  failed (source_over g.I.Source
      c.args.input.now
      c.run_counted.new.input)
      (sink_over g.K.Sink c.args.out.now
      c.run_counted.new.out)
      c.args.program.now c.in-Ok.machine c.args.steps Read
      c.in-Ok.ensures (rw c.in-Err-Read.field-0-is at c.in-Err-Read.ensures.cause.raised)
      (rw c.in-Err-Read.field-0-is at c.in-Err-Read.ensures.interrupted),
  refl,
)

pub returns-clause-ran : goal.returns-clause-ran
returns-clause-ran g c = (
  failed (source_over g.I.Source
      c.args.input.now
      c.run_counted.new.input)
      (sink_over g.K.Sink c.args.out.now
      c.run_counted.new.out)
      c.args.program.now c.in-Ok.machine c.args.steps Write
      c.in-Ok.ensures (rw c.in-Err-Write.field-0-is at c.in-Err-Write.ensures.cause.raised)
      (rw c.in-Err-Write.field-0-is at c.in-Err-Write.ensures.interrupted),
  refl,
)

pub returns-in-Ok-run_counted-clause-ran : goal.returns-in-Ok-run_counted-clause-ran
returns-in-Ok-run_counted-clause-ran g c =
    let ran = c.in-Ok-run_counted.ran in
    let i = (source_over g.I.Source c.args.input.now
    c.run_counted.new.input) in
    let o = (sink_over g.K.Sink c.args.out.now
    c.run_counted.new.out) in
    let counts : RunCounts = record {
      instructions = ran.done;
      next_cell = c.register.result;
      link = c.register-in-Ok-run_counted.result;
    } in
    let h = counted i o c.args.program.now c.in-Ok.machine c.run_counted.new.self c.args.steps
    ran.stop counts
    c.in-Ok.ensures c.in-Ok-run_counted.ensures.counted c.register.ensures
    c.register-in-Ok-run_counted.ensures in
    rw c.ended.ensures (executes i o c.args.program.now c.args.steps ran.stop counts h)
