use Rattle.std.proofs.Common.{refl}
use Rattle.text_commands.specs.Over.{source_over, sink_over}
use Rattle.grin_driver.proofs.Costs.{execution, unloaded}
use Rattle.grin_driver.proofs.exec.exec_counted.Goals as goal

pub returns-in-Ok-clause-ran : goal.returns-in-Ok-clause-ran
returns-in-Ok-clause-ran g c =
    execution
    (source_over g.I.Source
    c.args.input.now c.execute.new.input)
    (sink_over g.K.Sink c.args.out.now c.execute.new.out)
    c.args.bytes.now _ c.args.steps c.in-Ok.ensures.ok c.execute.result.status
    c.execute.result.counts
    c.execute.ensures.ran

pub returns-in-Err-clause-ran : goal.returns-in-Err-clause-ran
returns-in-Err-clause-ran g c =
    unloaded _ _ c.args.bytes.now c.args.steps c.unloadable.result (refl, refl)
    (c.unloadable.ensures c.args.bytes.now c.in-Err.ensures.refused)
