use Rattle.std.proofs.Common.{◌*◌, refl}
use Rattle.text_commands.specs.Over.{source_over, sink_over}
use Rattle.grin_driver.proofs.Costs.{unmade}
use Rattle.grin_driver.proofs.Codes.{one_each}
use Rattle.grin_driver.proofs.Outcomes.{outcome_at_cost}
use Rattle.grin_driver.proofs.run.run_text.Goals as goal

pub of_run-requires-clause-width : goal.of_run-requires-clause-width
of_run-requires-clause-width g c = c.in-Ok.ensures.kept.some_width

pub of_run-requires-clause-one_each : goal.of_run-requires-clause-one_each
of_run-requires-clause-one_each g c = one_each _ _ _ c.in-Ok.built c.in-Ok.ensures.kept

pub returns-in-Ok-clause-outcome : goal.returns-in-Ok-clause-outcome
returns-in-Ok-clause-outcome g c =
    let kept = c.in-Ok.ensures.kept in
    let ran = c.exec_counted-ran in
    let is = rw c.status_of_exit-status.ensures at c.of_run.ensures in
    rw c.status_of_exit-status.ensures (outcome_at_cost
    (source_over g.I.Source
    c.args.input.now
    c.exec_counted-ran.new.input)
    (sink_over g.K.Sink c.args.out.now
    c.exec_counted-ran.new.out)
    c.args.text.now c.args.options.cells c.args.options.stack c.args.steps c.in-Ok.built.image.items
    kept.from
    (4 * c.in-Ok.built.width) c.in-Ok.built.starts.items c.in-Ok.built.names.items kept.width
    kept.starts kept.names
    ran.result.status ran.result.counts (rw c.as_slice.ensures.value at ran.ensures.ran)
    c.of_run.result is)

pub returns-in-Err-clause-outcome : goal.returns-in-Err-clause-outcome
returns-in-Err-clause-outcome g c =
    unmade _ _ c.args.text.now c.args.options.cells c.args.options.stack c.args.steps
    c.in-Err.status (refl, refl)
    c.in-Err.ensures.unmade
