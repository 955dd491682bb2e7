use Rattle.std.proofs.Common.{ℕ, List, Option, arith, refl}
use mathlib.Core.Logic.{inl}
use Rattle.text_commands.specs.Over.{shelf_over, source_over, sink_over}
use Rattle.text_commands.specs.declared.status.Status.{Status}
use Rattle.grin_driver.specs.Costs.{CostsText}
use Rattle.grin_driver.specs.Execution.{IsUntouched}
use Rattle.grin_driver.specs.Outcome.{Outcome}
use Rattle.grin_driver.specs.declared.cost.Cost.{Cost}
use Rattle.grin_driver.proofs.Costs.{of_file_at_cost}
use Rattle.grin_driver.proofs.Outcomes.{outcome_long}
use Rattle.grin_driver.proofs.command.run_file.Goals as goal

pub returns-in-Ok-clause-answer : goal.returns-in-Ok-clause-answer
returns-in-Ok-clause-answer g c =
    let i = (source_over g.I.Source c.args.input.now
    c.run_text.new.input) in
    let o = (sink_over g.K.Sink c.args.out.now
    c.run_text.new.out) in
    let ran = c.run_text in
    let cells = c.args.options.cells in
    let stack = c.args.options.stack in
    of_file_at_cost i o
    (shelf_over g.F.Shelf c.args.shelf.now c.read_file.new.shelf)
    1048577
    (IsUntouched i o) c.args.file.now c.in-Ok.text.items
    (λ (text : List ℕ) (s : Status). Outcome i o text cells stack c.args.steps s)
    (λ (text : List ℕ) (s : Status) (h : Outcome i o text cells stack c.args.steps s)
    (cost : Option Cost). CostsText
    i o text cells stack c.args.steps s h cost)
    ran.result.status ran.result.cost
    (λ text full long h cost. outcome_long i o c.in-Ok.text.items text cells stack c.args.steps
    (omega (arith, full))
    (omega (arith, long)) ran.result.status h ran.result.cost cost)
    c.in-Ok.ensures.read (rw c.as_slice.ensures.value at ran.ensures.outcome)

pub returns-in-Err-clause-answer : goal.returns-in-Err-clause-answer
returns-in-Err-clause-answer g c =
    rw (c.of.ensures.status, c.of.ensures.cost) (inl (c.in-Err.ensures.unread, (refl, refl)), refl)
