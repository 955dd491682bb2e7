use Rattle.std.proofs.Common.{Some, refl, sym, ap, subst}
use Rattle.text_commands.specs.Over.{shelf_over, source_over, sink_over}
use Rattle.command_line.specs.Commands.{asked_by}
use Rattle.grin_driver.specs.Costs.{AnswersAtCost}
use Rattle.grin_driver.proofs.Commands.{untold}
use Rattle.grin_driver.proofs.Costs.{asked_run, asked_exec}
use Rattle.grin_driver.proofs.command.run_command.Goals as goal

pub returns-in-Run-clause-answer : goal.returns-in-Run-clause-answer
returns-in-Run-clause-answer g c =
    let i = (source_over g.I.Source c.args.input.now
    c.run_file.new.input) in
    let o = (sink_over g.K.Sink c.args.out.now
    c.run_file.new.out) in
    let f = (shelf_over g.F.Shelf c.args.shelf.now c.run_file.new.shelf)
    in
    let ended = c.asked.result in
    subst (λ x. AnswersAtCost f i o (Some (asked_by x)) ended.status ended.cost) (sym c.in-Run.is)
    (asked_run i o f _ _ _ _ _ c.run_file.result.status ended.status c.run_file.result.cost
    ended.cost
    c.asked.ensures.status c.asked.ensures.cost c.run_file.ensures.answer)

pub returns-in-Exec-clause-answer : goal.returns-in-Exec-clause-answer
returns-in-Exec-clause-answer g c =
    let i = (source_over g.I.Source c.args.input.now
    c.exec_file.new.input) in
    let o = (sink_over g.K.Sink c.args.out.now
    c.exec_file.new.out) in
    let f = (shelf_over g.F.Shelf c.args.shelf.now c.exec_file.new.shelf)
    in
    let ended = c.asked-in-Exec.result in
    subst (λ x. AnswersAtCost f i o (Some (asked_by x)) ended.status ended.cost) (sym c.in-Exec.is)
    (asked_exec i o f _ _ _ c.exec_file.result.status ended.status c.exec_file.result.cost
    ended.cost
    c.asked-in-Exec.ensures.status c.asked-in-Exec.ensures.cost c.exec_file.ensures.answer)

pub returns-in-Check-clause-answer : goal.returns-in-Check-clause-answer
returns-in-Check-clause-answer g c =
    let i = (source_over g.I.Source c.args.input.now c.args.input.now) in
    let o = (sink_over g.K.Sink c.args.out.now
    c.check_file.new.out) in
    let f = (shelf_over g.F.Shelf c.args.shelf.now
    c.check_file.new.shelf) in
    untold f i o _ _ _ c.of.result.status c.of.result.cost
    (ap (λ x. Some (asked_by x)) c.in-Check.is) c.of.ensures.status c.of.ensures.cost
    (c.check_file.ensures.answer, refl) refl

pub returns-in-List-clause-answer : goal.returns-in-List-clause-answer
returns-in-List-clause-answer g c =
    let i = (source_over g.I.Source c.args.input.now c.args.input.now) in
    let o = (sink_over g.K.Sink c.args.out.now
    c.list_file.new.out) in
    let f = (shelf_over g.F.Shelf c.args.shelf.now c.list_file.new.shelf)
    in
    untold f i o _ _ _ c.of-in-List.result.status c.of-in-List.result.cost
    (ap (λ x. Some (asked_by x)) c.in-List.is) c.of-in-List.ensures.status c.of-in-List.ensures.cost
    (c.list_file.ensures.answer, refl) refl

pub returns-in-Build-clause-answer : goal.returns-in-Build-clause-answer
returns-in-Build-clause-answer g c =
    let i = (source_over g.I.Source c.args.input.now c.args.input.now) in
    let o = (sink_over g.K.Sink c.args.out.now
    c.build_file.new.out) in
    let f = (shelf_over g.F.Shelf c.args.shelf.now
    c.build_file.new.shelf) in
    untold f i o _ _ _ c.of-in-Build.result.status c.of-in-Build.result.cost
    (ap (λ x. Some (asked_by x)) c.in-Build.is) c.of-in-Build.ensures.status
    c.of-in-Build.ensures.cost
    (c.build_file.ensures.answer, refl) refl

pub returns-in-Costs-clause-answer : goal.returns-in-Costs-clause-answer
returns-in-Costs-clause-answer g c =
    let i = (source_over g.I.Source c.args.input.now c.args.input.now) in
    let o = (sink_over g.K.Sink c.args.out.now
    c.costs_file.new.out) in
    let f = (shelf_over g.F.Shelf c.args.shelf.now
    c.costs_file.new.shelf) in
    untold f i o _ _ _ c.of-in-Costs.result.status c.of-in-Costs.result.cost
    (ap (λ x. Some (asked_by x)) c.in-Costs.is) c.of-in-Costs.ensures.status
    c.of-in-Costs.ensures.cost
    (c.costs_file.ensures.answer, refl) refl

pub returns-in-Trace-clause-answer : goal.returns-in-Trace-clause-answer
returns-in-Trace-clause-answer g c =
    let i = (source_over g.I.Source c.args.input.now c.args.input.now) in
    let o = (sink_over g.K.Sink c.args.out.now c.trace_file.new.out) in
    let f = (shelf_over g.F.Shelf c.args.shelf.now c.trace_file.new.shelf) in
    untold f i o _ _ _ c.of-in-Trace.result.status c.of-in-Trace.result.cost
    (ap (λ x. Some (asked_by x)) c.in-Trace.is) c.of-in-Trace.ensures.status
    c.of-in-Trace.ensures.cost
    (c.trace_file.ensures.answer, refl) refl

pub returns-in-Gen-clause-answer : goal.returns-in-Gen-clause-answer
returns-in-Gen-clause-answer g c =
    let i = (source_over g.I.Source c.args.input.now c.args.input.now) in
    let o = (sink_over g.K.Sink c.args.out.now
    c.generate.new.out) in
    let f = (shelf_over g.F.Shelf c.args.shelf.now c.args.shelf.now) in
    untold f i o _ _ _ c.of-in-Gen.result.status c.of-in-Gen.result.cost
    (ap (λ x. Some (asked_by x)) c.in-Gen.is) c.of-in-Gen.ensures.status c.of-in-Gen.ensures.cost
    (c.generate.ensures.generates, refl, refl) refl

pub returns-in-Link-clause-answer : goal.returns-in-Link-clause-answer
returns-in-Link-clause-answer g c =
    let i = (source_over g.I.Source c.args.input.now c.args.input.now) in
    let o = (sink_over g.K.Sink c.args.out.now
    c.link_files.new.out) in
    let f = (shelf_over g.F.Shelf c.args.shelf.now
    c.link_files.new.shelf) in
    untold f i o _ _ _ c.of-in-Link.result.status c.of-in-Link.result.cost
    (ap (λ x. Some (asked_by x)) c.in-Link.is) c.of-in-Link.ensures.status c.of-in-Link.ensures.cost
    (c.link_files.ensures.answer, refl) refl

pub returns-in-Lift-clause-answer : goal.returns-in-Lift-clause-answer
returns-in-Lift-clause-answer g c =
    let i = (source_over g.I.Source c.args.input.now c.args.input.now) in
    let o = (sink_over g.K.Sink c.args.out.now
    c.write_file.new.out) in
    let f = (shelf_over g.F.Shelf c.args.shelf.now
    c.write_file.new.shelf) in
    untold f i o _ _ _ c.of-in-Lift.result.status c.of-in-Lift.result.cost
    (ap (λ x. Some (asked_by x)) c.in-Lift.is) c.of-in-Lift.ensures.status c.of-in-Lift.ensures.cost
    (c.write_file.ensures.answer, refl) refl

pub returns-in-Match-clause-answer : goal.returns-in-Match-clause-answer
returns-in-Match-clause-answer g c =
    let i = (source_over g.I.Source c.args.input.now c.args.input.now) in
    let o = (sink_over g.K.Sink c.args.out.now
    c.write_file-in-Match.new.out) in
    let f = (shelf_over g.F.Shelf c.args.shelf.now
    c.write_file-in-Match.new.shelf) in
    untold f i o _ _ _ c.of-in-Match.result.status c.of-in-Match.result.cost
    (ap (λ x. Some (asked_by x)) c.in-Match.is) c.of-in-Match.ensures.status
    c.of-in-Match.ensures.cost
    (c.write_file-in-Match.ensures.answer, refl) refl

pub returns-in-Types-clause-answer : goal.returns-in-Types-clause-answer
returns-in-Types-clause-answer g c =
    let i = (source_over g.I.Source c.args.input.now c.args.input.now) in
    let o = (sink_over g.K.Sink c.args.out.now
    c.write_file-in-Types.new.out) in
    let f = (shelf_over g.F.Shelf c.args.shelf.now
    c.write_file-in-Types.new.shelf) in
    untold f i o _ _ _ c.of-in-Types.result.status c.of-in-Types.result.cost
    (ap (λ x. Some (asked_by x)) c.in-Types.is) c.of-in-Types.ensures.status
    c.of-in-Types.ensures.cost
    (c.write_file-in-Types.ensures.answer, refl) refl

pub returns-in-Sides-clause-answer : goal.returns-in-Sides-clause-answer
returns-in-Sides-clause-answer g c =
    let i = (source_over g.I.Source c.args.input.now c.args.input.now) in
    let o = (sink_over g.K.Sink c.args.out.now
    c.write_file-in-Sides.new.out) in
    let f = (shelf_over g.F.Shelf c.args.shelf.now
    c.write_file-in-Sides.new.shelf) in
    untold f i o _ _ _ c.of-in-Sides.result.status c.of-in-Sides.result.cost
    (ap (λ x. Some (asked_by x)) c.in-Sides.is) c.of-in-Sides.ensures.status
    c.of-in-Sides.ensures.cost
    (c.write_file-in-Sides.ensures.answer, refl) refl

pub returns-in-Points-clause-answer : goal.returns-in-Points-clause-answer
returns-in-Points-clause-answer g c =
    let i = (source_over g.I.Source c.args.input.now c.args.input.now) in
    let o = (sink_over g.K.Sink c.args.out.now
    c.write_file-in-Points.new.out) in
    let f = (shelf_over g.F.Shelf c.args.shelf.now
    c.write_file-in-Points.new.shelf) in
    untold f i o _ _ _ c.of-in-Points.result.status c.of-in-Points.result.cost
    (ap (λ x. Some (asked_by x)) c.in-Points.is) c.of-in-Points.ensures.status
    c.of-in-Points.ensures.cost
    (c.write_file-in-Points.ensures.answer, refl) refl

pub returns-in-Profile-clause-answer : goal.returns-in-Profile-clause-answer
returns-in-Profile-clause-answer g c =
    let i = (source_over g.I.Source c.args.input.now c.args.input.now) in
    let o = (sink_over g.K.Sink c.args.out.now
    c.write_file-in-Profile.new.out) in
    let f = (shelf_over g.F.Shelf c.args.shelf.now
    c.write_file-in-Profile.new.shelf) in
    untold f i o _ _ _ c.of-in-Profile.result.status c.of-in-Profile.result.cost
    (ap (λ x. Some (asked_by x)) c.in-Profile.is) c.of-in-Profile.ensures.status
    c.of-in-Profile.ensures.cost
    (c.write_file-in-Profile.ensures.answer, refl) refl
