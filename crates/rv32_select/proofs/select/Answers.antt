use Rattle.std.proofs.Common.{refl, ◌∙◌}
use Rattle.low_code.specs.Tree.{program_of}
use Rattle.rv32_select.proofs.Entered.{next_procedure, whole_made, own_labels}
use Rattle.rv32_select.proofs.SelectedRuns.{selected_items_do}
use Rattle.rv32_select.proofs.Writes.{can_write}
use Rattle.rv32_select.proofs.select.Goals as goal

pub invariant_of-context : goal.invariant_of-context
invariant_of-context c = record {
  writable = can_write (program_of c.args.low.now) c.args.places.now c.args.cells c.args.stack
      c.requires;
}

pub loop-proc-preserved : goal.loop-proc-preserved
loop-proc-preserved c =
    next_procedure c.args.low.now c.args.places.now c.args.cells c.args.stack c.loop-proc.proc _
    c.len-proc-end.result _ _ _ _ _ _ c.len-proc-end.ensures c.loop-proc-test.true refl
    c.loop-proc.invariant c.in_ok-procedure.ensures

pub returns : goal.returns
returns c =
    let made = whole_made c.args.low.now c.args.places.now c.args.cells c.args.stack
    c.len-proc-end.result c.loop-proc.proc _ _ _ _ _ _ _ c.len-proc-end.ensures
    c.loop-proc-test.false c.new.ensures c.in_ok-start_up.ensures c.in_ok-first_call.ensures
    (own_labels c.args.low.now _ c.len.ensures) c.loop-proc.invariant
    (c.into_items.ensures ∙ c.in_ok-stops.ensures) in
    record {
      selected = made;
      does = λ there. selected_items_do (program_of c.args.low.now) c.args.places.now c.args.cells
          c.args.stack _ c.requires there made;
    }
