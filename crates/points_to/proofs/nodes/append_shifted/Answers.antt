use Rattle.std.proofs.Common.{◌++◌, sym, ap, ◌∙◌}
use Rattle.std.specs.List.{flat_map}
use Rattle.flow_system.specs.Shown.{tables_of}
use Rattle.points_to.specs.Runs.{items_of_item_run}
use Rattle.points_to.specs.Shift.{shifted_items}
use Rattle.points_to.proofs.Done.{flat_flat}
use Rattle.points_to.proofs.Loops.{flat_next, flat_done}
use Rattle.points_to.proofs.nodes.append_shifted.Goals as goal

pub loop-run-preserved : goal.loop-run-preserved
loop-run-preserved c = flat_next
    (λ r. flat_map (shifted_items (tables_of c.args.system.now) c.args.by) (items_of_item_run r)) _
    _ _ _ _ _ c.loop-run-test.true c.loop-run.invariant c.in_ok-shift_run.ensures

pub returns : goal.returns
returns c =
    let by = shifted_items (tables_of c.args.system.now) c.args.by in
    flat_done (λ r. flat_map by (items_of_item_run r)) _ _ _ _ c.loop-run-test.false
    c.loop-run.invariant
    ∙ ap (λ l. c.args.out.now ++ l)
    (sym (flat_flat by items_of_item_run c.as_slice-run-items.result.now) ∙ ap (flat_map by)
    c.as_slice-run-items.ensures)
