use Rattle.std.proofs.Common.{◌++◌, sym, ap, ◌∙◌}
use Rattle.flow_system.specs.Shown.{tables_of}
use Rattle.points_to.specs.Held.{done_part, done_items}
use Rattle.points_to.specs.Rows.{row_items}
use Rattle.points_to.proofs.Loops.{flat_next_is, flat_done}
use Rattle.points_to.proofs.Done.{flat_flat}
use Rattle.points_to.proofs.items.append_done_rows.Goals as goal

pub loop-row-preserved : goal.loop-row-preserved
loop-row-preserved c = flat_next_is (λ r. done_items (tables_of c.args.system.now) (row_items r))
    c.args.rows.now _ _ _ _ _ c.loop-row-test.true c.row-item.is c.loop-row.invariant
    c.in_ok-append_done_row.ensures

pub returns : goal.returns
returns c =
    let p = tables_of c.args.system.now in
    flat_done (λ r. done_items p (row_items r)) _ _ _ _ c.loop-row-test.false c.loop-row.invariant ∙
    ap (λ l. c.args.out.now ++ l)
    (sym (flat_flat (λ i. done_part p i.part i.word) row_items c.args.rows.now))
