use Rattle.std.proofs.Common.{[], sym, ap, ◌∙◌}
use Rattle.points_to.specs.ByTag.{field_item, field_items}
use Rattle.points_to.specs.Runs.{items_of_item_run}
use Rattle.points_to.proofs.Done.{flat_flat}
use Rattle.points_to.proofs.Loops.{flat_next, flat_done}
use Rattle.points_to.proofs.by_tag.fields_by_tag.Goals as goal

pub loop-run-preserved : goal.loop-run-preserved
loop-run-preserved c = λ t. flat_next (λ r. field_items t (items_of_item_run r)) _ _ _ [] _ _
    c.loop-run-test.true (c.loop-run.invariant t) (c.in_ok-put_field.ensures t)

pub returns : goal.returns
returns c = λ t.
    flat_done (λ r. field_items t (items_of_item_run r)) _ _ [] _ c.loop-run-test.false
    (c.loop-run.invariant t)
    ∙ sym (flat_flat (λ i. field_item t i.part i) items_of_item_run c.as_slice-run-items.result.now)
    ∙ ap (field_items t) c.as_slice-run-items.ensures
