use Rattle.std.proofs.Common.{◌++◌, sym, ap, ◌∙◌}
use Rattle.points_to.specs.Asked.{fact, facts_at}
use Rattle.points_to.specs.Runs.{items_of_item_run}
use Rattle.points_to.proofs.FromRuns.{map_flat}
use Rattle.points_to.proofs.Loops.{flat_next, flat_done}
use Rattle.points_to.proofs.targets.facts_at.Goals as goal

pub loop-run-preserved : goal.loop-run-preserved
loop-run-preserved c = flat_next (λ r. facts_at c.args.place (items_of_item_run r)) _ _ _ _ _ _
    c.loop-run-test.true c.loop-run.invariant c.in_ok-push.ensures

pub returns : goal.returns
returns c =
    let at = facts_at c.args.place in
    flat_done (λ r. at (items_of_item_run r)) _ _ _ _ c.loop-run-test.false c.loop-run.invariant
    ∙ ap (λ l. c.args.out.now ++ l)
    (sym (map_flat (fact c.args.place) items_of_item_run c.as_slice-run-items.result.now) ∙ ap
    at c.as_slice-run-items.ensures)
