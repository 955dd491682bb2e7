use Rattle.std.proofs.Common.{◌++◌, sym, ap, ◌∙◌}
use Rattle.points_to.specs.Held.{word_if_in_part, words_in_part}
use Rattle.points_to.specs.Runs.{items_of_item_run}
use Rattle.points_to.proofs.Done.{flat_flat}
use Rattle.points_to.proofs.Loops.{flat_next, flat_done}
use Rattle.points_to.proofs.nodes.words_in_part.Goals as goal

pub loop-run-preserved : goal.loop-run-preserved
loop-run-preserved c = flat_next (λ r. words_in_part c.args.part (items_of_item_run r)) _ _ _ _ _ _
    c.loop-run-test.true c.loop-run.invariant c.in_ok-pick.ensures

pub returns : goal.returns
returns c =
    flat_done (λ r. words_in_part c.args.part (items_of_item_run r)) _ _ _ _ c.loop-run-test.false
    c.loop-run.invariant
    ∙ ap (λ l. c.args.out.now ++ l)
    (sym (flat_flat (word_if_in_part c.args.part) items_of_item_run
    c.as_slice-run-items.result.now) ∙ ap (words_in_part c.args.part)
    c.as_slice-run-items.ensures)
