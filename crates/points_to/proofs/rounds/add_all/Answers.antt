use Rattle.points_to.proofs.Solved.{none_added, added_more, added_all, counted_one}
use Rattle.points_to.proofs.rounds.add_all.Goals as goal

pub loop-run-init : goal.loop-run-init
loop-run-init c = none_added c.args.facts.now

pub loop-run-preserved : goal.loop-run-preserved
loop-run-preserved c =
    added_more _ _ _ _ _ _ c.as_slice-run-items.result.now _ _ c.loop-run-test.true
    c.either-added.ensures c.loop-run.invariant c.in_ok-add.ensures.grown
    c.in_ok-add.ensures.still
    (counted_one _ _ _ c.in_ok-add.ensures.still c.in_ok-add.ensures.counted)

pub returns : goal.returns
returns c =
    let a = added_all _ _ _ c.args.more.now c.as_slice-run-items.result.now _ c.loop-run-test.false
    c.as_slice-run-items.ensures c.loop-run.invariant in
    record { grown = a.grown; still = a.still; counted = a.counted }
