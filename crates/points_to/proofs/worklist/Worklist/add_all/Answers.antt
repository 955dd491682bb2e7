use Rattle.points_to.proofs.UntilNoneWaits.{none_added_to, more_added_to, all_added_to}
use Rattle.points_to.proofs.worklist.Worklist.add_all.Goals as goal

pub loop-run-init : goal.loop-run-init
loop-run-init c = none_added_to c.args.self.now

pub loop-run-preserved : goal.loop-run-preserved
loop-run-preserved c =
    let a = c.in_ok-add.ensures in
    more_added_to _ _ _ _ _ _ c.as_slice-run-items.result.now _ _ c.loop-run-test.true
    c.either-added.ensures c.loop-run.invariant a.grown a.spread a.still a.counted

pub returns : goal.returns
returns c =
    let a = all_added_to _ _ _ c.args.more.now c.as_slice-run-items.result.now _
    c.loop-run-test.false c.as_slice-run-items.ensures c.loop-run.invariant in
    record { grown = a.facts.grown; spread = a.spread; still = a.still; counted = a.facts.counted }
