use Rattle.low_translate.proofs.LastOps.{none_so_far, one_so_far, all_learnt, call_learnt, nested_learnt, case_learnt}
use Rattle.low_translate.proofs.results.Ends.+ends.Goals as goal
use Rattle.seq.proofs.Results.{ok_follows}

pub op-returns-in_ok-push-in-Call : goal.op-returns-in_ok-push-in-Call
op-returns-in_ok-push-in-Call t c = call_learnt c.args.self.now.node c.args.self.now.calls.items _ _
    c.in-Call.f _ c.in-Call.is c.in_ok-push-in-Call.ensures.items

pub op-returns-in-Nested : goal.op-returns-in-Nested
op-returns-in-Nested t c = ok_follows _ _ c.op.result
    (λ w h. nested_learnt c.args.self.now.node _ c.args.self.now.calls.items _ w _ c.in-Nested.block
    _ _ c.in-Nested.is c.deref.ensures c.deref-in-Nested.ensures h) c.op.ensures

pub op-returns-in-Case : goal.op-returns-in-Case
op-returns-in-Case t c = ok_follows _ _ c.alts.result
    (λ w h. case_learnt c.args.self.now.node _ c.args.self.now.calls.items _ w _ _ c.in-Case.alts _
    c.in-Case.is c.as_slice.ensures h) c.alts.ensures

pub alts-loop-alt-init : goal.alts-loop-alt-init
alts-loop-alt-init t c = none_so_far _ _ _

pub alts-loop-alt-preserved : goal.alts-loop-alt-preserved
alts-loop-alt-preserved t c = one_so_far c.args.self.now.node _ _ c.args.self.now.calls.items _ _
    c.loop-alt.widest _ _ c.args.alts.now c.loop-alt.alt-index c.alt-item.result _
    c.loop-alt-test.true c.alt-item.is c.deref.ensures c.max-widest.ensures c.loop-alt.invariant
    c.in_ok-width.ensures

pub alts-returns : goal.alts-returns
alts-returns t c = all_learnt c.args.self.now.node _ c.args.self.now.calls.items _ _ c.args.alts.now
    c.loop-alt.alt-index c.loop-alt-test.false c.loop-alt.invariant
