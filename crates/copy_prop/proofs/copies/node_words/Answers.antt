use Rattle.std.proofs.Common.{arith, sym, ◌∙◌}
use Rattle.copy_prop.proofs.Taken.{zeros_next, zeros_done}
use Rattle.copy_prop.proofs.copies.node_words.Goals as goal

pub loop-preserved : goal.loop-preserved
loop-preserved c =
    let n = zeros_next c.args.count c.loop.counter c.loop.words c.push-in-loop.new.self _
    c.loop-test.true c.in_ok-push-2.ensures.ok c.loop.invariant.many c.loop.invariant.same in
    record { many = n.0; same = n.1 }

pub returns : goal.returns
returns c = sym
    (zeros_done c.args.count c.loop.words (omega (arith, c.loop-test.false, c.loop.invariant.many)))
    ∙ c.loop.invariant.same
