use Rattle.points_to.proofs.copies.Copies.pass.Goals as goal

pub loop-k-init : goal.loop-k-init
loop-k-init c = λ p cs are k. k

pub loop-k-preserved : goal.loop-k-preserved
loop-k-preserved c = λ p cs are k. c.in_ok-pass_to.ensures p cs are (c.loop-k.invariant p cs are k)

pub returns : goal.returns
returns c = c.loop-k.invariant
