use Rattle.std.proofs.Common.{arith}
use Rattle.test_unify.proofs.Building.{below_at}
use Rattle.test_unify.proofs.equations.are_below.Goals as goal

pub returns : goal.returns
returns c = λ e. below_at c.args.places.now c.args.count
    (λ k l. c.loop-place.invariant k (omega (arith, l, c.loop-place-test.false)))
