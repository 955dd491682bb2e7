use Rattle.std.proofs.Common.{◌≤◌, length, arith}
use Rattle.unification.specs.Shown.{class_of}
use Rattle.unification.proofs.walk.is_acyclic.Goals as goal

pub returns-clause-stand : goal.returns-clause-stand
returns-clause-stand c = λ e i l.
    let all : length c.args.terms.now ≤ c.loop-i.i = c.loop-i-test.false in
    c.loop-i.invariant.walk.done (class_of c.args.classes.now i)
    (c.loop-i.invariant.done i (omega (arith, l, all)))
