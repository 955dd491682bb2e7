use Rattle.std.proofs.Common.{◌+◌, None, drop, arith, subst}
use Rattle.std.specs.Prelude.{◌≡◌, ◌∷◌, [], IfSome}
use Rattle.rv32_select.specs.Emitting.{TestsAscend}
use Rattle.rv32_select.proofs.EmittedHalves.{rises_on, rises_all}
use Rattle.rv32_select.proofs.search.rises.Goals as goal

pub loop-arm-preserved : goal.loop-arm-preserved
loop-arm-preserved c = λ h.
    let same : c.from-low.result ≡ c.in-Some.number = omega arith in
    c.loop-arm.invariant
    (rises_on c.args.word c.args.arms.now c.loop-arm.arm-index c.arm-item.result
    c.in-Some.number c.loop-arm.low c.loop-arm-test.true c.arm-item.is
    (subst (λ r. IfSome r
    (λ n. c.arm-item.result.tests ≡ record { left = c.args.word; right = n } ∷ [])) c.in-Some.is
    c.number_where.ensures) (omega arith)
    (subst (λ n. TestsAscend c.args.word (n + 1) None
    (drop (c.loop-arm.arm-index + 1) c.args.arms.now)) same h))

pub returns : goal.returns
returns c = λ e. c.loop-arm.invariant
    (rises_all c.args.word c.args.arms.now c.loop-arm.arm-index c.loop-arm.low
    c.loop-arm-test.false)
