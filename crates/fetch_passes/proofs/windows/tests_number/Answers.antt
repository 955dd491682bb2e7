use Rattle.fetch_passes.proofs.Firsts.{tests_next, tests_all}
use Rattle.fetch_passes.proofs.windows.tests_number.Goals as goal

pub loop-alt-preserved : goal.loop-alt-preserved
loop-alt-preserved c = tests_next c.args.alts.now c.loop-alt.alt-index c.alt-item.result _ _ _
    c.loop-alt-test.true c.alt-item.is c.is_int.ensures c.either-tests.ensures c.loop-alt.invariant

pub returns : goal.returns
returns c = tests_all c.args.alts.now c.loop-alt.alt-index _ c.loop-alt-test.false
    c.loop-alt.invariant
