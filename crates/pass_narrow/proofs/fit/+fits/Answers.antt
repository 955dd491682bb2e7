use Rattle.std.proofs.Common.{rules}
use Rattle.pass_narrow.proofs.Loops.{arms_fit_next, block_fits}
use Rattle.pass_narrow.proofs.fit.+fits.Goals as goal

pub alts_fit-loop-alt-preserved : goal.alts_fit-loop-alt-preserved
alts_fit-loop-alt-preserved t c = arms_fit_next _ _ _ c.args.alts.now c.loop-alt.alt-index
    c.alt-item.result _ _ _ _ c.loop-alt-test.true c.alt-item.is c.loop-alt.invariant
    c.in_ok-block_fits.ensures c.both-fit.ensures

pub block_fits-returns : goal.block_fits-returns
block_fits-returns t c = block_fits _ _ _ c.args.block.now c.in_ok-fits.fits (search rules)
