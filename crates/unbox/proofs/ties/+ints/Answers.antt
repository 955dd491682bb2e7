use Rattle.std.proofs.Common.{rules, ◌≡◌, sym, ◌∙◌}
use Rattle.grin_syntax.specs.Tree.{act_of}
use Rattle.unbox.specs.Ties.{act_ints}
use Rattle.points_to.specs.Found.{found}
use Rattle.unbox.proofs.Loops.{block_ints_last}
use Rattle.unbox.proofs.SoFar.{ints_next, ints_done}
use Rattle.unbox.proofs.ties.+ints.Goals as goal

pub alts_ints-loop-alt-preserved : goal.alts_ints-loop-alt-preserved
alts_ints-loop-alt-preserved t c = ints_next (found c.args.flow.now) _ _ _ _ _ _
    c.loop-alt-test.true c.alt-item.is c.block_ints.ensures c.both-all.ensures c.loop-alt.invariant

pub alts_ints-returns : goal.alts_ints-returns
alts_ints-returns t c = ints_done (found c.args.flow.now) _ _ _ c.loop-alt-test.false
    c.loop-alt.invariant

pub block_ints-returns : goal.block_ints-returns
block_ints-returns t c =
    let A = found c.args.flow.now in
    let e : c.op_ints.result ≡ act_ints A (act_of c.args.block.now.last.value) = search rules in
    e ∙ sym (block_ints_last A c.args.block.now)
