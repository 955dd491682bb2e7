use Rattle.std.proofs.Common.{rules, ◌≡◌, sym, ◌∙◌}
use Rattle.grin_syntax.specs.Tree.{act_of}
use Rattle.unbox_theory.specs.Ends.{is_member, act_calls}
use Rattle.unbox.proofs.Loops.{block_calls_last}
use Rattle.unbox.proofs.SoFar.{calls_next, calls_done}
use Rattle.unbox.proofs.blocks.Members.+calls.Goals as goal

pub alts_call-loop-alt-preserved : goal.alts_call-loop-alt-preserved
alts_call-loop-alt-preserved t c = calls_next (is_member c.args.self.now.inside) _ _ _ _ _ _
    c.loop-alt-test.true c.alt-item.is c.block_calls.ensures c.either-found.ensures
    c.loop-alt.invariant

pub alts_call-returns : goal.alts_call-returns
alts_call-returns t c = calls_done (is_member c.args.self.now.inside) _ _ _ c.loop-alt-test.false
    c.loop-alt.invariant

pub block_calls-returns : goal.block_calls-returns
block_calls-returns t c =
    let S = is_member c.args.self.now.inside in
    let e : c.op_calls.result ≡ act_calls S (act_of c.args.block.now.last.value) = search rules in
    e ∙ sym (block_calls_last S c.args.block.now)
