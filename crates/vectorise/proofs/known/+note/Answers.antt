use Rattle.std.proofs.Common.{◌≤◌, length, take, subst, rules}
use Rattle.vectorise.proofs.Loops.{StmtsNoted, stmts_next, block_noted, arms_next, arms_noted}
use Rattle.vectorise.proofs.known.+note.Goals as goal

pub note_alts-loop-alt-preserved : goal.note_alts-loop-alt-preserved
note_alts-loop-alt-preserved t c = arms_next _ _ c.args.alts.now c.loop-alt.alt-index
    c.alt-item.result _ _ _ _ c.loop-alt-test.true c.alt-item.is c.note_shape.ensures
    c.in_ok-note_block.ensures c.loop-alt.invariant

pub note_alts-returns : goal.note_alts-returns
note_alts-returns t c = arms_noted _ _ c.args.alts.now c.loop-alt.alt-index _ _
    c.loop-alt-test.false c.loop-alt.invariant

pub note_block-loop-stmt-preserved : goal.note_block-loop-stmt-preserved
note_block-loop-stmt-preserved t c = stmts_next _ _ _ c.stmt-item.result _ _ _ c.loop-stmt-test.true
    c.stmt-item.is c.loop-stmt.invariant c.in_ok-note_stmt.ensures

pub note_block-returns : goal.note_block-returns
note_block-returns t c =
    block_noted c.args.layout.now c.args.block.now c.loop-stmt.stmt-index c.args.known.now
    c.loop-stmt.known _
    (subst (λ ss. length ss ≤ c.loop-stmt.stmt-index) c.as_slice-stmt-items.ensures
    c.loop-stmt-test.false)
    (subst (λ ss. StmtsNoted c.args.layout.now (take c.loop-stmt.stmt-index ss) c.args.known.now
    c.loop-stmt.known) c.as_slice-stmt-items.ensures c.loop-stmt.invariant)
    (search rules)
