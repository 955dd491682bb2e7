use Rattle.std.proofs.Common.{ap, ◌∙◌, ◌≤◌, rules, length, take, subst}
use Rattle.grin_syntax.specs.Tree.{program_of}
use Rattle.points_to.specs.Found.{found}
use Rattle.inline_theory.specs.Expanded.{saturated_at_64_bits}
use Rattle.apply_inline.proofs.Sums.{StmtsSize, apply_sized, stmt_more, block_sized, alt_more, alts_sized}
use Rattle.apply_inline.proofs.known.Known.+size.Goals as goal

pub alts_size-loop-alt-preserved : goal.alts_size-loop-alt-preserved
alts_size-loop-alt-preserved t c =
    alt_more (program_of c.args.self.now.program.now) (found c.args.self.now.flow.now) _ _ _ _ _ _ _
    _ c.loop-alt-test.true c.alt-item.is c.loop-alt.invariant c.shape_size-pattern.ensures
    c.block_size.ensures c.saturating_add.ensures c.saturating_add-size.ensures

pub alts_size-returns : goal.alts_size-returns
alts_size-returns t c = alts_sized (program_of c.args.self.now.program.now)
    (found c.args.self.now.flow.now) _ _ _ c.loop-alt-test.false c.loop-alt.invariant

pub block_size-loop-stmt-preserved : goal.block_size-loop-stmt-preserved
block_size-loop-stmt-preserved t c =
    stmt_more (program_of c.args.self.now.program.now) (found c.args.self.now.flow.now) _ _ _ _ _ _
    c.loop-stmt-test.true c.stmt-item.is c.loop-stmt.invariant c.stmt_size.ensures
    c.saturating_add-size.ensures

pub block_size-returns : goal.block_size-returns
block_size-returns t c =
    let p = program_of c.args.self.now.program.now in
    let A = found c.args.self.now.flow.now in
    block_sized p A c.args.block.now c.loop-stmt.stmt-index c.loop-stmt.size c.op_size.result
    c.saturating_add.result
    (subst (λ ss. length ss ≤ c.loop-stmt.stmt-index) c.as_slice-stmt-items.ensures
    c.loop-stmt-test.false)
    (subst (λ ss. StmtsSize p A (take c.loop-stmt.stmt-index ss) c.loop-stmt.size)
    c.as_slice-stmt-items.ensures c.loop-stmt.invariant)
    (search rules) c.saturating_add.ensures

pub op_size-returns-in-Apply : goal.op_size-returns-in-Apply
op_size-returns-in-Apply t c =
    c.application_size.ensures ∙ ap saturated_at_64_bits
    (apply_sized (program_of c.args.self.now.program.now) (found c.args.self.now.flow.now)
    c.args.op.now c.in-Apply.v c.in-Apply.field-1 c.in-Apply.is)
