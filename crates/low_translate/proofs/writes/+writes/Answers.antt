use Rattle.std.proofs.Common.{◌≤◌, ap, sym, ◌∙◌, subst, take, length}
use Rattle.std.specs.Prelude.{max}
use Rattle.grin_syntax.specs.Tree.{act_of, before_of}
use Rattle.low_translate.specs.Writes.{cells_write, act_writes, code_writes}
use Rattle.low_translate.proofs.Written.{Statements, store_writes, bind_writes, statement_more, block_done, alternative_more, alternatives_done}
use Rattle.low_translate.proofs.writes.+writes.Goals as goal

pub block-loop-stmt-preserved : goal.block-loop-stmt-preserved
block-loop-stmt-preserved t c = statement_more c.args.tags.now c.as_slice-stmt-items.result.now
    c.loop-stmt.stmt-index _ c.loop-stmt.most c.statement.result _ c.loop-stmt-test.true
    c.stmt-item.is c.loop-stmt.invariant c.statement.ensures c.max-most.ensures

pub block-returns : goal.block-returns
block-returns t c = block_done c.args.tags.now c.args.block.now c.loop-stmt.stmt-index
    c.loop-stmt.most c.operation.result _
    (subst (λ ss. length ss ≤ c.loop-stmt.stmt-index) c.as_slice-stmt-items.ensures
    c.loop-stmt-test.false)
    (subst (λ ss. Statements c.args.tags.now (take c.loop-stmt.stmt-index ss) c.loop-stmt.most)
    c.as_slice-stmt-items.ensures c.loop-stmt.invariant)
    (c.operation.ensures ∙ ap (λ o. act_writes c.args.tags.now (act_of o)) c.deref.ensures)
    c.max.ensures

pub alternatives-loop-alt-preserved : goal.alternatives-loop-alt-preserved
alternatives-loop-alt-preserved t c = alternative_more c.args.tags.now c.args.alts.now
    c.loop-alt.alt-index _ c.loop-alt.most c.block.result _ c.loop-alt-test.true c.alt-item.is
    c.loop-alt.invariant c.block.ensures c.max-most.ensures

pub alternatives-returns : goal.alternatives-returns
alternatives-returns t c = alternatives_done c.args.tags.now c.args.alts.now c.loop-alt.alt-index _
    c.loop-alt-test.false c.loop-alt.invariant

pub statement-returns-in-Store : goal.statement-returns-in-Store
statement-returns-in-Store t c = λ b. ap (λ s. code_writes c.args.tags.now (before_of s b))
    c.in-Store.is ∙ store_writes c.args.tags.now c.in-Store.stored b ∙ ap
    (λ n. max n (code_writes c.args.tags.now b))
    (sym (c.cells.ensures ∙ ap (cells_write c.args.tags.now) c.as_slice.ensures))

pub statement-returns-in-Bind : goal.statement-returns-in-Bind
statement-returns-in-Bind t c = λ b. ap (λ s. code_writes c.args.tags.now (before_of s b))
    c.in-Bind.is ∙ bind_writes c.args.tags.now _ _ b ∙ ap
    (λ n. max n (code_writes c.args.tags.now b)) (sym c.operation.ensures)
