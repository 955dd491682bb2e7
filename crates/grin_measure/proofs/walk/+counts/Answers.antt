use Rattle.std.proofs.Common.{◌≤◌, ap, refl, sym, ◌∙◌, subst, take, length}
use Rattle.grin_syntax.specs.Tree.{act_of, before_of}
use Rattle.grin_meaning.specs.Slim.{node_words, end_words}
use Rattle.grin_measure.specs.Counts.{counts, sum, of_cells, of_act, of_code, of_pattern, of_target}
use Rattle.grin_measure.proofs.Loops.{Statements, no_statements, statement_more, block_counted, store_counted, bind_counted, Alternatives, no_alternatives, alternative_more, arms_counted}
use Rattle.grin_measure.proofs.walk.+counts.Goals as goal

pub alternatives-loop-alt-init : goal.alternatives-loop-alt-init
alternatives-loop-alt-init t c = subst (Alternatives _) (sym c.none-counts.ensures) no_alternatives

pub alternatives-loop-alt-preserved : goal.alternatives-loop-alt-preserved
alternatives-loop-alt-preserved t c =
    let own = c.and.ensures ∙ (λ i. sum (c.pattern.ensures i) (c.block.ensures i)) in
    subst (Alternatives _) (sym (c.and-counts.ensures ∙ ap (sum c.loop-alt.counts) own))
    (alternative_more c.args.alts.now c.loop-alt.alt-index _ c.loop-alt.counts c.loop-alt-test.true
    c.alt-item.is c.loop-alt.invariant)

pub alternatives-returns : goal.alternatives-returns
alternatives-returns t c = arms_counted c.args.alts.now c.loop-alt.alt-index c.loop-alt.counts
    c.loop-alt-test.false c.loop-alt.invariant

pub block-loop-stmt-init : goal.block-loop-stmt-init
block-loop-stmt-init t c = subst (Statements _) (sym c.none-counts.ensures) no_statements

pub block-loop-stmt-preserved : goal.block-loop-stmt-preserved
block-loop-stmt-preserved t c =
    subst (Statements _) (sym c.and-counts.ensures)
    (statement_more c.as_slice-stmt-items.result.now c.loop-stmt.stmt-index _ c.loop-stmt.counts
    c.statement.result c.loop-stmt-test.true c.stmt-item.is c.loop-stmt.invariant
    c.statement.ensures)

pub block-returns : goal.block-returns
block-returns t c =
    let last = c.words-last.ensures ∙ ap (λ n. counts 0 0 n 0)
    (c.value_words.ensures.last refl ∙ ap (λ o. end_words (act_of o)) c.deref.ensures) in
    let inner = c.operation.ensures ∙ ap (λ o. of_act (act_of o)) c.deref-2.ensures in
    let own = c.and.ensures ∙ (λ i. sum (last i) (inner i)) in
    c.and-2.ensures ∙ ap (sum c.loop-stmt.counts) own
    ∙ block_counted c.args.block.now c.loop-stmt.stmt-index c.loop-stmt.counts
    (subst (λ ss. length ss ≤ c.loop-stmt.stmt-index) c.as_slice-stmt-items.ensures
    c.loop-stmt-test.false)
    (subst (λ ss. Statements (take c.loop-stmt.stmt-index ss) c.loop-stmt.counts)
    c.as_slice-stmt-items.ensures c.loop-stmt.invariant)

pub statement-returns-in-Store : goal.statement-returns-in-Store
statement-returns-in-Store t c =
    λ b. ap (λ s. of_code (before_of s b)) c.in-Store.is ∙ store_counted c.in-Store.stored b ∙ ap
    (λ n. sum n (of_code b)) (sym (c.cells.ensures ∙ ap of_cells c.as_slice.ensures))

pub statement-returns-in-Bind : goal.statement-returns-in-Bind
statement-returns-in-Bind t c =
    let words = c.words-bound.ensures ∙ ap (λ n. counts 0 0 n 0) (c.value_words.ensures.bound refl)
    in
    let own = c.and.ensures ∙ (λ i. sum (words i) (c.operation.ensures i)) in
    let all = c.and-in-Bind.ensures ∙ (λ i. sum (c.target.ensures i) (own i)) in
    λ b. ap (λ s. of_code (before_of s b)) c.in-Bind.is ∙ bind_counted c.in-Bind.to c.in-Bind.op b ∙
    ap (λ n. sum n (of_code b)) (sym all)
