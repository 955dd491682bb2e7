use Rattle.std.proofs.Common.{◌≤◌, ◌++◌, [], ◌∷◌, length, sym, ap, ◌∙◌, subst}
use Rattle.seq.proofs.Lists.{append_again}
use Rattle.grin_syntax.specs.Tree.{act_of, code_of}
use Rattle.fetch_passes.specs.Notes.{with_own_size, act_trace, code_trace, arms_trace}
use Rattle.fetch_passes.proofs.Scanned.{StmtsLeft, block_whole, arms_next, arms_whole, arm_used, arm_sizes, none_used, none_sizes, end_used, end_sizes}
use Rattle.fetch_passes.proofs.scan.Scan.+scan.Goals as goal

pub alts-loop-alt-preserved : goal.alts-loop-alt-preserved
alts-loop-alt-preserved t c = record {
  used = arms_next (λ b. (code_trace b).used) (λ r. (arms_trace r).used) arm_used _ _ _
      c.args.alts.now c.loop-alt.alt-index c.alt-item.result c.loop-alt-test.true c.alt-item.is
      c.in_ok-inner.ensures.used c.loop-alt.invariant.used;
  sizes = arms_next (λ b. (with_own_size (code_trace b)).sizes) (λ r. (arms_trace r).sizes)
      arm_sizes _ _ _ c.args.alts.now c.loop-alt.alt-index c.alt-item.result c.loop-alt-test.true
      c.alt-item.is c.in_ok-inner.ensures.sizes c.loop-alt.invariant.sizes;
}

pub alts-returns-clause-used : goal.alts-returns-clause-used
alts-returns-clause-used t c = arms_whole (λ b. (code_trace b).used) (λ r. (arms_trace r).used)
    none_used _ _ c.args.alts.now c.loop-alt.alt-index c.loop-alt-test.false
    c.loop-alt.invariant.used

pub alts-returns-clause-sizes : goal.alts-returns-clause-sizes
alts-returns-clause-sizes t c = arms_whole (λ b. (with_own_size (code_trace b)).sizes)
    (λ r. (arms_trace r).sizes) none_sizes _ _ c.args.alts.now c.loop-alt.alt-index
    c.loop-alt-test.false c.loop-alt.invariant.sizes

pub block-returns-clause-used : goal.block-returns-clause-used
block-returns-clause-used t c = block_whole (λ b. (code_trace b).used) _ _ _ c.args.block.now
    c.loop-stmt.stmt-index
    (subst (λ ss. length ss ≤ c.loop-stmt.stmt-index) c.as_slice-stmt-items.ensures
    c.loop-stmt-test.false)
    (subst (λ ss. StmtsLeft (λ b. (code_trace b).used) c.args.self.now.used.items
    c.loop-stmt.self.used.items ss c.loop-stmt.stmt-index) c.as_slice-stmt-items.ensures
    c.loop-stmt.invariant.used)
    (c.in_ok-op.ensures.used ∙ ap (λ o. c.loop-stmt.self.used.items ++ (act_trace (act_of o)).used)
    c.deref.ensures ∙ ap (λ l. c.loop-stmt.self.used.items ++ l)
    (sym (end_used c.args.block.now.last.value)))

pub block-returns-clause-sizes : goal.block-returns-clause-sizes
block-returns-clause-sizes t c = block_whole (λ b. (code_trace b).sizes) _ _ _ c.args.block.now
    c.loop-stmt.stmt-index
    (subst (λ ss. length ss ≤ c.loop-stmt.stmt-index) c.as_slice-stmt-items.ensures
    c.loop-stmt-test.false)
    (subst (λ ss. StmtsLeft (λ b. (code_trace b).sizes) c.args.self.now.sizes.items
    c.loop-stmt.self.sizes.items ss c.loop-stmt.stmt-index) c.as_slice-stmt-items.ensures
    c.loop-stmt.invariant.sizes)
    (c.in_ok-op.ensures.sizes ∙ ap
    (λ o. c.loop-stmt.self.sizes.items ++ (with_own_size (act_trace (act_of o))).sizes)
    c.deref.ensures ∙ ap (λ l. c.loop-stmt.self.sizes.items ++ l)
    (sym (end_sizes c.args.block.now.last.value)))

pub inner-returns-clause-sizes : goal.inner-returns-clause-sizes
inner-returns-clause-sizes t c =
    let old = c.args.self.now.sizes.items in
    let b = code_trace (code_of c.args.block.now) in
    c.in_ok-finish.ensures.sizes (record { used = c.args.self.now.used.items; sizes = old }) b
    c.in_ok-at.ensures.place.0 c.in_ok-at.ensures.place.1
    (c.in_ok-block.ensures.used ∙ ap (λ l. l ++ b.used) c.in_ok-at.ensures.used)
    (c.in_ok-block.ensures.sizes ∙ ap (λ l. l ++ b.sizes) c.in_ok-at.ensures.sizes ∙ append_again
    old (record { uses = 0; pieces = 0 } ∷ []) b.sizes)

pub op-returns-clause-sizes : goal.op-returns-clause-sizes
op-returns-clause-sizes t c =
    let old = c.args.self.now.sizes.items in
    let b = act_trace (act_of c.args.op.now) in
    c.in_ok-finish.ensures.sizes (record { used = c.args.self.now.used.items; sizes = old }) b
    c.in_ok-at.ensures.place.0 c.in_ok-at.ensures.place.1
    (c.in_ok-inside.ensures.used ∙ ap (λ l. l ++ b.used) c.in_ok-at.ensures.used)
    (c.in_ok-inside.ensures.sizes ∙ ap (λ l. l ++ b.sizes) c.in_ok-at.ensures.sizes ∙ append_again
    old (record { uses = 0; pieces = 0 } ∷ []) b.sizes)
