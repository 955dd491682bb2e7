use Rattle.std.proofs.Common.{refl, arith, ◌+◌, ◌≤◌, ◌++◌, [], ◌∷◌, map, take, length, sym, ap, ◌∙◌, subst, rules}
use Rattle.grin_syntax.specs.declared.program.Stmt.TheVariants.{Store}
use Rattle.grin_syntax.specs.Tree.{end, act_of, before_of, arm_of, arms_of, code_of, all_before}
use Rattle.grin_syntax.proofs.TreeOf.{code_of-parts, act_of-Case}
use Rattle.fetch_passes.specs.Split.{end_with, new_variables_of_end, made_act, split_act, split_code}
use Rattle.fetch_passes.proofs.Splits.{BlockSoFar, ArmsSoFar, store_split, arms_none, arms_next, case_done, case_made, block_none, block_next, block_done, block_made}
use Rattle.fetch_passes.specs.Notes.{Here, with_own_size, act_trace, code_trace, arms_trace}
use Rattle.fetch_passes.specs.Asked.{SpanCoversBlock}
use Rattle.fetch_passes.proofs.Places.{here_within}
use Rattle.fetch_passes.proofs.Walked.{rest_is, stmt_spans, arm_here, arms_past, nested_here, stmts_follow, bind_here, bind_rest, last_here}
use Rattle.fetch_passes.proofs.split.FetchSplitter.+split.Goals as goal

pub stmt-returns-in_ok-push-in-Store-clause-is : goal.stmt-returns-in_ok-push-in-Store-clause-is
stmt-returns-in_ok-push-in-Store-clause-is t c =
    (λ i. all_before (map before_of c.push.new.self)
    (split_code c.args.self.now.tags.now c.args.now.now.names c.args.now.now.cell
    (c.new.ensures i) c.args.fresh.now.next
    (all_before (map before_of c.args.rest.now) (end (act_of c.args.last.now)))))
    ∙ store_split c.args.self.now.tags.now c.args.now.now.names c.args.now.now.cell
    c.args.now.now.waits c.args.fresh.now.next c.in-Store.cells c.args.stmt.now c.args.made.now
    c.push.new.self (all_before (map before_of c.args.rest.now) (end (act_of c.args.last.now)))
    c.in-Store.is
    (c.in_ok-push-in-Store.ensures.ok ∙ ap (λ u. c.args.made.now ++ Store u ∷ []) (search rules))

pub op-loop-alt-preserved : goal.op-loop-alt-preserved
op-loop-alt-preserved t c = record {
  scrutinee = c.loop-alt.invariant.scrutinee;
  later = let m = c.loop-alt.invariant.later in let e = c.in_ok-place-in-Case-2.ensures.piece
      in omega (arith, m, e);
  places = arms_past c.args.self.now.notes.now c.loop-alt.place c.in_ok-place-in-Case-2.place
      c.as_slice-alt-items.result.now c.loop-alt.alt-index c.alt-item.result c.loop-alt-test.true
      c.alt-item.is c.in_ok-place-in-Case-2.ensures c.loop-alt.invariant.places;
  some = arms_next c.args.self.now.tags.now c.args.names.now c.args.cell c.args.waits.now
      c.args.fresh.now.next c.loop-alt.fresh.next _ c.as_slice-alt-items.result.now c.loop-alt.made
      _ c.loop-alt.alt-index c.alt-item.result c.in_ok-alt-in-Case.field-0 c.loop-alt-test.true
      c.alt-item.is
      c.loop-alt.invariant.some c.in_ok-alt-in-Case.ensures.pattern c.in_ok-alt-in-Case.ensures.body
      c.in_ok-alt-in-Case.ensures.next c.in_ok-push-in-Case.ensures.ok;
}

pub op-returns-after-loop-alt-clause-is : goal.op-returns-after-loop-alt-clause-is
op-returns-after-loop-alt-clause-is t c = case_done c.args.self.now.tags.now c.args.names.now
    c.args.cell c.args.waits.now c.args.fresh.now.next c.loop-alt.fresh.next c.args.op.now
    c.in-Case.v _ c.in-Case.alts c.loop-alt.made c.loop-alt.alt-index c.in-Case.is
    (subst (λ as'. length as' ≤ c.loop-alt.alt-index) c.as_slice-alt-items.ensures
    c.loop-alt-test.false) (c.loop-alt.invariant.scrutinee ∙ c.in_ok-v-in-Case.ensures)
    (subst (λ as'. ArmsSoFar c.args.self.now.tags.now c.args.names.now c.args.cell c.args.waits.now
    c.args.fresh.now.next c.loop-alt.fresh.next (take c.loop-alt.alt-index as') c.loop-alt.made)
    c.as_slice-alt-items.ensures c.loop-alt.invariant.some)

pub op-returns-after-loop-alt-clause-next : goal.op-returns-after-loop-alt-clause-next
op-returns-after-loop-alt-clause-next t c = case_made c.args.self.now.tags.now c.args.names.now
    c.args.cell c.args.waits.now c.args.fresh.now.next c.loop-alt.fresh.next c.args.op.now
    c.in-Case.v c.in-Case.alts c.loop-alt.made c.loop-alt.alt-index c.in-Case.is
    (subst (λ as'. length as' ≤ c.loop-alt.alt-index) c.as_slice-alt-items.ensures
    c.loop-alt-test.false)
    (subst (λ as'. ArmsSoFar c.args.self.now.tags.now c.args.names.now c.args.cell c.args.waits.now
    c.args.fresh.now.next c.loop-alt.fresh.next (take c.loop-alt.alt-index as') c.loop-alt.made)
    c.as_slice-alt-items.ensures c.loop-alt.invariant.some)

pub block-returns-clause-is : goal.block-returns-clause-is
block-returns-clause-is t c = block_done c.args.self.now.tags.now c.args.names c.loop-stmt.now.names
    c.args.cell c.loop-stmt.now.cell c.loop-stmt.now.waits c.args.fresh.now.next
    c.loop-stmt.fresh.next _ c.args.block.now _ c.args.before c.loop-stmt.made c.end_with.new.made
    c.loop-stmt.stmt-index c.in_ok-op.op c.in_ok-last.last
    (subst (λ ss. length ss ≤ c.loop-stmt.stmt-index) c.as_slice-stmts.ensures
    c.loop-stmt-test.false)
    (subst (λ ss. BlockSoFar c.args.self.now.tags.now c.args.names c.loop-stmt.now.names c.args.cell
    c.loop-stmt.now.cell c.loop-stmt.now.waits c.args.fresh.now.next c.loop-stmt.fresh.next ss
    c.args.before c.loop-stmt.made c.loop-stmt.stmt-index
    (end (act_of c.args.block.now.last.value))) c.as_slice-stmts.ensures
    c.loop-stmt.invariant.some)
    (c.in_ok-op.ensures.is ∙
    (λ i. split_act c.args.self.now.tags.now (c.as_slice-names.ensures i) c.loop-stmt.now.cell
    (c.as_slice.ensures i) c.loop-stmt.fresh.next (act_of (c.deref-2.ensures i))))
    (c.in_ok-op.ensures.next ∙
    (λ i. c.loop-stmt.fresh.next + made_act c.args.self.now.tags.now (c.as_slice.ensures i)
    (act_of (c.deref-2.ensures i))))
    (c.in_ok-last.ensures.is ∙ ap
    (λ us. all_before (map before_of c.loop-stmt.made)
    (end_with us c.op.new.fresh.next (act_of c.in_ok-op.op))) c.as_slice-2.ensures)
    (search rules) (search rules)

pub block-returns-clause-next : goal.block-returns-clause-next
block-returns-clause-next t c = block_made c.args.self.now.tags.now c.args.names
    c.loop-stmt.now.names c.args.cell c.loop-stmt.now.cell c.loop-stmt.now.waits
    c.args.fresh.now.next c.loop-stmt.fresh.next _ _ c.args.block.now c.args.before c.loop-stmt.made
    c.loop-stmt.stmt-index c.in_ok-op.op
    (subst (λ ss. length ss ≤ c.loop-stmt.stmt-index) c.as_slice-stmts.ensures
    c.loop-stmt-test.false)
    (subst (λ ss. BlockSoFar c.args.self.now.tags.now c.args.names c.loop-stmt.now.names c.args.cell
    c.loop-stmt.now.cell c.loop-stmt.now.waits c.args.fresh.now.next c.loop-stmt.fresh.next ss
    c.args.before c.loop-stmt.made c.loop-stmt.stmt-index
    (end (act_of c.args.block.now.last.value))) c.as_slice-stmts.ensures
    c.loop-stmt.invariant.some)
    (c.in_ok-op.ensures.is ∙
    (λ i. split_act c.args.self.now.tags.now (c.as_slice-names.ensures i) c.loop-stmt.now.cell
    (c.as_slice.ensures i) c.loop-stmt.fresh.next (act_of (c.deref-2.ensures i))))
    (c.in_ok-op.ensures.next ∙
    (λ i. c.loop-stmt.fresh.next + made_act c.args.self.now.tags.now (c.as_slice.ensures i)
    (act_of (c.deref-2.ensures i))))
    (c.in_ok-last.ensures.next ∙ ap
    (λ us. c.op.new.fresh.next + new_variables_of_end us (act_of c.in_ok-op.op))
    c.as_slice-2.ensures)

pub op-alt-requires : goal.op-alt-requires
op-alt-requires t c =
    let w = here_within c.args.self.now.notes.now c.args.here _ c.requires in
    let m = c.loop-alt.invariant.later in (
      omega (arith, w, m),
      arm_here c.args.self.now.notes.now c.loop-alt.place
          c.as_slice-alt-items.result.now c.loop-alt.alt-index c.alt-item.result
          c.loop-alt-test.true
          c.alt-item.is c.loop-alt.invariant.places,
    )

pub op-block-requires : goal.op-block-requires
op-block-requires t c = (
  omega arith,
  subst
      (λ b. Here c.args.self.now.notes.now c.args.here (with_own_size (code_trace (code_of b))))
      (sym c.deref.ensures)
      (nested_here c.args.self.now.notes.now c.args.here c.args.op.now c.in-Nested.block
      c.in-Nested.is c.requires),
)

pub stmt-op-requires : goal.stmt-op-requires
stmt-op-requires t c = (
  omega arith,
  bind_here c.args.self.now.notes.now c.args.span c.args.stmt.now c.in-Bind.target
      c.in-Bind.op _ c.in-Bind.is c.requires,
)

pub stmt-bind-requires : goal.stmt-bind-requires
stmt-bind-requires t c = bind_rest c.args.self.now.notes.now c.args.span c.in_ok-next-in-Bind.next
    c.args.stmt.now c.in-Bind.target c.in-Bind.op _ c.in-Bind.is
    c.in_ok-next-in-Bind.ensures.follows c.requires

pub block-loop-stmt-preserved : goal.block-loop-stmt-preserved
block-loop-stmt-preserved t c = record {
  counted = search rules;
  later = let m = c.loop-stmt.invariant.later in let e = c.in_ok-span-2.ensures.past.piece
      in omega (arith, m, e);
  spans = stmts_follow c.args.self.now.notes.now c.loop-stmt.span c.in_ok-span-2.span _
      c.loop-stmt.stmt-index c.stmt-item.result _ c.loop-stmt-test.true c.stmt-item.is
      c.in_ok-span-2.ensures.follows c.loop-stmt.invariant.spans;
  some = block_next c.args.self.now.tags.now c.args.names c.loop-stmt.now.names c.stmt.new.now.names
      c.args.cell c.loop-stmt.now.cell c.stmt.new.now.cell c.loop-stmt.now.waits
      c.stmt.new.now.waits c.args.fresh.now.next c.loop-stmt.fresh.next c.stmt.new.fresh.next
      c.as_slice-stmts.result.now c.args.before c.loop-stmt.made c.stmt.new.made _
      c.loop-stmt.stmt-index c.stmt-item.result c.deref.result.now _
      c.loop-stmt-test.true c.stmt-item.is
      (rest_is c.as_slice-stmts.result.now c.loop-stmt.at c.loop-stmt.stmt-index
      c.loop-stmt.invariant.counted) c.deref.ensures c.loop-stmt.invariant.some
      c.in_ok-stmt.ensures.is c.in_ok-stmt.ensures.next;
}

pub block-op-requires : goal.block-op-requires
block-op-requires t c =
    let w = here_within c.args.self.now.notes.now c.args.here _ c.requires in
    let m = c.loop-stmt.invariant.later in (
      omega (arith, w, m),
      subst (λ o. Here c.args.self.now.notes.now c.loop-stmt.span.place
          (with_own_size (act_trace (act_of o)))) (sym c.deref-2.ensures)
          (last_here c.args.self.now.notes.now c.loop-stmt.span _ c.loop-stmt.stmt-index
          c.args.block.now.last.value c.loop-stmt-test.false c.loop-stmt.invariant.spans),
    )

pub block-stmt-requires : goal.block-stmt-requires
block-stmt-requires t c =
    let w = here_within c.args.self.now.notes.now c.args.here _ c.requires in
    let m = c.loop-stmt.invariant.later in (
      omega (arith, w, m),
      stmt_spans c.args.self.now.notes.now c.loop-stmt.span
          c.as_slice-stmts.result.now _ c.loop-stmt.stmt-index c.stmt-item.result c.deref.result.now
          c.args.block.now.last.value c.loop-stmt-test.true c.stmt-item.is
          (rest_is c.as_slice-stmts.result.now c.loop-stmt.at c.loop-stmt.stmt-index
          c.loop-stmt.invariant.counted) c.deref.ensures c.loop-stmt.invariant.spans,
    )

pub alt-block-requires : goal.alt-block-requires
alt-block-requires t c = (omega arith, c.requires)

pub block-loop-stmt-init : goal.block-loop-stmt-init
block-loop-stmt-init t c =
    let b = c.args.block.now in
    let last = end (act_of b.last.value) in
    let ss = c.as_slice-stmts.result.now in
    record {
      counted = refl;
      later = let e = c.in_ok-span.ensures.inside.1 in omega (arith, e);
      spans = subst (SpanCoversBlock c.args.self.now.notes.now c.in_ok-span.span)
          (code_of-parts b ∙ ap (λ xs. all_before (map before_of xs) last)
          (sym c.as_slice-stmts.ensures)) (c.in_ok-span.ensures.spans (code_of b) c.requires);
      some = subst
          (λ qs. BlockSoFar c.args.self.now.tags.now c.args.names c.args.names c.args.cell
          c.args.cell qs c.args.fresh.now.next c.args.fresh.now.next ss c.args.before c.args.before
          0 last) (sym c.new.ensures)
          (block_none c.args.self.now.tags.now c.args.names c.args.cell c.args.fresh.now.next ss
          c.args.before last);
    }

pub op-loop-alt-init : goal.op-loop-alt-init
op-loop-alt-init t c =
    let n = c.args.self.now.notes.now in
    record {
      scrutinee = refl;
      later = c.in_ok-place-in-Case.ensures.later;
      places = subst
          (λ as'. Here n c.in_ok-place-in-Case.place (arms_trace (arms_of (map arm_of as'))))
          (sym c.as_slice-alt-items.ensures)
          (c.in_ok-place-in-Case.ensures.alts c.in-Case.v (arms_of (map arm_of c.in-Case.alts))
          (subst (λ k. Here n c.args.here (with_own_size (act_trace k)))
          (ap act_of c.in-Case.is ∙ act_of-Case c.in-Case.v c.in-Case.alts) c.requires));
      some = subst
          (ArmsSoFar c.args.self.now.tags.now c.args.names.now c.args.cell c.args.waits.now
          c.args.fresh.now.next c.args.fresh.now.next []) (sym c.new-made.ensures)
          (arms_none c.args.self.now.tags.now c.args.names.now c.args.cell c.args.waits.now
          c.args.fresh.now.next);
    }
