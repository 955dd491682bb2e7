use Rattle.std.proofs.Common.{◌≡◌, ℕ, sym, ap, ◌∙◌, rules}
use Rattle.std.proofs.lemmas.Iterator.Adapters.{YieldsList-from_vec}
use Rattle.std.proofs.lemmas.Iterator.Consumers.{YieldsList-end}
use mathlib.Core.List.{reverse}
use Rattle.seq.proofs.Lists.{map_same}
use Rattle.copy_prop.specs.Lean.{used_in_act}
use Rattle.pass_narrow.proofs.Backward.{arm_narrows, alternatives_narrow, alternatives_used, bind_narrows, bound_used, stored_used, narrows_begin, narrows_next, narrows_tree, narrows_uses}
use Rattle.pass_narrow.proofs.blocks.+narrow.Goals as goal

pub narrow_op-loop-alt-preserved : goal.narrow_op-loop-alt-preserved
narrow_op-loop-alt-preserved t c =
    rw c.in_ok-push-in-Case.ensures.ok (record {
      scrutinee = c.loop-alt.invariant.scrutinee;
      some = arm_narrows _ _ _ _ _ _ _ _ _ _ c.loop-alt.invariant.some
          c.in_ok-narrow_alt-in-Case.ensures.tree c.in_ok-narrow_alt-in-Case.ensures.uses;
    })

pub narrow_op-returns-in-None-clause-tree : goal.narrow_op-returns-in-None-clause-tree
narrow_op-returns-in-None-clause-tree t c =
    let all = YieldsList-end (YieldsList-from_vec c.in-Case.alts (search rules) (search rules))
    c.loop-alt.yielded c.loop-alt.alt-iterator c.loop-alt.yielded_by _ c.next.new.self
    c.in-None.is c.next.ensures.steps in
    alternatives_narrow _ _ _ c.args.op c.in-Case.v _ _ _ _ _ c.in-Case.alts c.in-Case.is
    (sym (map_same c.loop-alt.yielded) ∙ all.0) c.loop-alt.invariant.scrutinee
    c.loop-alt.invariant.some

pub narrow_op-returns-in-None-clause-uses : goal.narrow_op-returns-in-None-clause-uses
narrow_op-returns-in-None-clause-uses t c =
    let all = YieldsList-end (YieldsList-from_vec c.in-Case.alts (search rules) (search rules))
    c.loop-alt.yielded c.loop-alt.alt-iterator c.loop-alt.yielded_by _ c.next.new.self
    c.in-None.is c.next.ensures.steps in
    alternatives_used _ _ _ c.args.op c.in-Case.v c.args.uses.now _ _ _ _ c.in-Case.alts
    c.in-Case.is (sym (map_same c.loop-alt.yielded) ∙ all.0) (search rules)
    c.loop-alt.invariant.some

pub narrow_stmt-returns-in_ok-op-in-Bind-clause-tree
    : goal.narrow_stmt-returns-in_ok-op-in-Bind-clause-tree
narrow_stmt-returns-in_ok-op-in-Bind-clause-tree t c =
    λ c' m many o. bind_narrows _ _ _ c.args.stmt c.in-Bind.target _ c.in-Bind.op _ c.args.from
    c.args.uses.now m c' _ c.in-Bind.is c.in_ok-read-in-Bind.ensures
    c.in_ok-target-in-Bind.ensures c.in_ok-op-in-Bind.ensures.tree many o

pub narrow_stmt-returns-in_ok-op-in-Bind-clause-uses
    : goal.narrow_stmt-returns-in_ok-op-in-Bind-clause-uses
narrow_stmt-returns-in_ok-op-in-Bind-clause-uses t c =
    λ c' m o. bound_used _ _ _ c.args.uses.now _ m c'
    (ap used_in_act (sym c.in_ok-op-in-Bind.ensures.tree)) c.in_ok-op-in-Bind.ensures.uses o

pub narrow_stmt-returns-in_ok-note_cells-in-Store-clause-uses
    : goal.narrow_stmt-returns-in_ok-note_cells-in-Store-clause-uses
narrow_stmt-returns-in_ok-note_cells-in-Store-clause-uses t c
    = λ c' m o. stored_used c.in-Store.cells c.as_slice.result.now c.args.uses.now _ m c'
    c.in_ok-note_cells-in-Store.ensures o c.as_slice.ensures

pub narrow_block-loop-stmt-init : goal.narrow_block-loop-stmt-init
narrow_block-loop-stmt-init t c = narrows_begin _ _ _ _ _ c.args.block.last.value
    c.into_inner.result _ _ (search rules) (search rules) c.in_ok-last.ensures.tree
    c.in_ok-last.ensures.uses

pub narrow_block-loop-stmt-preserved : goal.narrow_block-loop-stmt-preserved
narrow_block-loop-stmt-preserved t c =
    rw c.in_ok-push.ensures.items
    (narrows_next _ _ _ _ _ _ _ _ _ _ _ _ _ (sym c.count-from.ensures) c.loop-stmt.invariant
    c.in_ok-narrow_stmt.ensures.tree c.in_ok-narrow_stmt.ensures.uses)

-- all statements were walked, the last one first
all_stmts : (t : ℕ) (c : goal.narrow_block-In_ok-new t)
    → c.loop-stmt.yielded ≡ reverse c.args.block.stmts
all_stmts t c =
    let all = YieldsList-end
    (YieldsList-from_vec c.reverse.new.self.items (search rules) (search rules))
    c.loop-stmt.yielded c.loop-stmt.stmt-iterator c.loop-stmt.yielded_by _ c.next.new.self
    c.in-None.is c.next.ensures.steps in
    sym (map_same c.loop-stmt.yielded) ∙ all.0 ∙ c.reverse.ensures.items ∙ ap reverse
    c.into_vec-stmts.ensures

pub narrow_block-returns-clause-tree : goal.narrow_block-returns-clause-tree
narrow_block-returns-clause-tree t c = narrows_tree _ _ _ _ _ c.args.block _ _ _ _ (all_stmts t c)
    c.loop-stmt.invariant (search rules) (search rules)

pub narrow_block-returns-clause-uses : goal.narrow_block-returns-clause-uses
narrow_block-returns-clause-uses t c = narrows_uses _ _ _ _ _ c.args.block _ _ _ (all_stmts t c)
    c.loop-stmt.invariant
