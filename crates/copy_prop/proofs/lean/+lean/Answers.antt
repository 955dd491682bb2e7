use Rattle.std.proofs.Common.{◌≡◌, ℕ, sym, ap, ◌∙◌, rules}
use Rattle.std.proofs.lemmas.Iterator.Adapters.{YieldsList-from_vec}
use Rattle.std.proofs.lemmas.Iterator.Consumers.{YieldsList-end}
use mathlib.Core.List.{reverse}
use Rattle.copy_prop.proofs.Backward.{arm_leans, idle_goes, busy_stays, bound_used, stored_used, leans_begin, leans_stay, leans_go, leans_tree, leans_uses}
use Rattle.copy_prop.proofs.lean.+lean.Goals as goal
use Rattle.seq.proofs.Lists.{map_same}

pub lean_op-loop-alt-preserved : goal.lean_op-loop-alt-preserved
lean_op-loop-alt-preserved t c =
    rw c.in_ok-push-in-Case.ensures.ok (record {
      scrutinee = c.loop-alt.invariant.scrutinee;
      some = arm_leans _ _ _ _ _ _ _ c.loop-alt.invariant.some c.in_ok-lean_alt-in-Case.ensures.tree
          c.in_ok-lean_alt-in-Case.ensures.uses;
    })

pub lean_stmt-returns-then-idle-clause-tree : goal.lean_stmt-returns-then-idle-clause-tree
lean_stmt-returns-then-idle-clause-tree t c =
    λ c' m many o. idle_goes c.args.stmt c.in-Bind.target c.in-Bind.op c.args.from c.args.uses.now m
    c' c.idle.result c.in-Bind.is c.idle.ensures c.if-idle.true many o

pub lean_stmt-returns-in_ok-lean_op-in-Bind-clause-tree
    : goal.lean_stmt-returns-in_ok-lean_op-in-Bind-clause-tree
lean_stmt-returns-in_ok-lean_op-in-Bind-clause-tree t c =
    λ c' m many o. busy_stays c.args.stmt c.in-Bind.target c.in-Bind.op c.args.from c.args.uses.now
    m c' c.idle.result _ c.in-Bind.is c.idle.ensures c.if-idle.false
    c.in_ok-lean_op-in-Bind.ensures.tree many o

pub lean_stmt-returns-in_ok-lean_op-in-Bind-clause-uses
    : goal.lean_stmt-returns-in_ok-lean_op-in-Bind-clause-uses
lean_stmt-returns-in_ok-lean_op-in-Bind-clause-uses t c =
    λ c' m o. bound_used c.in-Bind.target c.in-Bind.op _ c.args.uses.now _ m c'
    c.in_ok-lean_op-in-Bind.ensures.tree c.in_ok-lean_op-in-Bind.ensures.uses o

pub lean_stmt-returns-in_ok-note_cells-in-Store-clause-uses
    : goal.lean_stmt-returns-in_ok-note_cells-in-Store-clause-uses
lean_stmt-returns-in_ok-note_cells-in-Store-clause-uses t c
    = λ c' m o. stored_used c.in-Store.cells c.as_slice.result.now c.args.uses.now _ m c'
    c.in_ok-note_cells-in-Store.ensures o c.as_slice.ensures

pub without_idle_block-loop-stmt-init : goal.without_idle_block-loop-stmt-init
without_idle_block-loop-stmt-init t c = leans_begin _ _ c.args.block.last.value c.into_inner.result
    _ _ (search rules) (search rules) c.in_ok-last.ensures.tree c.in_ok-last.ensures.uses

pub without_idle_block-loop-stmt-preserved-in_ok-push-in-Some-2
    : goal.without_idle_block-loop-stmt-preserved-in_ok-push-in-Some-2
without_idle_block-loop-stmt-preserved-in_ok-push-in-Some-2 t c =
    rw c.in_ok-push-in-Some-2.ensures.items
    (leans_stay _ _ _ _ _ _ _ _ _ _ _ (sym c.count-from.ensures) c.loop-stmt.invariant
    c.in_ok-stmt.ensures.tree c.in_ok-stmt.ensures.uses c.in-Some-2.is)

pub without_idle_block-loop-stmt-preserved : goal.without_idle_block-loop-stmt-preserved
without_idle_block-loop-stmt-preserved t c = leans_go _ _ _ _ _ _ _ _ _ _ (sym c.count-from.ensures)
    c.loop-stmt.invariant c.in_ok-stmt.ensures.tree c.in_ok-stmt.ensures.uses c.in-None-2.is

-- all statements were walked, the last one first
all_stmts : (t : ℕ) (c : goal.without_idle_block-In_ok-new t)
    → c.loop-stmt.yielded ≡ reverse c.args.block.stmts
all_stmts t c =
    let all = YieldsList-end
    (YieldsList-from_vec c.reverse.new.self.items (search rules) (search rules))
    c.loop-stmt.yielded c.loop-stmt.stmt-iterator c.loop-stmt.yielded_by _ c.next.new.self
    c.in-None.is c.next.ensures.steps in
    sym (map_same c.loop-stmt.yielded) ∙ all.0 ∙ c.reverse.ensures.items ∙ ap reverse
    c.into_vec-stmts.ensures

pub without_idle_block-returns-clause-tree : goal.without_idle_block-returns-clause-tree
without_idle_block-returns-clause-tree t c = leans_tree _ _ c.args.block _ _ _ _ (all_stmts t c)
    c.loop-stmt.invariant (search rules) (search rules)

pub without_idle_block-returns-clause-uses : goal.without_idle_block-returns-clause-uses
without_idle_block-returns-clause-uses t c = leans_uses _ _ c.args.block _ _ _ (all_stmts t c)
    c.loop-stmt.invariant
