-- No variable past a piece is bound in it.
use Rattle.std.proofs.Common.{◌≡◌, ℕ, ◌+◌, ◌≤◌, nat_eq, List, [], ◌∷◌, ◌++◌, refl, arith}
use Rattle.grin_syntax.specs.declared.program.VarId.{VarId}
use Rattle.grin_syntax.specs.declared.program.Target.{Target}
use Rattle.grin_syntax.specs.declared.program.Target.TheVariants as to
use Rattle.grin_syntax.specs.declared.program.Shape.{Shape}
use Rattle.grin_syntax.specs.declared.program.Shape.TheVariants as shape
use Rattle.grin_syntax.specs.declared.program.Cell.{Cell}
use Rattle.grin_syntax.specs.Tree.{Code, end, store, bind, Act, leaf, case, nested, Arms, no_arm, arm, Procedure}
use Rattle.grin_syntax.specs.Binders.{numbers_of, target_vars, shape_vars, cell_vars, act_vars, code_vars, arms_vars, procs_vars}
use Rattle.grin_syntax.specs.Fresh.{past_vars, past_target, past_shape, past_cells, past_act, past_code, past_arms, past_procs}
use Rattle.seq.specs.Lists.{times}
use Rattle.seq.proofs.Counted.{counts, none_at, times_append}

module _ (x : ℕ) where
  pub past_vars_none : (xs : List VarId) → past_vars xs ≤ x → times x (numbers_of xs) ≡ 0
  past_vars_none [] h = refl
  past_vars_none (y ∷ xs) h =
      let e : counts (nat_eq x y.0) ≡ 0 = none_at x y.0 (omega arith) in
      let r : times x (numbers_of xs) ≡ 0 = past_vars_none xs (omega arith) in
      omega arith

  pub past_cells_none : (cs : List Cell) → past_cells cs ≤ x → times x (cell_vars cs) ≡ 0
  past_cells_none [] h = refl
  past_cells_none (c ∷ cs) h =
      let e : counts (nat_eq x c.var.0) ≡ 0 = none_at x c.var.0 (omega arith) in
      let r : times x (cell_vars cs) ≡ 0 = past_cells_none cs (omega arith) in
      omega arith

  pub past_target_none : (t : Target) → past_target t ≤ x → times x (target_vars t) ≡ 0
  past_target_none to.Nothing h = refl
  past_target_none (to.Node y) h = let e : counts (nat_eq x y.0) ≡ 0 = none_at x y.0 (omega arith)
      in omega arith
  past_target_none (to.One y) h = let e : counts (nat_eq x y.0) ≡ 0 = none_at x y.0 (omega arith)
      in omega arith
  past_target_none (to.Vector xs) h = past_vars_none xs h

  pub past_shape_none : (s : Shape) → past_shape s ≤ x → times x (shape_vars s) ≡ 0
  past_shape_none (shape.Node t xs) h = past_vars_none xs h
  past_shape_none (shape.Int k) h = refl
  past_shape_none shape.Else h = refl

  pub none_in_both : (xs ys : List ℕ) → times x xs ≡ 0 → times x ys ≡ 0 → times x (xs ++ ys) ≡ 0
  none_in_both xs ys h k = let e : times x (xs ++ ys) ≡ times x xs + times x ys
      = times_append x xs ys in omega arith

  mutual
    unfolding past_act act_vars

    pub past_act_none : (o : Act) → past_act o ≤ x → times x (act_vars o) ≡ 0
    past_act_none (case v as') h = past_arms_none as' h
    past_act_none (nested b) h = past_code_none b h
    past_act_none (leaf l) h = refl

    pub past_code_none : (b : Code) → past_code b ≤ x → times x (code_vars b) ≡ 0
    past_code_none (end o) h = past_act_none o h
    past_code_none (store cs b) h = none_in_both (cell_vars cs) (code_vars b)
        (past_cells_none cs (omega arith)) (past_code_none b (omega arith))
    past_code_none (bind t o b) h =
        none_in_both (target_vars t) (act_vars o ++ code_vars b) (past_target_none t (omega arith))
        (none_in_both (act_vars o) (code_vars b) (past_act_none o (omega arith))
        (past_code_none b (omega arith)))

    pub past_arms_none : (as' : Arms) → past_arms as' ≤ x → times x (arms_vars as') ≡ 0
    past_arms_none no_arm h = refl
    past_arms_none (arm s b as') h =
        none_in_both (shape_vars s) (code_vars b ++ arms_vars as') (past_shape_none s (omega arith))
        (none_in_both (code_vars b) (arms_vars as') (past_code_none b (omega arith))
        (past_arms_none as' (omega arith)))

  pub past_procs_none : (qs : List Procedure) → past_procs qs ≤ x → times x (procs_vars qs) ≡ 0
  past_procs_none [] h = refl
  past_procs_none (q ∷ qs) h =
      none_in_both (numbers_of q.params ++ code_vars q.body) (procs_vars qs)
      (none_in_both (numbers_of q.params) (code_vars q.body) (past_vars_none q.params (omega arith))
      (past_code_none q.body (omega arith)))
      (past_procs_none qs (omega arith))
