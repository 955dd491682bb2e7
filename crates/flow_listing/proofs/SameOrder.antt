-- What a procedure binds stands in the order of its listing's variables.
use Rattle.std.proofs.Common.{◌≡◌, ℕ, zero, suc, ◌+◌, ◌≤◌, Bool, true, false, cond, nat_eq, List, [], ◌∷◌, ◌++◌, map, Option, Some, refl, sym, ap, ◌∙◌, subst, inl, inr, arith}
use Rattle.std.specs.Prelude.{◌⊎◌, codes, slice_get}
use Rattle.std.specs.Option.{option_map}
use Rattle.grin_syntax.specs.declared.program.VarId.{VarId}
use Rattle.grin_syntax.specs.declared.program.Target.{Target}
use Rattle.grin_syntax.specs.declared.program.Target.TheVariants as to
use Rattle.grin_syntax.specs.declared.program.Shape.{Shape}
use Rattle.grin_syntax.specs.declared.program.Shape.TheVariants as shape
use Rattle.grin_syntax.specs.declared.program.Cell.{Cell}
use Rattle.grin_syntax.specs.Tree.{Code, end, store, bind, Act, leaf, unit, fetch, fetch_word, update, eval, apply, call, prim, read, write, case, nested, fail, Arms, no_arm, arm, Procedure, Program}
use Rattle.grin_syntax.specs.Binders.{numbers_of, target_vars, shape_vars, cell_vars, act_vars, code_vars, arms_vars, procedure_vars, procs_vars}
use Rattle.grin_syntax.specs.Formed.{Formed}
use Rattle.grin_syntax.specs.Listing.{place, var_text, number_text}
use Rattle.seq.specs.Lists.{In, times}
use Rattle.seq.proofs.Counted.{times_append}
use Rattle.seq.proofs.Lists.{some_is, none_is_some, map_append, map_get}
use Rattle.seq.proofs.Order.{eq_true}
use Rattle.seq.proofs.Truth.{false_not_true}
use Rattle.seq.proofs.Member.{none_in, cons_in}
use Rattle.flow_listing.specs.declared.binder.Binder.{Binder}
use Rattle.flow_listing.specs.Binders.{bound, target_binders, shape_binders, cell_binders, act_binders, code_binders, arms_binders, procedure_binders}
use Rattle.flow_listing.specs.Text.{variable_text}

-- ---- the variables of binders

abbrev vars_of : List Binder → List ℕ
vars_of bs = map (λ b. b.var.0) bs

joined : (xs ys : List Binder) (us vs : List ℕ) → vars_of xs ≡ us → vars_of ys ≡ vs
    → vars_of (xs ++ ys) ≡ us ++ vs
joined xs ys us vs e f = map_append (λ b. b.var.0) xs ys ∙ (λ i. e i ++ f i)

bound_vars : (xs : List VarId) → vars_of (bound xs) ≡ numbers_of xs
bound_vars [] = refl
bound_vars (x ∷ xs) = ap (λ l. x.0 ∷ l) (bound_vars xs)

target_same : (t : Target) → vars_of (target_binders t) ≡ target_vars t
target_same to.Nothing = refl
target_same (to.Node x) = refl
target_same (to.One x) = refl
target_same (to.Vector xs) = bound_vars xs

shape_same : (s : Shape) → vars_of (shape_binders s) ≡ shape_vars s
shape_same (shape.Node t xs) = bound_vars xs
shape_same (shape.Int k) = refl
shape_same shape.Else = refl

cells_same : (cs : List Cell) → vars_of (cell_binders cs) ≡ cell_vars cs
cells_same [] = refl
cells_same (c ∷ cs) = ap (λ l. c.var.0 ∷ l) (cells_same cs)

mutual
  unfolding act_binders act_vars

  act_same : (o : Act) → vars_of (act_binders o) ≡ act_vars o
  act_same (leaf (unit v)) = refl
  act_same (leaf (fetch w)) = refl
  act_same (leaf (fetch_word w i)) = refl
  act_same (leaf (update w v)) = refl
  act_same (leaf (eval w)) = refl
  act_same (leaf (apply v w)) = refl
  act_same (leaf (call f ws)) = refl
  act_same (leaf (prim o a b)) = refl
  act_same (leaf read) = refl
  act_same (leaf (write w)) = refl
  act_same (case v as') = arms_same as'
  act_same (nested b) = code_same b
  act_same (leaf fail) = refl

  code_same : (c : Code) → vars_of (code_binders c) ≡ code_vars c
  code_same (end o) = act_same o
  code_same (store cs b) = joined (cell_binders cs) (code_binders b) (cell_vars cs) (code_vars b)
      (cells_same cs) (code_same b)
  code_same (bind t o b) =
      joined (target_binders t) (act_binders o ++ code_binders b) (target_vars t)
      (act_vars o ++ code_vars b) (target_same t)
      (joined (act_binders o) (code_binders b) (act_vars o) (code_vars b) (act_same o)
      (code_same b))

  arms_same : (as' : Arms) → vars_of (arms_binders as') ≡ arms_vars as'
  arms_same no_arm = refl
  arms_same (arm s b as') =
      joined (shape_binders s) (code_binders b ++ arms_binders as') (shape_vars s)
      (code_vars b ++ arms_vars as') (shape_same s)
      (joined (code_binders b) (arms_binders as') (code_vars b) (arms_vars as') (code_same b)
      (arms_same as'))

procedure_same : (q : Procedure) → vars_of (procedure_binders q) ≡ procedure_vars q
procedure_same q = joined (bound q.params) (code_binders q.body) (numbers_of q.params)
    (code_vars q.body) (bound_vars q.params) (code_same q.body)

-- ---- places

-- in a list without repeats each number stands at its place
least_first : (b : Bool) (n : ℕ) → b ≡ true → 1 ≤ cond b 1 0 + n
least_first true n e = omega arith
least_first false n e = false_not_true e

place_first : (b : Bool) (o : Option ℕ) → b ≡ true → cond b (Some 0) o ≡ Some 0
place_first true o e = refl
place_first false o e = false_not_true e

at_least_one : (x : ℕ) (ys : List ℕ) (k : ℕ) → slice_get ys k ≡ Some x → 1 ≤ times x ys
at_least_one x [] k e = none_is_some e
at_least_one x (y ∷ ys) zero e = least_first (nat_eq x y) (times x ys)
    (eq_true x y (sym (some_is e)))
at_least_one x (y ∷ ys) (suc k) e = let le : 1 ≤ times x ys = at_least_one x ys k e
    in omega (arith, le)

place_later : (b : Bool) (n k : ℕ) (o : Option ℕ) → cond b 1 0 + n ≤ 1 → 1 ≤ n
    → (n ≤ 1 → o ≡ Some k) → cond b (Some 0) (option_map suc o) ≡ Some (suc k)
place_later true n k o le more later = absurd (omega (arith, le, more))
place_later false n k o le more later = ap (option_map suc) (later (omega (arith, le)))

at_place : (x : ℕ) (ys : List ℕ) (k : ℕ) → slice_get ys k ≡ Some x → times x ys ≤ 1
    → place x ys ≡ Some k
at_place x [] k e once = none_is_some e
at_place x (y ∷ ys) zero e once = place_first (nat_eq x y) (option_map suc (place x ys))
    (eq_true x y (sym (some_is e)))
at_place x (y ∷ ys) (suc k) e once = place_later (nat_eq x y) (times x ys) k (place x ys) once
    (at_least_one x ys k e) (λ le. at_place x ys k e le)

-- of all procedures together
own_or_later : (x : ℕ) (q r : Procedure) (qs : List Procedure)
    → (In q qs → times x (procedure_vars q) ≤ times x (procs_vars qs)) → (q ≡ r) ⊎ In q qs
    → times x (procedure_vars q) ≤ times x (procedure_vars r ++ procs_vars qs)
own_or_later x q r qs later (inl e) =
    let parts = times_append x (procedure_vars r) (procs_vars qs) in
    subst (λ s. times x (procedure_vars s) ≤ times x (procedure_vars r ++ procs_vars qs)) (sym e)
    (omega (arith, parts))
own_or_later x q r qs later (inr i) =
    let parts = times_append x (procedure_vars r) (procs_vars qs) in
    let le = later i in omega (arith, parts, le)

own_times : (x : ℕ) (q : Procedure) (qs : List Procedure) → In q qs
    → times x (procedure_vars q) ≤ times x (procs_vars qs)
own_times x q [] h = none_in h
own_times x q (r ∷ qs) h = own_or_later x q r qs (λ i. own_times x q qs i) (cons_in r qs h)

pub named_as_listed : (p : Program) → Formed p → (q : Procedure) → In q p.procs
    → (k : ℕ) (b : Binder) → slice_get (procedure_binders q) k ≡ Some b
    → variable_text k ≡ var_text (λ x. place x (procedure_vars q)) b.var
unfolding var_text
named_as_listed p w q h k b e =
    let there : slice_get (procedure_vars q) k ≡ Some b.var.0
    = subst (λ l. slice_get l k ≡ Some b.var.0) (procedure_same q)
    (map_get (λ x. x.var.0) (procedure_binders q) k b e) in
    let once : times b.var.0 (procedure_vars q) ≤ 1
    = (let a = own_times b.var.0 q p.procs h in let c = w.variables_once b.var.0
    in omega (arith, a, c)) in
    ap (λ o. codes "v" ++ number_text o) (sym (at_place b.var.0 (procedure_vars q) k there once))
