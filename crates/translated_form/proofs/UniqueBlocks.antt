-- How often the parts of a block bind a variable.
use Rattle.std.proofs.Common.{◌≡◌, ℕ, zero, suc, ◌+◌, ◌*◌, List, [], ◌∷◌, ◌++◌, map, length, refl, ap, arith}
use Rattle.std.specs.List.{range_with_len}
use Rattle.std.proofs.lemmas.List.{length-map}
use Rattle.arity_check.specs.declared.normal.Bound.{Bound}
use Rattle.arity_check.specs.declared.normal.Flat.{Flat}
use Rattle.arity_check.specs.declared.normal.Flat.TheVariants as flat
use Rattle.arity_check.specs.Numbered.{LocalsAreConsecutive}
use Rattle.arity_check.specs.Program.{Program}
use Rattle.grin_syntax.specs.declared.program.VarId.{VarId}
use Rattle.grin_syntax.specs.declared.program.Cell.{Cell}
use Rattle.grin_syntax.specs.declared.program.Word.{Word}
use Rattle.grin_syntax.specs.declared.program.Val.{Val}
use Rattle.grin_syntax.specs.declared.program.Target.TheVariants as to
use Rattle.grin_syntax.specs.declared.program.Shape.{Shape}
use Rattle.grin_syntax.specs.declared.program.Shape.TheVariants as shape
use Rattle.grin_syntax.specs.Tree.{Code, end, store, bind, case, Arms, arm, no_arm, as_act}
use Rattle.grin_syntax.specs.Binders.{numbers_of, shape_vars, cell_vars, act_vars, code_vars, arms_vars}
use Rattle.grin_translate.specs.Blocks.{local, temp, word, cell_of, else_fail, form_temps, give_block, form_block}
use Rattle.translated_form.proofs.UniqueNumbers.{one_if, Placed, placed_none, placed_value, placed_local, placed_both, placed_within}
use Rattle.seq.specs.Lists.{numbers_from, times}
use Rattle.seq.proofs.Counted.{times_append}

pub store_times : (y : ℕ) (cs : List Cell) (b : Code)
    → times y (code_vars (store cs b)) ≡ times y (cell_vars cs) + times y (code_vars b)
unfolding code_vars
store_times y cs b = times_append y (cell_vars cs) (code_vars b)

pub arm_times : (y : ℕ) (s : Shape) (b : Code) (as' : Arms)
    → times y (arms_vars (arm s b as')) ≡ times y (shape_vars s) +
    (times y (code_vars b) + times y (arms_vars as'))
unfolding arms_vars
arm_times y s b as' = omega (
  arith,
  times_append y (shape_vars s) (code_vars b ++ arms_vars as'),
  times_append y (code_vars b) (arms_vars as'),
)

as_act_vars : (b : Code) → act_vars (as_act b) ≡ code_vars b
unfolding act_vars code_vars
as_act_vars (end o) = refl
as_act_vars (store cs b) = refl
as_act_vars (bind t o b) = refl

pub case_times : (y : ℕ) (v : VarId) (b : Code) (w : Val) (as' : Arms)
    → times y (code_vars (bind (to.Node v) (as_act b) (end (case w as')))) ≡ one_if y v.0 +
    (times y (code_vars b) + times y (arms_vars as'))
unfolding code_vars act_vars
case_times y v b w as' =
    let inner : times y (act_vars (as_act b)) ≡ times y (code_vars b) = ap (times y) (as_act_vars b)
    in
    omega (arith, inner, times_append y (act_vars (as_act b)) (arms_vars as'))

pub last_times : (y : ℕ) (b : Code) → times y (arms_vars (arm shape.Else b no_arm)) ≡ times y
    (code_vars b)
unfolding arms_vars
last_times y b = omega (arith, times_append y (code_vars b) [])

pub fail_times : (y : ℕ) → times y (arms_vars else_fail) ≡ 0
unfolding arms_vars code_vars act_vars
fail_times y = refl

module _ (p : Program) (base y : ℕ) where
  -- ---- locals that follow one another

  pub group_placed : (t n : ℕ) (group : List Bound) → LocalsAreConsecutive n group
      → Placed base y t t n (n + length group) (times y (cell_vars (map (cell_of p base) group)))
  group_placed t n [] h = placed_within base t t n (n + 0) 0 (omega arith) (omega arith)
      (omega arith) (omega arith) (omega arith) (placed_none base y t n)
  group_placed t n (b ∷ group) h =
      let same : one_if y (base + 2 * b.local) ≡ one_if y (base + 2 * n)
      = ap (λ x. one_if y (base + 2 * x)) h.0 in
      placed_within base t t n (n + suc (length group)) _ (omega arith) (omega arith) (omega arith)
      (omega arith) (omega (arith, same))
      (placed_both base (placed_local base y t n) (group_placed t (n + 1) group h.1))

  pub fields_placed : (t n c : ℕ) → Placed base y t t n (n + c)
      (times y (numbers_of (map (local p base) (range_with_len n c))))
  fields_placed t n zero = placed_within base t t n (n + 0) 0 (omega arith) (omega arith)
      (omega arith) (omega arith) (omega arith) (placed_none base y t n)
  fields_placed t n (suc c) =
      placed_within base t t n (n + suc c) _ (omega arith) (omega arith) (omega arith) (omega arith)
      (omega arith)
      (placed_both base (placed_local base y t n) (fields_placed t (n + 1) c))

  pub params_placed : (t n c : ℕ) → Placed base y t t n (n + c)
      (times y (numbers_of (map (local p base) (numbers_from n c))))
  params_placed t n zero = placed_within base t t n (n + 0) 0 (omega arith) (omega arith)
      (omega arith) (omega arith) (omega arith) (placed_none base y t n)
  params_placed t n (suc c) =
      let rest : Placed base y t t (n + 1) (n + suc c)
      (times y (numbers_of (map (local p base) (numbers_from (suc n) c)))) =
      placed_within base t t (n + 1) (n + suc c) _ (omega arith) (omega arith) (omega arith)
      (omega arith) (omega arith) (params_placed t (suc n) c) in
      placed_both base (placed_local base y t n) rest

  -- ---- forms

  give_placed : (t n : ℕ) (v : VarId) (a : Word) (xs : List Word)
      → Placed base y t (t + length xs) n n (times y (code_vars (give_block p base t v a xs)))
  unfolding code_vars act_vars
  give_placed t n v a [] = placed_within base t (t + 0) n n 0 (omega arith) (omega arith)
      (omega arith) (omega arith) (omega arith) (placed_none base y t n)
  give_placed t n v a (b ∷ bs) =
      let rest : Placed base y (t + 1) (t + suc (length bs)) n n
      (times y (code_vars (give_block p base (suc t) (temp p base t) b bs))) =
      placed_within base (t + 1) (t + suc (length bs)) n n _ (omega arith) (omega arith)
      (omega arith) (omega arith) (omega arith) (give_placed (suc t) n (temp p base t) b bs) in
      placed_both base (placed_value base y t n) rest

  none_placed : (t n : ℕ) → Placed base y t (t + 0) n n 0
  none_placed t n = placed_within base t (t + 0) n n 0 (omega arith) (omega arith) (omega arith)
      (omega arith) (omega arith) (placed_none base y t n)

  pub value_at : (t n i a b : ℕ) → a ≡ t + i → b ≡ t + i + 1
      → Placed base y a b n n (one_if y (base + 2 * (t + i) + 1))
  value_at t n i a b d e = placed_within base a b n n _ (omega (arith, d)) (omega (arith, e))
      (omega arith) (omega arith) (omega arith) (placed_value base y (t + i) n)

  pub form_placed : (t n : ℕ) (f : Flat) → Placed base y t (t + form_temps f) n n
      (times y (code_vars (form_block p base t f)))
  unfolding code_vars act_vars arms_vars
  form_placed t n (flat.Int k) = none_placed t n
  form_placed t n (flat.Con c xs) = none_placed t n
  form_placed t n (flat.Part f xs) = none_placed t n
  form_placed t n (flat.Call f xs) = none_placed t n
  form_placed t n (flat.Apply x []) = none_placed t n
  form_placed t n (flat.Apply x (a ∷ as')) =
      let many : length (map (word p base) as') ≡ length as' = length-map as' (word p base) in
      let rest : Placed base y (t + 1) (t + suc (length as')) n n
      (times y (code_vars
      (give_block p base (suc t) (temp p base t) (word p base a) (map (word p base) as')))) =
      placed_within base (t + 1) (t + suc (length as')) n n _ (omega arith) (omega (arith, many))
      (omega arith) (omega arith) (omega arith)
      (give_placed (suc t) n (temp p base t) (word p base a) (map (word p base) as')) in
      placed_both base (placed_value base y t n) rest
  form_placed t n (flat.Prim op a b) =
      let two = placed_both base (placed_value base y t n)
      (value_at t n 1 (t + 1) (t + 2) (omega arith) (omega arith)) in
      let three = placed_both base two (value_at t n 2 (t + 2) (t + 3) (omega arith) (omega arith))
      in
      let four = placed_both base three (value_at t n 3 (t + 3) (t + 4) (omega arith) (omega arith))
      in
      let five = placed_both base four (value_at t n 4 (t + 4) (t + 5) (omega arith) (omega arith))
      in
      placed_within base t (t + 5) n n _ (omega arith) (omega arith) (omega arith) (omega arith)
      (omega arith) five
