-- What a well-formed program makes known of its variables.
use Rattle.std.proofs.Common.{◌≡◌, ◌≢◌, ℕ, zero, suc, ◌+◌, ◌<◌, ◌≤◌, Bool, true, false, nat_eq, nat_le, List, [], ◌∷◌, ◌++◌, map, replicate, Some, None, slice_get, slice_set, refl, sym, ap, ◌∙◌, subst, inl, inr, ◌⊎◌, ⊎_elim, arith}
use Rattle.std.proofs.lemmas.Bool.Decides.{nat_tests}
use Rattle.grin_syntax.specs.declared.program.VarId.{VarId}
use Rattle.grin_syntax.specs.declared.program.Cell.{Cell}
use Rattle.grin_syntax.specs.declared.program.Target.{Target}
use Rattle.grin_syntax.specs.declared.program.Target.TheVariants as to
use Rattle.grin_syntax.specs.declared.program.Shape.{Shape}
use Rattle.grin_syntax.specs.declared.program.Shape.TheVariants as shape
use Rattle.grin_syntax.specs.declared.program.Word as W
use Rattle.grin_syntax.specs.declared.program.Word.TheVariants.{Lit, Var, Global, TagWord}
use Rattle.grin_syntax.specs.declared.program.Val as V
use Rattle.grin_syntax.specs.declared.program.Val.TheVariants.{NodeVar, Node, Vector, One}
use Rattle.grin_syntax.specs.Tree.{Code, end, store, bind, Act, leaf, case, nested, Arms, no_arm, arm, Procedure, Program}
use Rattle.grin_syntax.specs.Binders.{numbers_of, target_vars, shape_vars, cell_vars, act_vars, code_vars, arms_vars, procs_vars}
use Rattle.grin_syntax.specs.Formed.{AllOf, Scope, with_word_variables, with_target, params_scope, WordFormed, ValFormed, ActFormed, CodeFormed, ArmsFormed, ProcedureFormed, Formed}
use Rattle.grin_syntax.specs.Fresh.{variables, past_procs}
use Rattle.grin_syntax.proofs.Scopes.{first_in}
use Rattle.grin_syntax.proofs.Unbound.{past_procs_none}
use Rattle.grin_meaning.specs.Checks.{is_fetch}
use Rattle.vectorise.specs.declared.known.Known.{Known}
use Rattle.vectorise.specs.declared.known.Known.TheVariants.{Plain, Fetched, Field}
use Rattle.vectorise.specs.Known.{Layout, layout_of, Table, table_of, word_or_zero, room, is_fetched, word_for, as_word, as_words, field_words, vector_start, noted_target, noted_fields, noted_shape, noted_act, noted_code, noted_arms, noted_procs}
use Rattle.seq.specs.Lists.{times}
use Rattle.seq.proofs.Counted.{counts, times_left, times_right, times_append, one_at}
use Rattle.grin_meaning.proofs.Scopes.{Once, once_words, target_adds}

-- ---- tables

pub get_set : (k : Table) (x : ℕ) (v w : Known) → slice_get k x ≡ Some w
    → slice_get (slice_set k x v) x ≡ Some v
get_set [] x v w e = cc
get_set (y ∷ k) zero v w e = refl
get_set (y ∷ k) (suc x) v w e = get_set k x v w e

pub get_other : (k : Table) (x y : ℕ) (v : Known) → x ≢ y
    → slice_get (slice_set k x v) y ≡ slice_get k y
get_other [] x y v h = refl
get_other (u ∷ k) zero zero v h = absurd (h refl)
get_other (u ∷ k) zero (suc y) v h = refl
get_other (u ∷ k) (suc x) zero v h = refl
get_other (u ∷ k) (suc x) (suc y) v h = get_other k x y v (λ e. h (ap suc e))

pub get_all_plain : (n x : ℕ) → x < n → slice_get (replicate n Plain) x ≡ Some Plain
get_all_plain zero x h = absurd (omega arith)
get_all_plain (suc n) zero h = refl
get_all_plain (suc n) (suc x) h = get_all_plain n x (omega arith)

-- a number that isn't in the list is not its first
not_first : (y x : ℕ) (xs : List ℕ) → times y (x ∷ xs) ≡ 0 → x ≢ y
not_first y x xs h e = let c : counts (nat_eq y y) ≡ 1 = one_at y in let f : counts (nat_eq y x) ≡ 1
    = ap (λ z. counts (nat_eq y z)) e ∙ c in absurd (omega arith)

not_later : (y x : ℕ) (xs : List ℕ) → times y (x ∷ xs) ≡ 0 → times y xs ≡ 0
not_later y x xs h = omega arith

-- ---- where a variable stands once

pub in_left : (y : ℕ) (xs ys : List ℕ) → 0 < times y xs → 0 < times y (xs ++ ys)
in_left y xs ys h = let e : times y (xs ++ ys) ≡ times y xs + times y ys = times_append y xs ys
    in omega arith

pub in_right : (y : ℕ) (xs ys : List ℕ) → 0 < times y ys → 0 < times y (xs ++ ys)
in_right y xs ys h = let e : times y (xs ++ ys) ≡ times y xs + times y ys = times_append y xs ys
    in omega arith

pub in_later : (y x : ℕ) (xs : List ℕ) → 0 < times y xs → 0 < times y (x ∷ xs)
in_later y x xs h = omega arith

only_first : (x : ℕ) (xs : List ℕ) → ((y : ℕ) → times y (x ∷ xs) ≤ 1) → times x xs ≡ 0
only_first x xs once = let c : counts (nat_eq x x) ≡ 1 = one_at x in let o
    : counts (nat_eq x x) + times x xs ≤ 1 = once x in omega arith

once_later : (x : ℕ) (xs : List ℕ) → ((y : ℕ) → times y (x ∷ xs) ≤ 1) → (y : ℕ) → times y xs ≤ 1
once_later x xs once y = let o : times y (x ∷ xs) ≤ 1 = once y in omega arith

clean_later : (x : ℕ) (xs : List ℕ) (v : Known) (k : Table) → ((y : ℕ) → times y (x ∷ xs) ≤ 1)
    → ((y : ℕ) → 0 < times y (x ∷ xs) → slice_get k y ≡ Some Plain) → (y : ℕ) → 0 < times y xs
    → slice_get (slice_set k x v) y ≡ Some Plain
clean_later x xs v k once clean y i = get_other k x y v differ ∙ clean y (in_later y x xs i)
  where
    differ : x ≢ y
    differ e = let z : times x xs ≡ 0 = only_first x xs once in let w : times y xs ≡ 0
        = subst (λ u. times u xs ≡ 0) e z in absurd (omega arith)

-- three lists in a row, and the scope before them
module _ (scope : Scope) (xs os bs : List ℕ) (once : Once scope (xs ++ (os ++ bs))) where
  abbrev Sum : ℕ → Type 0
  Sum y = times y scope.nodes + times y scope.words + (times y xs + (times y os + times y bs)) ≤ 1

  sum : (y : ℕ) → Sum y
  sum y =
      let e : times y (xs ++ (os ++ bs)) ≡ times y xs + times y (os ++ bs)
      = times_append y xs (os ++ bs) in
      let f : times y (os ++ bs) ≡ times y os + times y bs = times_append y os bs in
      let o : times y scope.nodes + times y scope.words + times y (xs ++ (os ++ bs)) ≤ 1 = once y in
      omega arith

  third_free : (y : ℕ) → 0 < times y scope.nodes + times y scope.words + times y xs → times y bs ≡ 0
  third_free y i = let s : Sum y = sum y in omega arith

  third_of_second : (y : ℕ) → 0 < times y os → times y bs ≡ 0
  third_of_second y i = let s : Sum y = sum y in omega arith

  first_of_second : (y : ℕ) → 0 < times y os → times y xs ≡ 0
  first_of_second y i = let s : Sum y = sum y in omega arith

  first_of_scope : (y : ℕ) → 0 < times y scope.nodes + times y scope.words → times y xs ≡ 0
  first_of_scope y i = let s : Sum y = sum y in omega arith

  second_of_scope : (y : ℕ) → 0 < times y scope.nodes + times y scope.words → times y os ≡ 0
  second_of_scope y i = let s : Sum y = sum y in omega arith

  second_of_first : (y : ℕ) → 0 < times y xs → times y os ≡ 0
  second_of_first y i = let s : Sum y = sum y in omega arith

  first_of_third : (y : ℕ) → 0 < times y bs → times y xs ≡ 0
  first_of_third y i = let s : Sum y = sum y in omega arith

  second_of_third : (y : ℕ) → 0 < times y bs → times y os ≡ 0
  second_of_third y i = let s : Sum y = sum y in omega arith

  once_first : (y : ℕ) → times y xs ≤ 1
  once_first y = let s : Sum y = sum y in omega arith

  once_second : Once scope os
  once_second y = let s : Sum y = sum y in omega arith

  pub once_third : Once scope bs
  once_third y = let s : Sum y = sum y in omega arith

  pub once_two : Once scope (xs ++ os)
  once_two y = let s : Sum y = sum y in let e : times y (xs ++ os) ≡ times y xs + times y os
      = times_append y xs os in omega arith

  once_params : Once (record { nodes = []; words = xs }) os
  once_params y = let s : Sum y = sum y in omega arith

apart_left : (scope : Scope) (xs bs : List ℕ) → Once scope (xs ++ bs) → (y : ℕ) → 0 < times y xs
    → times y bs ≡ 0
apart_left scope xs bs once y i = let e : times y (xs ++ bs) ≡ times y xs + times y bs
    = times_append y xs bs in let o : times y scope.nodes + times y scope.words + times y (xs ++ bs)
    ≤ 1 = once y in omega arith

-- what a target puts into scope

pub once_target : (t : Target) (scope : Scope) (os bs : List ℕ)
    → Once scope (target_vars t ++ (os ++ bs)) → Once (with_target t scope) bs
once_target t scope os bs once y =
    let a : times y (with_target t scope).nodes + times y (with_target t scope).words ≡ times y
    (target_vars t) + (times y scope.nodes + times y scope.words) = target_adds t scope y in
    let e : times y (target_vars t ++ (os ++ bs)) ≡ times y (target_vars t) + times y (os ++ bs)
    = times_append y (target_vars t) (os ++ bs) in
    let f : times y (os ++ bs) ≡ times y os + times y bs = times_append y os bs in
    let o : times y scope.nodes + times y scope.words + times y (target_vars t ++ (os ++ bs)) ≤ 1
    = once y in
    omega arith

some_of : (a b : ℕ) → 0 < a + b → (0 < a) ⊎ (0 < b)
some_of zero b h = inr (omega (arith, h))
some_of (suc a) b h = inl (omega arith)

module _ (l : Layout) where
  -- ---- what a piece doesn't bind stays as it was

  fields_leave : (ws : List W.Word) (xs : List VarId) (k : Table) (y : ℕ)
      → times y (numbers_of xs) ≡ 0 → slice_get (noted_fields ws xs k) y ≡ slice_get k y
  fields_leave ws [] k y h = refl
  fields_leave [] (x ∷ xs) k y h = fields_leave [] xs _ y (not_later y x.0 (numbers_of xs) h) ∙
      get_other k x.0 y _ (not_first y x.0 (numbers_of xs) h)
  fields_leave (w ∷ ws) (x ∷ xs) k y h = fields_leave ws xs _ y (not_later y x.0 (numbers_of xs) h)
      ∙ get_other k x.0 y _ (not_first y x.0 (numbers_of xs) h)

  shape_leaves : (ws : List W.Word) (s : Shape) (k : Table) (y : ℕ) → times y (shape_vars s) ≡ 0
      → slice_get (noted_shape ws s k) y ≡ slice_get k y
  shape_leaves ws (shape.Node t xs) k y h = fields_leave ws xs k y h
  shape_leaves ws (shape.Int i) k y h = refl
  shape_leaves ws shape.Else k y h = refl

  target_leaves : (f : Bool) (t : Target) (k : Table) (y : ℕ) → times y (target_vars t) ≡ 0
      → slice_get (noted_target f t k) y ≡ slice_get k y
  target_leaves f to.Nothing k y h = refl
  target_leaves false (to.Node x) k y h = refl
  target_leaves true (to.Node x) k y h = get_other k x.0 y Fetched (not_first y x.0 [] h)
  target_leaves f (to.One x) k y h = refl
  target_leaves f (to.Vector xs) k y h = refl

  mutual
    unfolding noted_act act_vars

    act_leaves : (o : Act) (k : Table) (y : ℕ) → times y (act_vars o) ≡ 0
        → slice_get (noted_act l o k) y ≡ slice_get k y
    act_leaves (case v as') k y h = arms_leave (field_words l k v) as' k y h
    act_leaves (nested b) k y h = code_leaves b k y h
    act_leaves (leaf l) k y h = refl

    code_leaves : (b : Code) (k : Table) (y : ℕ) → times y (code_vars b) ≡ 0
        → slice_get (noted_code l b k) y ≡ slice_get k y
    code_leaves (end o) k y h = act_leaves o k y h
    code_leaves (store cs b) k y h = code_leaves b k y
        (times_right y (cell_vars cs) (code_vars b) h)
    code_leaves (bind t o b) k y h =
        let r : times y (act_vars o ++ code_vars b) ≡ 0
        = times_right y (target_vars t) (act_vars o ++ code_vars b) h in
        code_leaves b _ y (times_right y (act_vars o) (code_vars b) r) ∙ target_leaves (is_fetch o)
        t _ y (times_left y (target_vars t) (act_vars o ++ code_vars b) h) ∙ act_leaves o k y
        (times_left y (act_vars o) (code_vars b) r)

    arms_leave : (ws : List W.Word) (as' : Arms) (k : Table) (y : ℕ) → times y (arms_vars as') ≡ 0
        → slice_get (noted_arms l ws as' k) y ≡ slice_get k y
    arms_leave ws no_arm k y h = refl
    arms_leave ws (arm s b as') k y h =
        let r : times y (code_vars b ++ arms_vars as') ≡ 0
        = times_right y (shape_vars s) (code_vars b ++ arms_vars as') h in
        arms_leave ws as' _ y (times_right y (code_vars b) (arms_vars as') r) ∙ code_leaves b _ y
        (times_left y (code_vars b) (arms_vars as') r) ∙ shape_leaves ws s k y
        (times_left y (shape_vars s) (code_vars b ++ arms_vars as') h)

  procs_leave : (qs : List Procedure) (k : Table) (y : ℕ) → times y (procs_vars qs) ≡ 0
      → slice_get (noted_procs l qs k) y ≡ slice_get k y
  procs_leave [] k y h = refl
  procs_leave (q ∷ qs) k y h =
      procs_leave qs _ y (times_right y (numbers_of q.params ++ code_vars q.body) (procs_vars qs) h)
      ∙ code_leaves q.body k y
      (times_right y (numbers_of q.params) (code_vars q.body)
      (times_left y (numbers_of q.params ++ code_vars q.body) (procs_vars qs) h))

  -- ---- what is known in the end

  module _ (K : Table) where
    abbrev pub IsPlain : ℕ → Type 0
    IsPlain x = slice_get K x ≡ Some Plain

    abbrev pub TargetKnown : Bool → Target → Type 0
    TargetKnown f to.Nothing = Unit {0}
    TargetKnown f (to.Node x) = is_fetched (slice_get K x.0) ≡ f
    TargetKnown f (to.One x) = IsPlain x.0
    TargetKnown f (to.Vector xs) = AllOf (λ x. IsPlain x.0) xs

    abbrev pub FieldsKnown : List W.Word → List VarId → Type 0
    FieldsKnown ws [] = Unit {0}
    FieldsKnown [] (x ∷ xs) = (slice_get K x.0 ≡ Some (Field (word_or_zero None)))
        × FieldsKnown [] xs
    FieldsKnown (w ∷ ws) (x ∷ xs) = (slice_get K x.0 ≡ Some (Field w)) × FieldsKnown ws xs

    abbrev pub ShapeKnown : List W.Word → Shape → Type 0
    ShapeKnown ws (shape.Node t xs) = FieldsKnown ws xs
    ShapeKnown ws _ = Unit {0}

    unfoldable mutual
      pub ActKnown : Act → Type 0
      ActKnown (case v as') = ArmsKnown (field_words l K v) as'
      ActKnown (nested b) = CodeKnown b
      ActKnown _ = Unit {0}

      pub CodeKnown : Code → Type 0
      CodeKnown (end o) = ActKnown o
      CodeKnown (store cs b) = AllOf (λ c. IsPlain c.var.0) cs × CodeKnown b
      CodeKnown (bind t o b) = TargetKnown (is_fetch o) t × ActKnown o × CodeKnown b

      pub ArmsKnown : List W.Word → Arms → Type 0
      ArmsKnown ws no_arm = Unit {0}
      ArmsKnown ws (arm s b as') = ShapeKnown ws s × CodeKnown b × ArmsKnown ws as'

    -- the tables agree on these variables, and these are plain in a table
    abbrev On : List ℕ → Table → Type 0
    On xs k = (y : ℕ) → 0 < times y xs → slice_get K y ≡ slice_get k y

    abbrev Clean : List ℕ → Table → Type 0
    Clean xs k = (y : ℕ) → 0 < times y xs → slice_get k y ≡ Some Plain

    abbrev OnScope : Scope → Table → Type 0
    OnScope scope k = (y : ℕ) → 0 < times y scope.nodes + times y scope.words
        → slice_get K y ≡ slice_get k y

    word_same : (p : Program) (scope : Scope) (k : Table) (a : W.Word) → OnScope scope k
        → WordFormed p scope a → as_word k a ≡ as_word K a
    word_same p scope k (Lit i) on f = refl
    word_same p scope k (Var x) on f = ap (word_for x) (sym (on x.0 (omega (arith, f))))
    word_same p scope k (Global i) on f = refl
    word_same p scope k (TagWord t) on f = refl

    words_same : (p : Program) (scope : Scope) (k : Table) (ws : List W.Word) → OnScope scope k
        → AllOf (WordFormed p scope) ws → as_words k ws ≡ as_words K ws
    words_same p scope k [] on f = refl
    words_same p scope k (a ∷ ws) on f = λ i. word_same p scope k a on f.0 i ∷ words_same p scope k
        ws on f.1 i

    fields_same : (p : Program) (scope : Scope) (k : Table) (v : V.Val) → OnScope scope k
        → ValFormed p scope v → field_words l k v ≡ field_words l K v
    fields_same p scope k (NodeVar x) on f = ap
        (λ o. map Var (variables (suc (vector_start l x.0)) (room l (is_fetched o))))
        (sym (on x.0 (omega (arith, f))))
    fields_same p scope k (Node t ws) on f = words_same p scope k ws on f.1
    fields_same p scope k (Vector ws) on f = refl
    fields_same p scope k (One w) on f = refl

    on_words : (scope : Scope) (xs : List ℕ) (k : Table) → OnScope scope k → On xs k
        → OnScope (with_word_variables xs scope) k
    on_words scope xs k sc at y i =
        let f : times y (xs ++ scope.words) ≡ times y xs + times y scope.words
        = times_append y xs scope.words in
        ⊎_elim (λ h. at y h) (λ h. sc y h)
        (some_of (times y xs) (times y scope.nodes + times y scope.words) (omega arith))

    on_target : (t : Target) (scope : Scope) (k : Table) → OnScope scope k → On (target_vars t) k
        → OnScope (with_target t scope) k
    on_target t scope k sc at y i =
        let f : times y (with_target t scope).nodes + times y (with_target t scope).words ≡ times y
        (target_vars t) + (times y scope.nodes + times y scope.words) = target_adds t scope y in
        ⊎_elim (λ h. at y h) (λ h. sc y h)
        (some_of (times y (target_vars t)) (times y scope.nodes + times y scope.words)
        (omega arith))

    fields_known : (ws : List W.Word) (xs : List VarId) (k : Table)
        → ((y : ℕ) → times y (numbers_of xs) ≤ 1) → Clean (numbers_of xs) k
        → On (numbers_of xs) (noted_fields ws xs k) → FieldsKnown ws xs
    fields_known ws [] k once clean on = tt
    fields_known [] (x ∷ xs) k once clean on = (
      on x.0 (first_in x.0 (numbers_of xs)) ∙ fields_leave [] xs _ x.0
          (only_first x.0 (numbers_of xs) once) ∙ get_set k x.0 _ Plain
          (clean x.0 (first_in x.0 (numbers_of xs))),
      fields_known [] xs _ (once_later x.0 (numbers_of xs) once)
          (clean_later x.0 (numbers_of xs) _ k once clean)
          (λ y i. on y (in_later y x.0 (numbers_of xs) i)),
    )
    fields_known (w ∷ ws) (x ∷ xs) k once clean on = (
      on x.0 (first_in x.0 (numbers_of xs)) ∙ fields_leave ws xs _ x.0
          (only_first x.0 (numbers_of xs) once) ∙ get_set k x.0 _ Plain
          (clean x.0 (first_in x.0 (numbers_of xs))),
      fields_known ws xs _ (once_later x.0 (numbers_of xs) once)
          (clean_later x.0 (numbers_of xs) _ k once clean)
          (λ y i. on y (in_later y x.0 (numbers_of xs) i)),
    )

    shape_known : (ws : List W.Word) (s : Shape) (k : Table)
        → ((y : ℕ) → times y (shape_vars s) ≤ 1) → Clean (shape_vars s) k
        → On (shape_vars s) (noted_shape ws s k) → ShapeKnown ws s
    shape_known ws (shape.Node t xs) k once clean on = fields_known ws xs k once clean on
    shape_known ws (shape.Int i) k once clean on = tt
    shape_known ws shape.Else k once clean on = tt

    all_plain : (xs : List VarId) → ((y : ℕ) → 0 < times y (numbers_of xs) → IsPlain y)
        → AllOf (λ x. IsPlain x.0) xs
    all_plain [] f = tt
    all_plain (x ∷ xs) f = (
      f x.0 (first_in x.0 (numbers_of xs)),
      all_plain xs
          (λ y i. f y (in_later y x.0 (numbers_of xs) i)),
    )

    cells_plain : (cs : List Cell) → ((y : ℕ) → 0 < times y (cell_vars cs) → IsPlain y)
        → AllOf (λ c. IsPlain c.var.0) cs
    cells_plain [] f = tt
    cells_plain (c ∷ cs) f = (
      f c.var.0 (first_in c.var.0 (cell_vars cs)),
      cells_plain cs (λ y i. f y (in_later y c.var.0 (cell_vars cs) i)),
    )

    target_known : (f : Bool) (t : Target) (k : Table) → Clean (target_vars t) k
        → On (target_vars t) (noted_target f t k) → TargetKnown f t
    target_known f to.Nothing k clean on = tt
    target_known true (to.Node x) k clean on = ap is_fetched
        (on x.0 (first_in x.0 []) ∙ get_set k x.0 Fetched Plain (clean x.0 (first_in x.0 [])))
    target_known false (to.Node x) k clean on = ap is_fetched
        (on x.0 (first_in x.0 []) ∙ clean x.0 (first_in x.0 []))
    target_known f (to.One x) k clean on = on x.0 (first_in x.0 []) ∙ clean x.0 (first_in x.0 [])
    target_known f (to.Vector xs) k clean on = all_plain xs (λ y i. on y i ∙ clean y i)

    module _ (p : Program) where
      mutual
        unfolding noted_act act_vars ActKnown ActFormed

        act_known : (o : Act) (scope : Scope) (k : Table) → ActFormed p scope o
            → Once scope (act_vars o) → OnScope scope k → Clean (act_vars o) k
            → On (act_vars o) (noted_act l o k) → ActKnown o
        act_known (case v as') scope k f once sc clean on
            = subst (λ ws. ArmsKnown ws as') (fields_same p scope k v sc f.0)
            (arms_known (field_words l k v) as' scope k f.1 once sc clean on)
        act_known (nested b) scope k f once sc clean on = code_known b scope k f once sc clean on
        act_known (leaf l) scope k f once sc clean on = tt

        code_known : (b : Code) (scope : Scope) (k : Table) → CodeFormed p scope b
            → Once scope (code_vars b) → OnScope scope k → Clean (code_vars b) k
            → On (code_vars b) (noted_code l b k) → CodeKnown b
        code_known (end o) scope k f once sc clean on = act_known o scope k f once sc clean on
        code_known (store cs b) scope k f once sc clean on =
            let xs : List ℕ = cell_vars cs in
            let at : (y : ℕ) → 0 < times y xs → slice_get K y ≡ slice_get k y
            = λ y i. on y (in_left y xs (code_vars b) i) ∙ code_leaves b k y
            (apart_left scope xs (code_vars b) once y i) in (
              cells_plain cs (λ y i. at y i ∙ clean y (in_left y xs (code_vars b) i)),
              code_known b (with_word_variables xs scope) k f.1
                  (once_words scope xs (code_vars b) once) (on_words scope xs k sc at)
                  (λ y i. clean y (in_right y xs (code_vars b) i))
                  (λ y i. on y (in_right y xs (code_vars b) i)),
            )
        code_known (bind t o b) scope k f once sc clean on =
            let xs : List ℕ = target_vars t in
            let os : List ℕ = act_vars o in
            let bs : List ℕ = code_vars b in
            let k1 : Table = noted_act l o k in
            let k2 : Table = noted_target (is_fetch o) t k1 in
            let later : (y : ℕ) → 0 < times y (xs ++ (os ++ bs)) → times y bs ≡ 0
            → slice_get K y ≡ slice_get k2 y = λ y i z. on y i ∙ code_leaves b k2 y z in
            let of_target : (y : ℕ) → 0 < times y xs → slice_get K y ≡ slice_get k2 y
            = λ y i. later y (in_left y xs (os ++ bs) i)
            (third_free scope xs os bs once y (omega (arith, i))) in
            let of_act : (y : ℕ) → 0 < times y os → slice_get K y ≡ slice_get k1 y
            = λ y i. later y (in_right y xs (os ++ bs) (in_left y os bs i))
            (third_of_second scope xs os bs once y i) ∙ target_leaves (is_fetch o) t k1 y
            (first_of_second scope xs os bs once y i) in
            let of_scope : (y : ℕ) → 0 < times y scope.nodes + times y scope.words
            → slice_get K y ≡ slice_get k2 y
            = λ y i. sc y i ∙ sym
            (target_leaves (is_fetch o) t k1 y (first_of_scope scope xs os bs once y i) ∙
            act_leaves o k y (second_of_scope scope xs os bs once y i)) in (
              target_known (is_fetch o) t k1
                  (λ y i. act_leaves o k y (second_of_first scope xs os bs once y i) ∙ clean y
                  (in_left y xs (os ++ bs) i)) of_target,
              act_known o scope k f.0 (once_second scope xs os bs once) sc
                  (λ y i. clean y (in_right y xs (os ++ bs) (in_left y os bs i))) of_act,
              code_known b (with_target t scope) k2 f.1 (once_target t scope os bs once)
                  (on_target t scope k2 of_scope of_target)
                  (λ y i. target_leaves (is_fetch o) t k1 y (first_of_third scope xs os bs once y i)
                  ∙ act_leaves o k y (second_of_third scope xs os bs once y i) ∙ clean y
                  (in_right y xs (os ++ bs) (in_right y os bs i)))
                  (λ y i. on y (in_right y xs (os ++ bs) (in_right y os bs i))),
            )

        arms_known : (ws : List W.Word) (as' : Arms) (scope : Scope) (k : Table)
            → ArmsFormed p scope as' → Once scope (arms_vars as') → OnScope scope k
            → Clean (arms_vars as') k → On (arms_vars as') (noted_arms l ws as' k)
            → ArmsKnown ws as'
        arms_known ws no_arm scope k f once sc clean on = tt
        arms_known ws (arm s b as') scope k f once sc clean on =
            let xs : List ℕ = shape_vars s in
            let bs : List ℕ = code_vars b in
            let rs : List ℕ = arms_vars as' in
            let k1 : Table = noted_shape ws s k in
            let k2 : Table = noted_code l b k1 in
            let of_shape : (y : ℕ) → 0 < times y xs → slice_get K y ≡ slice_get k1 y
            = λ y i. on y (in_left y xs (bs ++ rs) i) ∙ arms_leave ws as' k2 y
            (third_free scope xs bs rs once y (omega (arith, i))) ∙ code_leaves b k1 y
            (second_of_first scope xs bs rs once y i) in (
              shape_known ws s k (once_first scope xs bs rs once)
                  (λ y i. clean y (in_left y xs (bs ++ rs) i)) of_shape,
              code_known b (with_word_variables xs scope) k1 f.1
                  (once_words scope xs bs (once_two scope xs bs rs once))
                  (on_words scope xs k1
                  (λ y i. sc y i ∙ sym
                  (shape_leaves ws s k y (first_of_scope scope xs bs rs once y i))) of_shape)
                  (λ y i. shape_leaves ws s k y (first_of_second scope xs bs rs once y i) ∙ clean y
                  (in_right y xs (bs ++ rs) (in_left y bs rs i)))
                  (λ y i. on y (in_right y xs (bs ++ rs) (in_left y bs rs i)) ∙ arms_leave ws as' k2
                  y (third_of_second scope xs bs rs once y i)),
              arms_known ws as' scope k2 f.2 (once_third scope xs bs rs once)
                  (λ y i. sc y i ∙ sym
                  (code_leaves b k1 y (second_of_scope scope xs bs rs once y i) ∙ shape_leaves
                  ws s k y (first_of_scope scope xs bs rs once y i)))
                  (λ y i. code_leaves b k1 y (second_of_third scope xs bs rs once y i) ∙
                  shape_leaves ws s k y (first_of_third scope xs bs rs once y i) ∙ clean y
                  (in_right y xs (bs ++ rs) (in_right y bs rs i)))
                  (λ y i. on y (in_right y xs (bs ++ rs) (in_right y bs rs i))),
            )

      -- the parameters stay, and the body is known
      abbrev pub ProcedureKnown : Procedure → Type 0
      ProcedureKnown q = AllOf (λ x. IsPlain x.0) q.params × CodeKnown q.body

      procs_known : (qs : List Procedure) (k : Table) → AllOf (ProcedureFormed p) qs
          → ((y : ℕ) → times y (procs_vars qs) ≤ 1) → Clean (procs_vars qs) k
          → On (procs_vars qs) (noted_procs l qs k) → AllOf ProcedureKnown qs
      procs_known [] k f once clean on = tt
      procs_known (q ∷ qs) k f once clean on =
          let xs : List ℕ = numbers_of q.params in
          let bs : List ℕ = code_vars q.body in
          let rs : List ℕ = procs_vars qs in
          let none : Scope = record { nodes = []; words = [] } in
          let once' : Once none (xs ++ (bs ++ rs)) = λ y.
          (let e : times y ((xs ++ bs) ++ rs) ≡ times y (xs ++ bs) + times y rs
          = times_append y (xs ++ bs) rs in let e2
          : times y (xs ++ bs) ≡ times y xs + times y bs = times_append y xs bs in
          let e3 : times y (xs ++ (bs ++ rs)) ≡ times y xs + times y (bs ++ rs)
          = times_append y xs (bs ++ rs) in let e4
          : times y (bs ++ rs) ≡ times y bs + times y rs = times_append y bs rs in let o
          : times y ((xs ++ bs) ++ rs) ≤ 1 = once y in omega arith) in
          let k1 : Table = noted_code l q.body k in
          let later : (y : ℕ) → 0 < times y (xs ++ bs) → times y rs ≡ 0
          → slice_get K y ≡ slice_get k1 y = λ y i z. on y (in_left y (xs ++ bs) rs i) ∙
          procs_leave qs k1 y z in
          let of_params : (y : ℕ) → 0 < times y xs → slice_get K y ≡ slice_get k y
          = λ y i. later y (in_left y xs bs i) (third_free none xs bs rs once' y (omega (arith, i)))
          ∙ code_leaves q.body k y (second_of_first none xs bs rs once' y i) in (
            (
              all_plain q.params
                  (λ y i. of_params y i ∙ clean y (in_left y (xs ++ bs) rs (in_left y xs bs i))),
              code_known q.body (params_scope q) k f.0 (once_params none xs bs rs once')
                  (λ y i. of_params y (omega (arith, i)))
                  (λ y i. clean y (in_left y (xs ++ bs) rs (in_right y xs bs i)))
                  (λ y i. later y (in_right y xs bs i) (third_of_second none xs bs rs once' y i)),
            ),
            procs_known qs k1 f.1
                (λ y. (let o : times y [] + times y [] + times y rs ≤ 1
                = once_third none xs bs rs once' y in omega arith))
                (λ y i. code_leaves q.body k y (second_of_third none xs bs rs once' y i) ∙ clean y
                (in_right y (xs ++ bs) rs i)) (λ y i. on y (in_right y (xs ++ bs) rs i)),
          )

pub all_known : (g : Program) → Formed g → AllOf (ProcedureKnown (layout_of g) (table_of g) g)
    g.procs
all_known g f = procs_known (layout_of g) (table_of g) g g.procs
    (replicate (past_procs g.procs) Plain) f.procedures f.variables_once
    (λ y i. get_all_plain (past_procs g.procs) y (below y i)) (λ y i. refl)
  where
    below : (y : ℕ) → 0 < times y (procs_vars g.procs) → y < past_procs g.procs
    below y i = go (nat_le (past_procs g.procs) y) refl
      where
        past : nat_le (past_procs g.procs) y ≡ true → past_procs g.procs ≤ y
        past e = grind (arith, nat_tests)

        before : nat_le (past_procs g.procs) y ≡ false → y < past_procs g.procs
        before e = grind (arith, nat_tests)

        go : (b : Bool) → nat_le (past_procs g.procs) y ≡ b → y < past_procs g.procs
        go true e = let z : times y (procs_vars g.procs) ≡ 0 = past_procs_none y g.procs (past e)
            in absurd (omega arith)
        go false e = before e
