-- Which variables the vectorised program has in scope, and that none is bound twice.
use Rattle.std.proofs.Common.{◌≡◌, ◌≢◌, ℕ, zero, suc, ◌+◌, ◌*◌, ◌-◌, ◌<◌, ◌≤◌, Bool, true, false, nat_eq, List, [], ◌∷◌, ◌++◌, map, length, Some, None, slice_get, refl, sym, ap, ◌∙◌, subst, inl, inr, ◌⊎◌, ⊎_elim, arith}
use Rattle.std.proofs.lemmas.Bool.Decides.{nat_tests}
use Rattle.seq.proofs.Order.{lt_or_le}
use Rattle.grin_syntax.specs.declared.program.VarId.{VarId}
use Rattle.grin_syntax.specs.declared.program.Tag.{Tag}
use Rattle.grin_syntax.specs.declared.program.TagKind.TheVariants as kind
use Rattle.grin_syntax.specs.declared.program.Cell.{Cell}
use Rattle.grin_syntax.specs.declared.program.Target.{Target}
use Rattle.grin_syntax.specs.declared.program.Target.TheVariants as to
use Rattle.grin_syntax.specs.declared.program.Shape.{Shape}
use Rattle.grin_syntax.specs.declared.program.Shape.TheVariants as shape
use Rattle.grin_syntax.specs.declared.program.Word as W
use Rattle.grin_syntax.specs.declared.program.Word.TheVariants.{Lit, Var, Global, TagWord}
use Rattle.grin_syntax.specs.declared.program.Val as V
use Rattle.grin_syntax.specs.declared.program.Val.TheVariants.{NodeVar, Node, Vector, One}
use Rattle.grin_syntax.specs.Tree.{Code, end, store, bind, Act, leaf, unit, fetch, fetch_word, update, eval, apply, call, prim, read, write, case, nested, fail, Arms, no_arm, arm, Procedure, Program}
use Rattle.grin_syntax.specs.Binders.{numbers_of, target_vars, shape_vars, cell_vars, act_vars, code_vars, arms_vars}
use Rattle.grin_syntax.specs.Formed.{AllOf, Scope, InScope, with_word_variables, with_target, params_scope, WordFormed, ValFormed, CellFormed, ShapeFormed, ActFormed, CodeFormed, ArmsFormed}
use Rattle.grin_syntax.specs.Fresh.{variables, past_vars, past_target, past_cells, past_act, past_code, past_arms}
use Rattle.grin_syntax.proofs.Counted.{fresh, fresh_below, fresh_once, fresh_past}
use Rattle.grin_syntax.proofs.Scopes.{first_in, with_procs, known_again}
use Rattle.grin_meaning.specs.Checks.{is_fetch}
use Rattle.grin_meaning.specs.Ready.{value_fields, most_fields, most_value_fields}
use Rattle.vectorise.specs.declared.known.Known.TheVariants.{Field}
use Rattle.vectorise.specs.Known.{Layout, Table, vector_start, room, is_fetched, field_capacity_of, word_or_zero, word_for, as_word, as_words, field_words}
use Rattle.vectorise.specs.Vectors.{wide_val, returned_val, wide_target, without_binders, wide_cells, wide_act, wide_code, wide_arms}
use Rattle.vectorise.proofs.Noted.{in_left, in_right, in_later, IsPlain, TargetKnown, FieldsKnown, ShapeKnown, ActKnown, CodeKnown, ArmsKnown}
use Rattle.seq.specs.Lists.{times}
use Rattle.seq.proofs.Counted.{counts, none_at, times_append, one_at}
use Rattle.grin_meaning.proofs.Scopes.{target_adds}

-- ---- of how a vector lies

pub most_value_most : (ts : List Tag) → most_value_fields ts ≤ most_fields ts
most_value_most [] = omega arith
most_value_most (t ∷ ts) = let h : most_value_fields ts ≤ most_fields ts = most_value_most ts
    in let f : value_fields t.kind t.fields ≤ t.fields = few t.kind t.fields in omega arith
  where
    few : (k : Rattle.grin_syntax.specs.declared.program.TagKind.TagKind) (n : ℕ)
        → value_fields k n ≤ n
    few kind.Con n = omega arith
    few kind.Fun n = omega arith
    few kind.Part n = omega arith

-- the place of a number among runs of the same length
place : (m n : ℕ) → (q : ℕ) × (q * suc m ≤ n) × (n < q * suc m + suc m)
place m zero = (0, omega arith, omega arith)
place m (suc n) = go (place m n)
  where
    go : (q : ℕ) × (q * suc m ≤ n) × (n < q * suc m + suc m) → (q : ℕ) × (q * suc m ≤ suc n)
        × (suc n < q * suc m + suc m)
    go (q, le, lt) = ⊎_elim (λ h. (q, omega (arith, le), h))
        (λ h. (suc q, next q lt h, omega (arith, le, h))) (lt_or_le (suc n) (q * suc m + suc m))
      where
        next : (q : ℕ) → n < q * suc m + suc m → q * suc m + suc m ≤ suc n → suc q * suc m ≤ suc n
        next q lt h = omega (arith, h)

later_run : (x d m : ℕ) → x * suc m + suc m ≤ (suc x + d) * suc m
later_run x d m = omega arith

module _ (l : Layout) where
  -- the variable of the first program that a variable of the second comes from
  abbrev pub Origin : ℕ → ℕ → Type 0
  Origin u z = ((u < l.base) × (u ≡ z)) ⊎
      ((vector_start l z ≤ u) × (u < vector_start l z + suc l.most))

  pub origin_of : (u : ℕ) → (z : ℕ) × Origin u z
  origin_of u = ⊎_elim (λ h. (u, inl (h, refl))) (λ h. go h (place l.most (u - l.base)))
      (lt_or_le u l.base)
    where
      go : l.base ≤ u → (q : ℕ) × (q * suc l.most ≤ u - l.base)
          × (u - l.base < q * suc l.most + suc l.most) → (z : ℕ) × Origin u z
      go h (q, le, lt) = (q, inr (omega (arith, h, le), omega (arith, h, lt)))

  no_later : (u x z : ℕ) → x < z → u < vector_start l x + suc l.most → vector_start l z ≤ u → ⊥
  no_later u x z h lt le =
      let d : ℕ = z - suc x in
      let e : z ≡ suc x + d = omega (arith, h) in
      let r : x * suc l.most + suc l.most ≤ z * suc l.most
      = subst (λ y. x * suc l.most + suc l.most ≤ y * suc l.most) (sym e) (later_run x d l.most)
      in
      absurd (omega (arith, r, lt, le))

  vector_counts : (u z x k : ℕ) → Origin u z → k ≤ suc l.most → x < l.base
      → times u (numbers_of (variables (vector_start l x) k)) ≤ counts (nat_eq z x)
  vector_counts u z x k (inl (b, e)) le lt = let h : fresh u (vector_start l x) k ≡ 0
      = fresh_below u (vector_start l x) k (omega (arith, b)) in omega (arith, h)
  vector_counts u z x k (inr (from, to')) le lt = by (lt_or_le z x) (lt_or_le x z)
    where
      by : (z < x) ⊎ (x ≤ z) → (x < z) ⊎ (z ≤ x) → times u
          (numbers_of (variables (vector_start l x) k)) ≤ counts (nat_eq z x)
      by (inl h) o = let r : fresh u (vector_start l x) k ≡ 0
          = fresh_below u (vector_start l x) k
          (⊎_elim (λ s. s) (λ s. absurd (no_later u z x h to' s)) (lt_or_le u (vector_start l x)))
          in omega (arith, r)
      by (inr g) (inl h) = let r : fresh u (vector_start l x) k ≡ 0
          = fresh_past u (vector_start l x) k
          (⊎_elim (λ s. absurd (no_later u x z h (far s) from)) (λ s. s)
          (lt_or_le u (vector_start l x + k))) in omega (arith, r)
        where
          far : u < vector_start l x + k → u < vector_start l x + suc l.most
          far s = omega (arith, s, le)
      by (inr g) (inr h) =
          let e : z ≡ x = omega (arith, g, h) in
          let c : counts (nat_eq z x) ≡ 1 = ap (λ y. counts (nat_eq y x)) e ∙ one_at x in
          let o : fresh u (vector_start l x) k ≤ 1 = fresh_once u (vector_start l x) k in
          omega (arith, c, o)

  plain_counts : (u z y : ℕ) → Origin u z → y < l.base → counts (nat_eq u y) ≤ counts (nat_eq z y)
  plain_counts u z y (inl (b, e)) lt = let h : counts (nat_eq u y) ≡ counts (nat_eq z y)
      = ap (λ v. counts (nat_eq v y)) e in omega (arith, h)
  plain_counts u z y (inr (from, to')) lt = let h : counts (nat_eq u y) ≡ 0
      = none_at u y (differ from) in omega (arith, h)
    where
      differ : vector_start l z ≤ u → u ≢ y
      differ from e = absurd (omega (arith, from, e, lt))

  pub all_counts : (u z : ℕ) (xs : List VarId) → Origin u z → past_vars xs ≤ l.base
      → times u (numbers_of xs) ≤ times z (numbers_of xs)
  all_counts u z [] o le = omega arith
  all_counts u z (x ∷ xs) o le =
      let a : counts (nat_eq u x.0) ≤ counts (nat_eq z x.0) = plain_counts u z x.0 o (omega arith)
      in
      let b : times u (numbers_of xs) ≤ times z (numbers_of xs) = all_counts u z xs o (omega arith)
      in
      omega arith

  pub cells_counts : (u z : ℕ) (cs : List Cell) → Origin u z → past_cells cs ≤ l.base
      → times u (cell_vars cs) ≤ times z (cell_vars cs)
  cells_counts u z [] o le = omega arith
  cells_counts u z (c ∷ cs) o le =
      let a : counts (nat_eq u c.var.0) ≤ counts (nat_eq z c.var.0)
      = plain_counts u z c.var.0 o (omega arith) in
      let b : times u (cell_vars cs) ≤ times z (cell_vars cs) = cells_counts u z cs o (omega arith)
      in
      omega arith

  module _ (few : l.most_value ≤ l.most) where
    pub room_fits : (f : Bool) → suc (room l f) ≤ suc l.most
    room_fits true = omega arith
    room_fits false = omega (arith, few)

    pub target_counts : (u z : ℕ) (f : Bool) (t : Target) → Origin u z → past_target t ≤ l.base
        → times u (target_vars (wide_target l f t)) ≤ times z (target_vars t)
    target_counts u z f to.Nothing o le = omega arith
    target_counts u z f (to.Node x) o le = let h : fresh u (vector_start l x.0) (suc (room l f)) ≤
        counts (nat_eq z x.0) = vector_counts u z x.0 (suc (room l f)) o (room_fits f) (omega arith)
        in omega arith
    target_counts u z f (to.One x) o le = all_counts u z (x ∷ []) o (omega arith)
    target_counts u z f (to.Vector xs) o le = all_counts u z xs o le

    module _ (K : Table) where
      pub cell_vars_stay : (cs : List Cell) → cell_vars (wide_cells l K cs) ≡ cell_vars cs
      cell_vars_stay [] = refl
      cell_vars_stay (c ∷ cs) = ap (λ xs. c.var.0 ∷ xs) (cell_vars_stay cs)

      no_vars : (s : Shape) → shape_vars (without_binders s) ≡ []
      no_vars (shape.Node t xs) = refl
      no_vars (shape.Int k) = refl
      no_vars shape.Else = refl

      more : (u z : ℕ) (xs ys xs' ys' : List ℕ) → times u xs ≤ times z xs'
          → times u ys ≤ times z ys' → times u (xs ++ ys) ≤ times z (xs' ++ ys')
      more u z xs ys xs' ys' h k = let a : times u (xs ++ ys) ≡ times u xs + times u ys
          = times_append u xs ys in let b : times z (xs' ++ ys') ≡ times z xs' + times z ys'
          = times_append z xs' ys' in omega (arith, h, k)

      mutual
        unfolding wide_act act_vars past_act

        act_counts : (u z : ℕ) (o : Act) → Origin u z → past_act o ≤ l.base
            → times u (act_vars (wide_act l K o)) ≤ times z (act_vars o)
        act_counts u z (case v as') o le = arms_count u z as' o le
        act_counts u z (nested b) o le = code_counts u z b o le
        act_counts u z (leaf l) o le = omega arith

        pub code_counts : (u z : ℕ) (b : Code) → Origin u z → past_code b ≤ l.base
            → times u (code_vars (wide_code l K b)) ≤ times z (code_vars b)
        code_counts u z (end a) o le = act_counts u z a o le
        code_counts u z (store cs b) o le = more u z (cell_vars (wide_cells l K cs))
            (code_vars (wide_code l K b)) (cell_vars cs) (code_vars b)
            (subst (λ xs. times u xs ≤ times z (cell_vars cs)) (sym (cell_vars_stay cs))
            (cells_counts u z cs o (omega arith))) (code_counts u z b o (omega arith))
        code_counts u z (bind t a b) o le =
            more u z (target_vars (wide_target l (is_fetch a) t))
            (act_vars (wide_act l K a) ++ code_vars (wide_code l K b)) (target_vars t)
            (act_vars a ++ code_vars b)
            (target_counts u z (is_fetch a) t o (omega arith))
            (more u z (act_vars (wide_act l K a)) (code_vars (wide_code l K b)) (act_vars a)
            (code_vars b) (act_counts u z a o (omega arith))
            (code_counts u z b o (omega arith)))

        arms_count : (u z : ℕ) (as' : Arms) → Origin u z → past_arms as' ≤ l.base
            → times u (arms_vars (wide_arms l K as')) ≤ times z (arms_vars as')
        arms_count u z no_arm o le = omega arith
        arms_count u z (arm s b as') o le =
            more u z (shape_vars (without_binders s))
            (code_vars (wide_code l K b) ++ arms_vars (wide_arms l K as')) (shape_vars s)
            (code_vars b ++ arms_vars as')
            (subst (λ xs. times u xs ≤ times z (shape_vars s)) (sym (no_vars s)) (omega arith))
            (more u z (code_vars (wide_code l K b)) (arms_vars (wide_arms l K as')) (code_vars b)
            (arms_vars as') (code_counts u z b o (omega arith))
            (arms_count u z as' o (omega arith)))

  -- ---- scopes

  module _ (K : Table) (p : Program) (procs : List Procedure)
      (same_count : length procs ≡ length p.procs) where
    abbrev pub there : Program
    there = with_procs p procs same_count

    -- all are words
    abbrev pub as_scope : List ℕ → Scope
    as_scope xs = record { nodes = []; words = xs }

    abbrev pub WordIn : List ℕ → W.Word → Type 0
    WordIn scope' w = WordFormed there (as_scope scope') w

    -- what is in scope in the first is so in the second: the word that stands for a word, and the
    -- vector of a node
    pub record Carries (scope : Scope) (scope' : List ℕ) : Type 0 where
      pub words : (x : VarId) → InScope scope.words x.0
          → WordIn scope' (word_for x (slice_get K x.0))
      pub nodes : (x : ℕ) → InScope scope.nodes x → (j : ℕ)
          → j < suc (room l (is_fetched (slice_get K x))) → InScope scope' (vector_start l x + j)

    -- and no more
    abbrev pub Below : Scope → List ℕ → Type 0
    Below scope scope' = (u z : ℕ) → Origin u z → times u scope' ≤ times z scope.nodes + times z
        scope.words

    pub word_more : (us scope' : List ℕ) (w : W.Word) → WordIn scope' w → WordIn (us ++ scope') w
    word_more us scope' (Lit k) h = tt
    word_more us scope' (Var x) h = in_right x.0 us scope' h
    word_more us scope' (Global i) h = h
    word_more us scope' (TagWord t) h = h

    plain_word : (x : VarId) → IsPlain l K x.0 → word_for x (slice_get K x.0) ≡ Var x
    plain_word x e = ap (word_for x) e

    split : (y : ℕ) (xs ys : List ℕ) → InScope (xs ++ ys) y → InScope xs y ⊎ InScope ys y
    split y xs ys h = go (times y xs) refl
      where
        go : (n : ℕ) → times y xs ≡ n → InScope xs y ⊎ InScope ys y
        go (suc n) e = inl (omega (arith, e))
        go zero e = let a : times y (xs ++ ys) ≡ times y xs + times y ys = times_append y xs ys
            in inr (omega (arith, e, h, a))

    -- word variables that stay
    pub words_carry : (xs : List ℕ) (scope : Scope) (scope' : List ℕ)
        → ((y : ℕ) → InScope xs y → IsPlain l K y) → Carries scope scope'
        → Carries (with_word_variables xs scope) (xs ++ scope')
    words_carry xs scope scope' plain c = record {
      words = λ x h. ⊎_elim
          (λ i. subst (WordIn (xs ++ scope')) (sym (plain_word x (plain x.0 i)))
          (in_left x.0 xs scope' i)) (λ i. word_more xs scope' _ (c.words x i))
          (split x.0 xs scope.words h);
      nodes = λ x h j lt. in_right (vector_start l x + j) xs scope' (c.nodes x h j lt);
    }

    pub words_below : (xs : List ℕ) (scope : Scope) (scope' : List ℕ)
        → ((u z : ℕ) → Origin u z → times u xs ≤ times z xs) → Below scope scope'
        → Below (with_word_variables xs scope) (xs ++ scope')
    words_below xs scope scope' f b u z o =
        let e : times u (xs ++ scope') ≡ times u xs + times u scope' = times_append u xs scope' in
        let g : times z (xs ++ scope.words) ≡ times z xs + times z scope.words
        = times_append z xs scope.words in
        let h : times u xs ≤ times z xs = f u z o in
        let k : times u scope' ≤ times z scope.nodes + times z scope.words = b u z o in
        omega arith

    vector_has : (s k j : ℕ) → j < k → InScope (numbers_of (variables s k)) (s + j)
    vector_has s zero j h = absurd (omega arith)
    vector_has s (suc k) zero h = let e : s + 0 ≡ s = omega arith
        in subst (λ y. InScope (numbers_of (variables s (suc k))) y) (sym e)
        (first_in s (numbers_of (variables (suc s) k)))
    vector_has s (suc k) (suc j) h =
        let e : suc s + j ≡ s + suc j = omega arith in
        in_later (s + suc j) s (numbers_of (variables (suc s) k))
        (subst (λ y. InScope (numbers_of (variables (suc s) k)) y) e
        (vector_has (suc s) k j (omega arith)))

    pub is_first : (y x : ℕ) (xs : List ℕ) → InScope (x ∷ xs) y → (y ≡ x) ⊎ InScope xs y
    is_first y x xs h = go (nat_eq y x) refl
      where
        go : (b : Bool) → nat_eq y x ≡ b → (y ≡ x) ⊎ InScope xs y
        go true e = inl (grind (arith, nat_tests))
        go false e = let c : counts (nat_eq y x) ≡ 0 = ap counts e in inr (omega (arith, c, h))

    pub all_are : (xs : List VarId) → AllOf (λ x. IsPlain l K x.0) xs → (y : ℕ)
        → InScope (numbers_of xs) y → IsPlain l K y
    all_are [] f y h = absurd (omega arith)
    all_are (x ∷ xs) f y h = ⊎_elim (λ e. subst (IsPlain l K) (sym e) f.0) (λ i. all_are xs f.1 y i)
        (is_first y x.0 (numbers_of xs) h)

    cells_are : (cs : List Cell) → AllOf (λ c. IsPlain l K c.var.0) cs → (y : ℕ)
        → InScope (cell_vars cs) y → IsPlain l K y
    cells_are [] f y h = absurd (omega arith)
    cells_are (c ∷ cs) f y h = ⊎_elim (λ e. subst (IsPlain l K) (sym e) f.0)
        (λ i. cells_are cs f.1 y i) (is_first y c.var.0 (cell_vars cs) h)

    -- the parameters of a procedure
    pub params_carry : (q : Procedure) → AllOf (λ x. IsPlain l K x.0) q.params
        → Carries (params_scope q) (numbers_of q.params)
    params_carry q plain = record {
      words = λ x h. subst (WordIn (numbers_of q.params))
          (sym (plain_word x (all_are q.params plain x.0 h))) h;
      nodes = λ x h. absurd (omega (arith, h));
    }

    pub target_carries : (f : Bool) (t : Target) (scope : Scope) (scope' : List ℕ)
        → TargetKnown l K f t → Carries scope scope'
        → Carries (with_target t scope) (target_vars (wide_target l f t) ++ scope')
    target_carries f to.Nothing scope scope' k c = c
    target_carries f (to.Node x) scope scope' k c = record {
      words = λ y h. word_more (numbers_of (variables (vector_start l x.0) (suc (room l f)))) scope'
          _ (c.words y h);
      nodes = λ y h j lt. ⊎_elim
          (λ e. in_left (vector_start l y + j)
          (numbers_of (variables (vector_start l x.0) (suc (room l f)))) scope' (here y j e lt))
          (λ i. in_right (vector_start l y + j)
          (numbers_of (variables (vector_start l x.0) (suc (room l f)))) scope'
          (c.nodes y i j lt)) (is_first y x.0 scope.nodes h);
    }
      where
        here : (y j : ℕ) → y ≡ x.0 → j < suc (room l (is_fetched (slice_get K y)))
            → InScope (numbers_of (variables (vector_start l x.0) (suc (room l f))))
            (vector_start l y + j)
        here y j e lt =
            let wide : j < suc (room l f) = subst (λ b. j < suc (room l b)) k
            (subst (λ z. j < suc (room l (is_fetched (slice_get K z)))) e lt) in
            subst (λ z. InScope (numbers_of (variables (vector_start l x.0) (suc (room l f))))
            (vector_start l z + j)) (sym e)
            (vector_has (vector_start l x.0) (suc (room l f)) j wide)
    target_carries f (to.One x) scope scope' k c = words_carry (x.0 ∷ []) scope scope'
        (all_are (x ∷ []) (k, tt)) c
    target_carries f (to.Vector xs) scope scope' k c
        = words_carry (numbers_of xs) scope scope' (all_are xs k) c

    pub target_below : (few : l.most_value ≤ l.most) (f : Bool) (t : Target) (scope : Scope)
        (scope' : List ℕ) → past_target t ≤ l.base → Below scope scope'
        → Below (with_target t scope) (target_vars (wide_target l f t) ++ scope')
    target_below few f t scope scope' le b u z o =
        let e : times u (target_vars (wide_target l f t) ++ scope') ≡ times u
        (target_vars (wide_target l f t)) + times u scope'
        = times_append u (target_vars (wide_target l f t)) scope' in
        let g : times z (with_target t scope).nodes + times z (with_target t scope).words ≡ times z
        (target_vars t) + (times z scope.nodes + times z scope.words) = target_adds t scope z in
        let h : times u (target_vars (wide_target l f t)) ≤ times z (target_vars t)
        = target_counts few u z f t o le in
        let k : times u scope' ≤ times z scope.nodes + times z scope.words = b u z o in
        omega arith

    -- fields of a pattern
    fields_are : (ws : List W.Word) (xs : List VarId) (scope' : List ℕ) → AllOf (WordIn scope') ws
        → FieldsKnown l K ws xs → (x : VarId) → InScope (numbers_of xs) x.0
        → WordIn scope' (word_for x (slice_get K x.0))
    fields_are ws [] scope' f k x h = absurd (omega arith)
    fields_are [] (y ∷ xs) scope' f k x h = ⊎_elim (λ e. at_field x y (word_or_zero None) e k.0 tt)
        (λ i. fields_are [] xs scope' tt k.1 x i) (is_first x.0 y.0 (numbers_of xs) h)
      where
        at_field : (x y : VarId) (w : W.Word) → x.0 ≡ y.0 → slice_get K y.0 ≡ Some (Field w)
            → WordIn scope' w → WordIn scope' (word_for x (slice_get K x.0))
        at_field x y w e q i = subst (λ o. WordIn scope' (word_for x o))
            (sym (ap (slice_get K) e ∙ q)) i
    fields_are (w ∷ ws) (y ∷ xs) scope' f k x h = ⊎_elim (λ e. at_field x y w e k.0 f.0)
        (λ i. fields_are ws xs scope' f.1 k.1 x i) (is_first x.0 y.0 (numbers_of xs) h)
      where
        at_field : (x y : VarId) (w : W.Word) → x.0 ≡ y.0 → slice_get K y.0 ≡ Some (Field w)
            → WordIn scope' w → WordIn scope' (word_for x (slice_get K x.0))
        at_field x y w e q i = subst (λ o. WordIn scope' (word_for x o))
            (sym (ap (slice_get K) e ∙ q)) i

    pub fields_carry : (ws : List W.Word) (s : Shape) (scope : Scope) (scope' : List ℕ)
        → AllOf (WordIn scope') ws → ShapeKnown l K ws s → Carries scope scope'
        → Carries (with_word_variables (shape_vars s) scope) scope'
    fields_carry ws (shape.Node t xs) scope scope' f k c
        = record {
          words = λ x h. ⊎_elim (λ i. fields_are ws xs scope' f k x i) (λ i. c.words x i)
              (split x.0 (numbers_of xs) scope.words h);
          nodes = c.nodes;
        }
    fields_carry ws (shape.Int i) scope scope' f k c = c
    fields_carry ws shape.Else scope scope' f k c = c

    pub fields_below : (xs : List ℕ) (scope : Scope) (scope' : List ℕ) → Below scope scope'
        → Below (with_word_variables xs scope) scope'
    fields_below xs scope scope' b u z o =
        let g : times z (xs ++ scope.words) ≡ times z xs + times z scope.words
        = times_append z xs scope.words in
        let k : times u scope' ≤ times z scope.nodes + times z scope.words = b u z o in
        omega arith

    -- ---- what is formed

    pub word_formed : (scope : Scope) (scope' : List ℕ) → Carries scope scope' → (w : W.Word)
        → WordFormed p scope w → WordIn scope' (as_word K w)
    word_formed scope scope' c (Lit k) h = tt
    word_formed scope scope' c (Var x) h = c.words x h
    word_formed scope scope' c (Global i) h = h
    word_formed scope scope' c (TagWord t) h = h

    pub words_formed : (scope : Scope) (scope' : List ℕ) → Carries scope scope' → (ws : List W.Word)
        → AllOf (WordFormed p scope) ws → AllOf (WordIn scope') (as_words K ws)
    words_formed scope scope' c [] h = tt
    words_formed scope scope' c (w ∷ ws) h =
        (word_formed scope scope' c w h.0, words_formed scope scope' c ws h.1)

    run_formed : (scope' : List ℕ) (s k : ℕ) → ((j : ℕ) → j < k → InScope scope' (s + j))
        → AllOf (WordIn scope') (map Var (variables s k))
    run_formed scope' s zero f = tt
    run_formed scope' s (suc k) f = (
      let e : s + 0 ≡ s = omega arith in subst (InScope scope') e (f 0 (omega arith)),
      run_formed scope' (suc s) k
          (λ j h. let e : s + suc j ≡ suc s + j = omega arith
          in subst (InScope scope') e (f (suc j) (omega (arith, h)))),
    )

    module _ (few : l.most_value ≤ l.most) where
      room_least : (f : Bool) → l.most_value ≤ room l f
      room_least true = few
      room_least false = omega arith

      pub fields_formed : (scope : Scope) (scope' : List ℕ) → Carries scope scope' → (v : V.Val)
          → ValFormed p scope v → AllOf (WordIn scope') (field_words l K v)
      fields_formed scope scope' c (NodeVar x) h = run_formed scope' (suc (vector_start l x.0))
          (field_capacity_of l K x)
          (λ j lt. let e : vector_start l x.0 + suc j ≡ suc (vector_start l x.0) + j = omega arith
          in subst (InScope scope') e (c.nodes x.0 h (suc j) (omega (arith, lt))))
      fields_formed scope scope' c (Node t ws) h = words_formed scope scope' c ws h.1
      fields_formed scope scope' c (Vector ws) h = tt
      fields_formed scope scope' c (One w) h = tt

      val_formed : (scope : Scope) (scope' : List ℕ) → Carries scope scope' → (v : V.Val)
          → ValFormed p scope v → ValFormed there (as_scope scope') (wide_val l K v)
      val_formed scope scope' c (NodeVar x) h = run_formed scope' (vector_start l x.0)
          (suc (field_capacity_of l K x)) (c.nodes x.0 h)
      val_formed scope scope' c (Node t ws) h = (h.0, words_formed scope scope' c ws h.1)
      val_formed scope scope' c (Vector ws) h = words_formed scope scope' c ws h
      val_formed scope scope' c (One w) h = word_formed scope scope' c w h

      given_formed : (scope : Scope) (scope' : List ℕ) → Carries scope scope' → (v : V.Val)
          → ValFormed p scope v → ValFormed there (as_scope scope') (returned_val l K v)
      given_formed scope scope' c (NodeVar x) h = run_formed scope' (vector_start l x.0)
          (suc l.most_value)
          (λ j lt. c.nodes x.0 h j
          (let r : l.most_value ≤ field_capacity_of l K x
          = room_least (is_fetched (slice_get K x.0)) in omega (arith, lt, r)))
      given_formed scope scope' c (Node t ws) h = val_formed scope scope' c (Node t ws) h
      given_formed scope scope' c (Vector ws) h = val_formed scope scope' c (Vector ws) h
      given_formed scope scope' c (One w) h = val_formed scope scope' c (One w) h

      cells_formed : (scope : Scope) (scope' : List ℕ) → Carries scope scope' → (cs : List Cell)
          → AllOf (CellFormed p scope) cs → AllOf (CellFormed there (as_scope scope'))
          (wide_cells l K cs)
      cells_formed scope scope' c [] h = tt
      cells_formed scope scope' c (x ∷ cs) h =
          (val_formed scope scope' c x.val h.0, cells_formed scope scope' c cs h.1)

      pub cells_carry : (cs : List Cell) (scope : Scope) (scope' : List ℕ)
          → AllOf (λ c. IsPlain l K c.var.0) cs → Carries scope scope'
          → Carries (with_word_variables (cell_vars cs) scope)
          (cell_vars (wide_cells l K cs) ++ scope')
      cells_carry cs scope scope' k c = subst
          (λ xs. Carries (with_word_variables (cell_vars cs) scope) (xs ++ scope'))
          (sym (cell_vars_stay few K cs))
          (words_carry (cell_vars cs) scope scope' (cells_are cs k) c)

      pub cells_below : (cs : List Cell) (scope : Scope) (scope' : List ℕ) → past_cells cs ≤ l.base
          → Below scope scope' → Below (with_word_variables (cell_vars cs) scope)
          (cell_vars (wide_cells l K cs) ++ scope')
      cells_below cs scope scope' le b = subst
          (λ xs. Below (with_word_variables (cell_vars cs) scope) (xs ++ scope'))
          (sym (cell_vars_stay few K cs))
          (words_below (cell_vars cs) scope scope' (λ u z o. cells_counts u z cs o le) b)

      shape_formed : (s : Shape) → ShapeFormed p s → ShapeFormed there (without_binders s)
      shape_formed (shape.Node t xs) h = h
      shape_formed (shape.Int k) h = tt
      shape_formed shape.Else h = tt

      -- the scope where a target is bound
      target_scope : (f : Bool) (t : Target) (scope' : List ℕ)
          → with_target (wide_target l f t) (as_scope scope') ≡ as_scope
          (target_vars (wide_target l f t) ++ scope')
      target_scope f to.Nothing scope' = refl
      target_scope f (to.Node x) scope' = refl
      target_scope f (to.One x) scope' = refl
      target_scope f (to.Vector xs) scope' = refl

      mutual
        unfolding wide_act ActFormed ActKnown

        act_formed : (o : Act) (scope : Scope) (scope' : List ℕ) → Carries scope scope'
            → ActKnown l K o → ActFormed p scope o → ActFormed there (as_scope scope')
            (wide_act l K o)
        act_formed (case v as') scope scope' c k h = (
          val_formed scope scope' c v h.0,
          arms_formed (field_words l K v) as' scope scope' c
              (fields_formed scope scope' c v h.0) k h.1,
        )
        act_formed (nested b) scope scope' c k h = code_formed b scope scope' c k h
        act_formed (leaf (unit v)) scope scope' c k h = given_formed scope scope' c v h
        act_formed (leaf (fetch a)) scope scope' c k h = word_formed scope scope' c a h
        act_formed (leaf (fetch_word a i)) scope scope' c k h = word_formed scope scope' c a h
        act_formed (leaf (update a v)) scope scope' c k h
            = (word_formed scope scope' c a h.0, val_formed scope scope' c v h.1)
        act_formed (leaf (eval a)) scope scope' c k h = word_formed scope scope' c a h
        act_formed (leaf (apply v a)) scope scope' c k h
            = (val_formed scope scope' c v h.0, word_formed scope scope' c a h.1)
        act_formed (leaf (call f ws)) scope scope' c k h
            = (known_again p procs same_count f h.0, words_formed scope scope' c ws h.1)
        act_formed (leaf (prim f a b)) scope scope' c k h
            = (word_formed scope scope' c a h.0, word_formed scope scope' c b h.1)
        act_formed (leaf read) scope scope' c k h = tt
        act_formed (leaf (write a)) scope scope' c k h = word_formed scope scope' c a h
        act_formed (leaf fail) scope scope' c k h = tt

        pub code_formed : (b : Code) (scope : Scope) (scope' : List ℕ) → Carries scope scope'
            → CodeKnown l K b → CodeFormed p scope b
            → CodeFormed there (as_scope scope') (wide_code l K b)
        code_formed (end o) scope scope' c k h = act_formed o scope scope' c k h
        code_formed (store cs b) scope scope' c k h =
            let c' : Carries (with_word_variables (cell_vars cs) scope)
            (cell_vars (wide_cells l K cs) ++ scope') = cells_carry cs scope scope' k.0 c in (
              cells_formed (with_word_variables (cell_vars cs) scope)
                  (cell_vars (wide_cells l K cs) ++ scope') c' cs h.0,
              code_formed b (with_word_variables (cell_vars cs) scope)
                  (cell_vars (wide_cells l K cs) ++ scope') c' k.1 h.1,
            )
        code_formed (bind t o b) scope scope' c k h = (
          act_formed o scope scope' c k.1 h.0,
          subst (λ s. CodeFormed there s (wide_code l K b))
              (sym (target_scope (is_fetch o) t scope'))
              (code_formed b (with_target t scope)
              (target_vars (wide_target l (is_fetch o) t) ++ scope')
              (target_carries (is_fetch o) t scope scope' k.0 c) k.2 h.1),
        )

        arms_formed : (ws : List W.Word) (as' : Arms) (scope : Scope) (scope' : List ℕ)
            → Carries scope scope' → AllOf (WordIn scope') ws → ArmsKnown l K ws as'
            → ArmsFormed p scope as' → ArmsFormed there (as_scope scope') (wide_arms l K as')
        arms_formed ws no_arm scope scope' c f k h = tt
        arms_formed ws (arm s b as') scope scope' c f k h = (
          shape_formed s h.0,
          subst (λ xs. CodeFormed there (with_word_variables xs (as_scope scope'))
              (wide_code l K b)) (sym (no_vars few K s))
              (code_formed b (with_word_variables (shape_vars s) scope) scope'
              (fields_carry ws s scope scope' f k.0 c) k.1 h.1),
          arms_formed ws as' scope scope' c f k.2 h.2,
        )
