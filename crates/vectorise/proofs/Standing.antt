-- The variables of the two programs: a word stands for a word, and a vector for a node.
use Rattle.std.proofs.Common.{◌≡◌, ℕ, zero, suc, ◌+◌, ◌<◌, ◌≤◌, Bool, true, false, cond, nat_eq, List, [], ◌∷◌, ◌++◌, map, length, Option, Some, None, slice_get, refl, sym, ap, ◌∙◌, subst, inl, inr, ◌⊎◌, ⊎_elim, arith}
use Rattle.std.proofs.lemmas.Bool.Decides.{nat_tests}
use Rattle.seq.proofs.Order.{lt_or_le}
use Rattle.grin_syntax.specs.declared.program.VarId.{VarId}
use Rattle.grin_syntax.specs.declared.program.Cell.{Cell}
use Rattle.grin_syntax.specs.declared.program.Target.TheVariants as to
use Rattle.grin_syntax.specs.declared.program.Word as W
use Rattle.grin_syntax.specs.declared.program.Word.TheVariants.{Lit, Var, Global, TagWord}
use Rattle.grin_syntax.specs.Tree.{Procedure, Program}
use Rattle.grin_syntax.specs.Binders.{numbers_of, cell_vars}
use Rattle.grin_syntax.specs.Formed.{AllOf, Scope, InScope, with_word_variables}
use Rattle.grin_syntax.specs.Fresh.{variables, past_vars, past_cells}
use Rattle.grin_syntax.proofs.Counted.{fresh_below, fresh_past}
use Rattle.grin_syntax.proofs.Scopes.{first_in}
use Rattle.grin_meaning.specs.Values.{Datum, tag, cell, Node, Value, node, words, Env, and_then, only_word, padded, Binding, with_vars, one_each, word_of, words_of, bindings_of}
use Rattle.grin_meaning.specs.Run.{places}
use Rattle.vectorise.specs.Known.{Layout, Table, vector_start, field_capacity_of, word_for, vector_words}
use Rattle.vectorise.specs.Vectors.{wide_cells}
use Rattle.vectorise.proofs.Noted.{in_later, IsPlain, FieldsKnown}
use Rattle.vectorise.proofs.Scoped.{Origin, all_counts, WordIn, Carries, Below, words_carry, words_below, is_first}
use Rattle.vectorise.proofs.Vals.{filled, filled_length, padded_filled, vector_of, Stands, one_each_named, names_stand}
use Rattle.seq.specs.Lists.{times}
use Rattle.seq.proofs.Counted.{counts, times_append, one_at}
use Rattle.grin_meaning.proofs.Scopes.{Once}
use Rattle.grin_meaning.proofs.Bindings.{named}
use Rattle.grin_syntax.proofs.Placed.{same_var}

module _ (l : Layout) (K : Table) (g : Program) (procs : List Procedure)
    (same_count : length procs ≡ length g.procs) where
  abbrev pub NodeStands : VarId → Value → Env → Type 0
  NodeStands x (node n) env' =
      (words_of g env' (vector_words l x (suc (field_capacity_of l K x))) ≡ Some
      (vector_of (field_capacity_of l K x) n)) × (length n.fields ≤ field_capacity_of l K x)
  NodeStands x (words ds) env' = ⊥

  abbrev pub WordStands : VarId → Value → Env → Type 0
  WordStands x (words (d ∷ [])) env' = word_of g env' (word_for x (slice_get K x.0)) ≡ Some d
  WordStands x _ env' = ⊥

  pub record Stand (scope : Scope) (env env' : Env) : Type 0 where
    pub nodes : (x : VarId) → InScope scope.nodes x.0 → (v : Value) → env x.0 ≡ Some v
        → NodeStands x v env'
    pub words : (x : VarId) → InScope scope.words x.0 → (v : Value) → env x.0 ≡ Some v
        → WordStands x v env'

  -- what is in scope in the second program, as long as the first has this in scope
  pub record Held (scope : Scope) (scope' : List ℕ) : Type 0 where
    pub carries : Carries l K g procs same_count scope scope'
    pub below : Below l K g procs same_count scope scope'

  -- ---- the second environment gets more

  module _ (scope' : List ℕ) (env' env'' : Env)
      (keeps : (u : ℕ) → InScope scope' u → env'' u ≡ env' u) where
    word_kept : (w : W.Word) → WordIn l K g procs same_count scope' w
        → word_of g env'' w ≡ word_of g env' w
    word_kept (Lit k) h = refl
    word_kept (Var x) h = ap (λ o. and_then o only_word) (keeps x.0 h)
    word_kept (Global i) h = refl
    word_kept (TagWord t) h = refl

    run_kept : (s k : ℕ) → ((j : ℕ) → j < k → InScope scope' (s + j))
        → words_of g env'' (map Var (variables s k)) ≡ words_of g env' (map Var (variables s k))
    run_kept s zero f = refl
    run_kept s (suc k) f =
        let first : word_of g env'' (Var (record { 0 = s })) ≡ word_of g env'
        (Var (record { 0 = s })) = word_kept (Var (record { 0 = s }))
        (let e : s + 0 ≡ s = omega arith in subst (InScope scope') e (f 0 (omega arith))) in
        let rest : words_of g env'' (map Var (variables (suc s) k)) ≡ words_of g env'
        (map Var (variables (suc s) k)) = run_kept (suc s) k
        (λ j h. let e : s + suc j ≡ suc s + j = omega arith
        in subst (InScope scope') e (f (suc j) (omega (arith, h)))) in
        λ i. and_then (first i) (λ d. and_then (rest i) (λ ds. Some (d ∷ ds)))

  keep_env : (scope : Scope) (scope' : List ℕ) (env env' env'' : Env)
      → Carries l K g procs same_count scope scope'
      → ((u : ℕ) → InScope scope' u → env'' u ≡ env' u) → Stand scope env env'
      → Stand scope env env''
  keep_env scope scope' env env' env'' c keeps st = record {
    nodes = λ x h v e. on_node x h v (st.nodes x h v e);
    words
        = λ x h v e. on_word x h v (st.words x h v e);
  }
    where
      on_node : (x : VarId) → InScope scope.nodes x.0 → (v : Value) → NodeStands x v env'
          → NodeStands x v env''
      on_node x h (node n) s = (
        run_kept scope' env' env'' keeps (vector_start l x.0) (suc (field_capacity_of l K x))
            (c.nodes x.0 h) ∙ s.0,
        s.1,
      )
      on_node x h (words ds) s = s

      on_word : (x : VarId) → InScope scope.words x.0 → (v : Value) → WordStands x v env'
          → WordStands x v env''
      on_word x h (words (d ∷ [])) s = word_kept scope' env' env'' keeps
          (word_for x (slice_get K x.0)) (c.words x h) ∙ s
      on_word x h (words []) s = s
      on_word x h (words (d ∷ (e ∷ ds))) s = s
      on_word x h (node n) s = s

  -- ---- the first environment gets one variable more

  abbrev plus : ℕ → Value → Env → Env
  plus x v env = λ y. cond (nat_eq y x) (Some v) (env y)

  not_zero : {A : Type 0} (y x : ℕ) (xs : List ℕ) → times x xs ≡ 0 → InScope xs y
      → nat_eq y x ≡ true → A
  not_zero y x xs z h e = let same : y ≡ x = grind (arith, nat_tests) in let f : times y xs ≡ 0
      = ap (λ n. times n xs) same ∙ z in absurd (omega (arith, h, f))

  is_value : {a b : Value} → ◌≡◌ {A = Option Value} (Some a) (Some b) → a ≡ b
  is_value h = cc

  pub add_word : (scope : Scope) (env env' : Env) (x : VarId) (d : Datum)
      → times x.0 scope.nodes ≡ 0 → word_of g env' (word_for x (slice_get K x.0)) ≡ Some d
      → Stand scope env env'
      → Stand (with_word_variables (x.0 ∷ []) scope) (plus x.0 (words (d ∷ [])) env) env'
  add_word scope env env' x d none w st = record {
    nodes = λ y h v e. old_node y h v (nat_eq y.0 x.0) refl e;
    words = λ y h v e. at_word y h v (nat_eq y.0 x.0) refl e;
  }
    where
      old_node : (y : VarId) → InScope scope.nodes y.0 → (v : Value) → (b : Bool)
          → nat_eq y.0 x.0 ≡ b → cond b (Some (words (d ∷ []))) (env y.0) ≡ Some v
          → NodeStands y v env'
      old_node y h v true q e = not_zero y.0 x.0 scope.nodes none h q
      old_node y h v false q e = st.nodes y h v e

      at_word : (y : VarId) → InScope (x.0 ∷ scope.words) y.0 → (v : Value) → (b : Bool)
          → nat_eq y.0 x.0 ≡ b → cond b (Some (words (d ∷ []))) (env y.0) ≡ Some v
          → WordStands y v env'
      at_word y h v true q e =
          let same : y.0 ≡ x.0 = grind (arith, nat_tests) in
          subst (λ z. WordStands z v env') (sym (same_var y x same))
          (subst (λ u. WordStands x u env') (is_value e) w)
      at_word y h v false q e = st.words y (later q h) v e
        where
          later : nat_eq y.0 x.0 ≡ false → InScope (x.0 ∷ scope.words) y.0 → InScope scope.words y.0
          later q h = let c : counts (nat_eq y.0 x.0) ≡ 0 = ap counts q in omega (arith, c, h)

  add_node : (scope : Scope) (env env' : Env) (x : VarId) (n : Node) → times x.0 scope.words ≡ 0
      → NodeStands x (node n) env' → Stand scope env env'
      → Stand (record { nodes = x.0 ∷ scope.nodes; words = scope.words }) (plus x.0 (node n) env)
      env'
  add_node scope env env' x n none s st = record {
    nodes = λ y h v e. at_node y h v (nat_eq y.0 x.0) refl e;
    words = λ y h v e. old_word y h v (nat_eq y.0 x.0) refl e;
  }
    where
      old_word : (y : VarId) → InScope scope.words y.0 → (v : Value) → (b : Bool)
          → nat_eq y.0 x.0 ≡ b → cond b (Some (node n)) (env y.0) ≡ Some v → WordStands y v env'
      old_word y h v true q e = not_zero y.0 x.0 scope.words none h q
      old_word y h v false q e = st.words y h v e

      at_node : (y : VarId) → InScope (x.0 ∷ scope.nodes) y.0 → (v : Value) → (b : Bool)
          → nat_eq y.0 x.0 ≡ b → cond b (Some (node n)) (env y.0) ≡ Some v → NodeStands y v env'
      at_node y h v true q e =
          let same : y.0 ≡ x.0 = grind (arith, nat_tests) in
          subst (λ z. NodeStands z v env') (sym (same_var y x same))
          (subst (λ u. NodeStands x u env') (is_value e) s)
      at_node y h v false q e = st.nodes y (later q h) v e
        where
          later : nat_eq y.0 x.0 ≡ false → InScope (x.0 ∷ scope.nodes) y.0 → InScope scope.nodes y.0
          later q h = let c : counts (nat_eq y.0 x.0) ≡ 0 = ap counts q in omega (arith, c, h)

  -- the order of a scope doesn't matter
  pub reorder : (s t : Scope) (env env' : Env) → ((y : ℕ) → InScope t.nodes y → InScope s.nodes y)
      → ((y : ℕ) → InScope t.words y → InScope s.words y) → Stand s env env' → Stand t env env'
  reorder s t env env' f k st = record
      { nodes = λ x h v e. st.nodes x (f x.0 h) v e; words = λ x h v e. st.words x (k x.0 h) v e }

  -- ---- fields of a pattern

  pub fields_goes : (ws : List W.Word) (xs : List VarId) (ds : List Datum) (bs : List Binding)
      (scope : Scope) (env env' : Env) → Stands g env' ws ds → FieldsKnown l K ws xs
      → ((x : ℕ) → InScope (numbers_of xs) x → times x scope.nodes ≡ 0)
      → one_each xs ds ≡ Some bs → Stand scope env env'
      → Stand (with_word_variables (numbers_of xs) scope) (with_vars bs env) env'
  fields_goes ws [] [] bs scope env env' s k none e st = let h : bs ≡ [] = cc
      in subst (λ b. Stand (with_word_variables [] scope) (with_vars b env) env') (sym h) st
  fields_goes ws [] (d ∷ ds) bs scope env env' s k none e st = cc
  fields_goes ws (x ∷ xs) [] bs scope env env' s k none e st = cc
  fields_goes [] (x ∷ xs) (d ∷ ds) bs scope env env' s k none e st = absurd s
  fields_goes (w ∷ ws) (x ∷ xs) (d ∷ ds) bs scope env env' s k none e st
      = go (one_each xs ds) refl e
      (λ cs q. fields_goes ws xs ds cs (with_word_variables (x.0 ∷ []) scope)
      (plus x.0 (words (d ∷ [])) env) env' s.1 k.1
      (λ y h. none y (in_later y x.0 (numbers_of xs) h)) q
      (add_word scope env env' x d (none x.0 (first_in x.0 (numbers_of xs)))
      (ap (λ o. word_of g env' (word_for x o)) k.0 ∙ s.0) st))
    where
      order : (y : ℕ) → InScope ((x.0 ∷ numbers_of xs) ++ scope.words) y
          → InScope (numbers_of xs ++ (x.0 ∷ scope.words)) y
      order y h =
          let a : times y (numbers_of xs ++ scope.words) ≡ times y (numbers_of xs) + times y
          scope.words = times_append y (numbers_of xs) scope.words in
          let b : times y (numbers_of xs ++ (x.0 ∷ scope.words)) ≡ times y (numbers_of xs) + times y
          (x.0 ∷ scope.words) = times_append y (numbers_of xs) (x.0 ∷ scope.words) in
          omega (arith, h, a, b)

      go : (o : Option (List Binding)) → one_each xs ds ≡ o
          → and_then o (λ cs. Some ((x.0, words (d ∷ [])) ∷ cs)) ≡ Some bs
          → ((cs : List Binding) → one_each xs ds ≡ Some cs
          → Stand (with_word_variables (numbers_of xs) (with_word_variables (x.0 ∷ []) scope))
          (with_vars cs (plus x.0 (words (d ∷ [])) env)) env')
          → Stand (with_word_variables (numbers_of (x ∷ xs)) scope) (with_vars bs env) env'
      go None q e f = cc
      go (Some cs) q e f =
          let same : (x.0, words (d ∷ [])) ∷ cs ≡ bs = some_same e in
          subst (λ b. Stand (with_word_variables (numbers_of (x ∷ xs)) scope) (with_vars b env)
          env') same
          (reorder (with_word_variables (numbers_of xs) (with_word_variables (x.0 ∷ []) scope))
          (with_word_variables (numbers_of (x ∷ xs)) scope)
          (with_vars cs (plus x.0 (words (d ∷ [])) env)) env' (λ y h. h) order (f cs q))
        where
          some_same : {as' cs : List Binding} → ◌≡◌ {A = Option (List Binding)} (Some as') (Some cs)
              → as' ≡ cs
          some_same h = cc

  -- ---- a word for a word

  -- a variable that is bound now isn't in scope in the second program yet
  new_var : (scope : Scope) (scope' : List ℕ) (x : ℕ) → x < l.base → Held scope scope'
      → times x scope.nodes ≡ 0 → times x scope.words ≡ 0 → times x scope' ≡ 0
  new_var scope scope' x lt h n w = let b : times x scope' ≤ times x scope.nodes + times x
      scope.words = h.below x x (inl (lt, refl)) in omega (arith, b, n, w)

  plus_keeps : (x : ℕ) (v : Value) (env : Env) (scope' : List ℕ) → times x scope' ≡ 0 → (u : ℕ)
      → InScope scope' u → plus x v env u ≡ env u
  plus_keeps x v env scope' z u h = go (nat_eq u x) refl
    where
      go : (b : Bool) → nat_eq u x ≡ b → cond b (Some v) (env u) ≡ env u
      go true e = not_zero u x scope' z h e
      go false e = refl

  own_word : (x : ℕ) (d : Datum) (env : Env) → word_of g (plus x (words (d ∷ [])) env)
      (Var (record { 0 = x })) ≡ Some d
  own_word x d env = let e : nat_eq x x ≡ true = grind (arith, nat_tests)
      in ap (λ b. and_then (cond b (Some (words (d ∷ []))) (env x)) only_word) e

  pub bind_word : (scope : Scope) (scope' : List ℕ) (env env' : Env) (x : VarId) (d : Datum)
      → x.0 < l.base → IsPlain l K x.0 → times x.0 scope.nodes ≡ 0 → times x.0 scope.words ≡ 0
      → Held scope scope' → Stand scope env env'
      → Stand (with_word_variables (x.0 ∷ []) scope) (plus x.0 (words (d ∷ [])) env)
      (plus x.0 (words (d ∷ [])) env')
  bind_word scope scope' env env' x d lt plain n w h st =
      add_word scope env (plus x.0 (words (d ∷ [])) env') x d n
      (ap (λ o. word_of g (plus x.0 (words (d ∷ [])) env') (word_for x o)) plain ∙ own_word x.0
      d env')
      (keep_env scope scope' env env' (plus x.0 (words (d ∷ [])) env') h.carries
      (plus_keeps x.0 (words (d ∷ [])) env' scope' (new_var scope scope' x.0 lt h n w)) st)

  -- ---- cells

  held_word : (scope : Scope) (scope' : List ℕ) (x : VarId) → x.0 < l.base → IsPlain l K x.0
      → Held scope scope' → Held (with_word_variables (x.0 ∷ []) scope) (x.0 ∷ scope')
  held_word scope scope' x lt plain h = record {
    carries = words_carry l K g procs same_count (x.0 ∷ []) scope scope'
        (λ y i. subst (IsPlain l K) (sym (only y i)) plain) h.carries;
    below = words_below l K g procs same_count (x.0 ∷ []) scope scope' (λ u z o. one u z o) h.below;
  }
    where
      only : (y : ℕ) → InScope (x.0 ∷ []) y → y ≡ x.0
      only y i = ⊎_elim (λ e. e) (λ k. absurd (omega (arith, k)))
          (is_first l K g procs same_count y x.0 [] i)

      one : (u z : ℕ) → Origin l u z → times u (x.0 ∷ []) ≤ times z (x.0 ∷ [])
      one u z o = all_counts l u z (x ∷ []) o (omega (arith, lt))

  pub places_stand : (cs : List Cell) (a : ℕ) (scope : Scope) (scope' : List ℕ) (env env' : Env)
      → past_cells cs ≤ l.base → AllOf (λ c. IsPlain l K c.var.0) cs → Once scope (cell_vars cs)
      → Held scope scope' → Stand scope env env'
      → Stand (with_word_variables (cell_vars cs) scope) (with_vars (places a cs) env)
      (with_vars (places a (wide_cells l K cs)) env')
  places_stand [] a scope scope' env env' le plain once h st = st
  places_stand (c ∷ cs) a scope scope' env env' le plain once h st =
      let x : VarId = c.var in
      let lt : x.0 < l.base = omega (arith, le) in
      let n : times x.0 scope.nodes + times x.0 scope.words ≡ 0 = alone in
      let s1 : Scope = with_word_variables (x.0 ∷ []) scope in
      reorder (with_word_variables (cell_vars cs) s1)
      (with_word_variables (cell_vars (c ∷ cs)) scope) _ _ (λ y i. i) order
      (places_stand cs (suc a) s1 (x.0 ∷ scope') _ _ (omega (arith, le)) plain.1 later
      (held_word scope scope' x lt plain.0 h)
      (bind_word scope scope' env env' x (cell a) lt plain.0 (omega (arith, n)) (omega (arith, n)) h
      st))
    where
      alone : times c.var.0 scope.nodes + times c.var.0 scope.words ≡ 0
      alone = let o : times c.var.0 scope.nodes + times c.var.0 scope.words + times c.var.0
          (c.var.0 ∷ cell_vars cs) ≤ 1 = once c.var.0 in let e : counts (nat_eq c.var.0 c.var.0) ≡ 1
          = one_at c.var.0 in omega (arith, o, e)

      later : Once (with_word_variables (c.var.0 ∷ []) scope) (cell_vars cs)
      later y = let o : times y scope.nodes + times y scope.words + times y (c.var.0 ∷ cell_vars cs)
          ≤ 1 = once y in omega (arith, o)

      order : (y : ℕ) → InScope ((c.var.0 ∷ cell_vars cs) ++ scope.words) y
          → InScope (cell_vars cs ++ (c.var.0 ∷ scope.words)) y
      order y i =
          let a : times y (cell_vars cs ++ scope.words) ≡ times y (cell_vars cs) + times y
          scope.words = times_append y (cell_vars cs) scope.words in
          let b : times y (cell_vars cs ++ (c.var.0 ∷ scope.words)) ≡ times y (cell_vars cs) + times
          y (c.var.0 ∷ scope.words) = times_append y (cell_vars cs) (c.var.0 ∷ scope.words) in
          omega (arith, i, a, b)

  -- the arguments of a procedure
  pub params_stand : (xs : List VarId) (ds : List Datum) (bs : List Binding) (scope : Scope)
      (scope' : List ℕ) (env env' : Env) → past_vars xs ≤ l.base → AllOf (λ x. IsPlain l K x.0) xs
      → Once scope (numbers_of xs)
      → one_each xs ds ≡ Some bs → Held scope scope' → Stand scope env env'
      → Stand (with_word_variables (numbers_of xs) scope) (with_vars bs env) (with_vars bs env')
  params_stand [] [] bs scope scope' env env' le plain once e h st = let q : bs ≡ [] = cc
      in subst (λ b. Stand (with_word_variables [] scope) (with_vars b env) (with_vars b env'))
      (sym q) st
  params_stand [] (d ∷ ds) bs scope scope' env env' le plain once e h st = cc
  params_stand (x ∷ xs) [] bs scope scope' env env' le plain once e h st = cc
  params_stand (x ∷ xs) (d ∷ ds) bs scope scope' env env' le plain once e h st
      = go (one_each xs ds) refl e
      (λ cs q. params_stand xs ds cs (with_word_variables (x.0 ∷ []) scope) (x.0 ∷ scope') _ _
      (omega (arith, le)) plain.1 later q
      (held_word scope scope' x (omega (arith, le)) plain.0 h)
      (bind_word scope scope' env env' x d (omega (arith, le)) plain.0
      (let n = alone in omega (arith, n)) (let n = alone in omega (arith, n)) h st))
    where
      alone : times x.0 scope.nodes + times x.0 scope.words ≡ 0
      alone = let o : times x.0 scope.nodes + times x.0 scope.words + times x.0
          (x.0 ∷ numbers_of xs) ≤ 1 = once x.0 in let e : counts (nat_eq x.0 x.0) ≡ 1 = one_at x.0
          in omega (arith, o, e)

      later : Once (with_word_variables (x.0 ∷ []) scope) (numbers_of xs)
      later y = let o : times y scope.nodes + times y scope.words + times y (x.0 ∷ numbers_of xs) ≤
          1 = once y in omega (arith, o)

      order : (y : ℕ) → InScope ((x.0 ∷ numbers_of xs) ++ scope.words) y
          → InScope (numbers_of xs ++ (x.0 ∷ scope.words)) y
      order y i =
          let a : times y (numbers_of xs ++ scope.words) ≡ times y (numbers_of xs) + times y
          scope.words = times_append y (numbers_of xs) scope.words in
          let b : times y (numbers_of xs ++ (x.0 ∷ scope.words)) ≡ times y (numbers_of xs) + times y
          (x.0 ∷ scope.words) = times_append y (numbers_of xs) (x.0 ∷ scope.words) in
          omega (arith, i, a, b)

      go : (o : Option (List Binding)) → one_each xs ds ≡ o
          → and_then o (λ cs. Some ((x.0, words (d ∷ [])) ∷ cs)) ≡ Some bs
          → ((cs : List Binding) → one_each xs ds ≡ Some cs
          → Stand (with_word_variables (numbers_of xs) (with_word_variables (x.0 ∷ []) scope))
          (with_vars cs (plus x.0 (words (d ∷ [])) env))
          (with_vars cs (plus x.0 (words (d ∷ [])) env')))
          → Stand (with_word_variables (numbers_of (x ∷ xs)) scope) (with_vars bs env)
          (with_vars bs env')
      go None q e f = cc
      go (Some cs) q e f =
          let same : (x.0, words (d ∷ [])) ∷ cs ≡ bs = some_same e in
          subst (λ b. Stand (with_word_variables (numbers_of (x ∷ xs)) scope) (with_vars b env)
          (with_vars b env')) same
          (reorder (with_word_variables (numbers_of xs) (with_word_variables (x.0 ∷ []) scope))
          (with_word_variables (numbers_of (x ∷ xs)) scope) _ _ (λ y i. i) order (f cs q))
        where
          some_same : {as' cs : List Binding} → ◌≡◌ {A = Option (List Binding)} (Some as') (Some cs)
              → as' ≡ cs
          some_same h = cc

  -- ---- a vector for a node

  named_keeps : (s k : ℕ) (ds : List Datum) (env : Env) (u : ℕ) → length ds ≡ k
      → times u (numbers_of (variables s k)) ≡ 0 → with_vars (named s ds) env u ≡ env u
  named_keeps s zero [] env u e z = refl
  named_keeps s zero (d ∷ ds) env u e z = absurd (omega (arith, e))
  named_keeps s (suc k) [] env u e z = absurd (omega (arith, e))
  named_keeps s (suc k) (d ∷ ds) env u e z = named_keeps (suc s) k ds _ u (omega (arith, e))
      (omega (arith, z)) ∙ go (nat_eq u s) refl
    where
      go : (b : Bool) → nat_eq u s ≡ b → cond b (Some (words (d ∷ []))) (env u) ≡ env u
      go true q = let c : counts (nat_eq u s) ≡ 1 = ap counts q in absurd (omega (arith, z, c))
      go false q = refl

  vars_length : (s k : ℕ) → length (variables s k) ≡ k
  vars_length s zero = refl
  vars_length s (suc k) = let h : length (variables (suc s) k) ≡ k = vars_length (suc s) k
      in omega arith

  -- a variable in scope isn't one of the vector that is bound now
  vector_new : (scope : Scope) (scope' : List ℕ) (x k : ℕ) → k ≤ suc l.most → Held scope scope'
      → times x scope.nodes ≡ 0 → times x scope.words ≡ 0 → (u : ℕ) → InScope scope' u
      → times u (numbers_of (variables (vector_start l x) k)) ≡ 0
  vector_new scope scope' x k le h n w u i = go (lt_or_le u (vector_start l x))
      (lt_or_le u (vector_start l x + k))
    where
      go : (u < vector_start l x) ⊎ (vector_start l x ≤ u) → (u < vector_start l x + k)
          ⊎ (vector_start l x + k ≤ u) → times u (numbers_of (variables (vector_start l x) k)) ≡ 0
      go (inl a) o = fresh_below u (vector_start l x) k a
      go (inr a) (inr b) = fresh_past u (vector_start l x) k b
      go (inr a) (inl b) = let c : times u scope' ≤ times x scope.nodes + times x scope.words
          = h.below u x (inr (a, omega (arith, b, le))) in absurd (omega (arith, c, n, w, i))

  pub bind_node : (scope : Scope) (scope' : List ℕ) (env env' : Env) (x : VarId) (n : Node)
      → suc (field_capacity_of l K x) ≤ suc l.most → times x.0 scope.nodes ≡ 0
      → times x.0 scope.words ≡ 0 → length n.fields ≤ field_capacity_of l K x → Held scope scope'
      → Stand scope env env'
      → Stand (record { nodes = x.0 ∷ scope.nodes; words = scope.words }) (plus x.0 (node n) env)
      (with_vars (named (vector_start l x.0) (vector_of (field_capacity_of l K x) n)) env')
  bind_node scope scope' env env' x n le no_node no_word fits h st =
      let k : ℕ = field_capacity_of l K x in
      let ds : List Datum = vector_of k n in
      let many : length ds ≡ suc k =
      (let e : length (filled k n.fields) ≡ k = filled_length k n.fields in omega (arith, e)) in
      add_node scope env (with_vars (named (vector_start l x.0) ds) env') x n no_word
      (names_stand g (vector_start l x.0) (suc k) ds env' many, fits)
      (keep_env scope scope' env env' (with_vars (named (vector_start l x.0) ds) env') h.carries
      (λ u i. named_keeps (vector_start l x.0) (suc k) ds env' u many
      (vector_new scope scope' x.0 (suc k) le h no_node no_word u i)) st)

  -- what the vector's variables take
  pub takes_node : (s k : ℕ) (n : Node) → length n.fields ≤ k
      → bindings_of g (to.Vector (variables s (suc k))) (node n) ≡ Some (named s (vector_of k n))
  takes_node s k n le =
      let many : length (variables s (suc k)) ≡ suc k = vars_length s (suc k) in
      ap (λ j. one_each (variables s (suc k)) (padded j (tag n.tag ∷ n.fields))) many ∙ ap
      (λ fs. one_each (variables s (suc k)) (tag n.tag ∷ fs)) (padded_filled k n.fields le)
      ∙ one_each_named s (suc k) (vector_of k n)
      (let e : length (filled k n.fields) ≡ k = filled_length k n.fields in omega (arith, e))

  pub takes_vector : (s k : ℕ) (n : Node) → bindings_of g (to.Vector (variables s (suc k)))
      (words (vector_of k n)) ≡ Some (named s (vector_of k n))
  takes_vector s k n = one_each_named s (suc k) (vector_of k n)
      (let e : length (filled k n.fields) ≡ k = filled_length k n.fields in omega (arith, e))
