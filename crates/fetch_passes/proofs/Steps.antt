-- How the variables of the two programs go on, side by side, where words of a node are bound or
-- wait.
use Rattle.std.proofs.Common.{◌≡◌, ◌≢◌, ℕ, suc, pos, ◌+◌, ◌<◌, ◌≤◌, Bool, true, false, cond, nat_eq, List, [], ◌∷◌, ◌++◌, length, Option, Some, None, slice_get, refl, sym, ap, ◌∙◌, subst, inl, inr, ◌⊎◌, arith}
use Rattle.seq.proofs.Order.{eq_from, eq_self, eq_false}
use Rattle.grin_syntax.specs.declared.program.VarId.{VarId}
use Rattle.grin_syntax.specs.declared.program.Word as W
use Rattle.grin_syntax.specs.declared.program.Word.TheVariants.{Lit, Var, Global, TagWord}
use Rattle.grin_syntax.specs.Tree.{Program}
use Rattle.grin_syntax.specs.Binders.{numbers_of}
use Rattle.grin_syntax.specs.Formed.{AllOf, InScope}
use Rattle.grin_syntax.specs.Fresh.{variable}
use Rattle.grin_meaning.specs.Values.{Datum, tag, words, Env, HeapCell, and_then, only_word, padded, Binding, with_vars, one_each, word_of}
use Rattle.grin_meaning.specs.Run.{node_word, nth_or_zero, place_of}
use Rattle.pass_ground.specs.Uses.{word_is}
use Rattle.fetch_passes.specs.Names.{Names, DeferredField, as_word, with_hidden}
use Rattle.pass_ground.proofs.Tests.{never_both}
use Rattle.pass_ground.proofs.Bound.{names_of, vars_out, one_each_names}
use Rattle.fetch_passes.proofs.Found.{is_var, is_waiting, hiding_is, naming, naming_is}
use Rattle.fetch_passes.proofs.Near.{At, itself, renamed, Sound, Held, Waits, Near, waits_more}
use Rattle.seq.specs.Lists.{times}
use Rattle.seq.proofs.Counted.{counts, times_append, one_at}
use Rattle.grin_syntax.proofs.Placed.{same_var}

-- one variable with a word
abbrev pub plus : ℕ → Datum → Env → Env
plus x d env = λ y. cond (nat_eq y x) (Some (words (d ∷ []))) (env y)

pub plus_out : (x : ℕ) (d : Datum) (env : Env) (y : ℕ) → y ≢ x → plus x d env y ≡ env y
plus_out x d env y h = ap (λ b. cond b (Some (words (d ∷ []))) (env y)) (eq_false y x h)

pub plus_in : (x : ℕ) (d : Datum) (env : Env) → plus x d env x ≡ Some (words (d ∷ []))
plus_in x d env = ap (λ b. cond b (Some (words (d ∷ []))) (env x)) (eq_self x)

-- each variable has its word
abbrev pub EachIs : Env → List VarId → List Datum → Type 0
EachIs env [] ds = Unit {0}
EachIs env (x ∷ xs) [] = ⊥
EachIs env (x ∷ xs) (d ∷ ds) = (env x.0 ≡ Some (words (d ∷ []))) × EachIs env xs ds

pub bound_each : (xs : List VarId) (ds : List Datum) (bs : List Binding) (env : Env)
    → one_each xs ds ≡ Some bs → ((y : ℕ) → times y (numbers_of xs) ≤ 1)
    → EachIs (with_vars bs env) xs ds
bound_each [] ds bs env e once = tt
bound_each (x ∷ xs) [] bs env e once = cc
bound_each (x ∷ xs) (d ∷ ds) bs env e once = go (one_each xs ds) refl e
    (λ cs q. bound_each xs ds cs (plus x.0 d env) q later)
  where
    later : (y : ℕ) → times y (numbers_of xs) ≤ 1
    later y = let o : times y (x.0 ∷ numbers_of xs) ≤ 1 = once y in omega (arith, o)

    none : times x.0 (numbers_of xs) ≡ 0
    none = let o : times x.0 (x.0 ∷ numbers_of xs) ≤ 1 = once x.0 in let e
        : counts (nat_eq x.0 x.0) ≡ 1 = one_at x.0 in omega (arith, o, e)

    go : (o : Option (List Binding)) → one_each xs ds ≡ o
        → and_then o (λ cs. Some ((x.0, words (d ∷ [])) ∷ cs)) ≡ Some bs
        → ((cs : List Binding) → one_each xs ds ≡ Some cs
        → EachIs (with_vars cs (plus x.0 d env)) xs ds)
        → EachIs (with_vars bs env) (x ∷ xs) (d ∷ ds)
    go None q k f = cc
    go (Some cs) q k f =
        let h : (x.0, words (d ∷ [])) ∷ cs ≡ bs = cc in
        subst (λ l. EachIs (with_vars l env) (x ∷ xs) (d ∷ ds)) h (
          vars_out cs (plus x.0 d env) x.0 (ap (times x.0) (one_each_names xs ds cs q) ∙ none) ∙
              plus_in x.0 d env,
          f cs q,
        )

-- these variables, by the places of their words
abbrev pub numbered : ℕ → List VarId → List DeferredField
numbered i [] = []
numbered i (x ∷ xs) = record { var = x; place = i } ∷ numbered (suc i) xs

module _ (g : Program) where
  fields_wait : (a : W.Word) (c : List HeapCell) (env env' : Env) (i : ℕ) (y : HeapCell)
      → and_then (word_of g env' a) place_of ≡ Some i → slice_get c i ≡ Some y
      → (xs : List VarId) (ds : List Datum) (j : ℕ)
      → ((k : ℕ) → nth_or_zero ds k ≡ nth_or_zero y.node.fields (j + k))
      → EachIs env xs (padded (length xs) ds) → AllOf (Waits g a c env env')
      (numbered (suc j) xs)
  fields_wait a c env env' i y p t [] ds j f h = tt
  fields_wait a c env env' i y p t (x ∷ xs) [] j f h = (
    record {
      i = i;
      y = y;
      place = p;
      there = t;
      word
          = ap (λ o. and_then o only_word) h.0 ∙ ap Some
          (f 0 ∙ ap (nth_or_zero y.node.fields) (let e : j + 0 ≡ j = omega arith in e));
    },
    fields_wait a c env env' i y p t xs [] (suc j)
        (λ k. f (suc k) ∙ ap (nth_or_zero y.node.fields)
        (let e : j + suc k ≡ suc j + k = omega arith in e)) h.1,
  )
  fields_wait a c env env' i y p t (x ∷ xs) (d ∷ ds) j f h = (
    record {
      i = i;
      y = y;
      place = p;
      there = t;
      word
          = ap (λ o. and_then o only_word) h.0 ∙ ap Some
          (f 0 ∙ ap (nth_or_zero y.node.fields) (let e : j + 0 ≡ j = omega arith in e));
    },
    fields_wait a c env env' i y p t xs ds (suc j)
        (λ k. f (suc k) ∙ ap (nth_or_zero y.node.fields)
        (let e : j + suc k ≡ suc j + k = omega arith in e)) h.1,
  )

  -- the variables of a node that is fetched have its words
  pub node_waits : (a : W.Word) (c : List HeapCell) (env env' : Env) (i : ℕ) (y : HeapCell)
      → and_then (word_of g env' a) place_of ≡ Some i → slice_get c i ≡ Some y
      → (x : VarId) (xs : List VarId) → EachIs env (x ∷ xs)
      (padded (suc (length xs)) (tag y.node.tag ∷ y.node.fields))
      → AllOf (Waits g a c env env') (numbered 0 (x ∷ xs))
  node_waits a c env env' i y p t x xs h = (
    record { i = i; y = y; place = p; there = t; word = ap (λ o. and_then o only_word) h.0 },
    fields_wait a c env env' i y p t xs y.node.fields 0
        (λ k. ap (nth_or_zero y.node.fields) (let e : k ≡ 0 + k = omega arith in e)) h.1,
  )

  -- ---- from one relation to the next

  pub near_with : (xs : List ℕ) (ks : Names) (lacks : List ℕ) (a a2 : W.Word)
      (ps ps2 : List DeferredField) (c : List HeapCell) (env env' : Env)
      → AllOf (Waits g a2 c env env') ps2 → Near g xs ks lacks a ps c env env'
      → Near g xs ks lacks a2 ps2 c env env'
  near_with xs ks lacks a a2 ps ps2 c env env' w r = record { named = r.named; waits = w }

  -- where nothing waits the heap may be any
  pub near_heap : (xs : List ℕ) (ks : Names) (lacks : List ℕ) (a a2 : W.Word)
      (ps : List DeferredField) (c c2 : List HeapCell) (env env' : Env)
      → Near g xs ks lacks a ps c env env' → Near g xs ks lacks a2 [] c2 env env'
  near_heap xs ks lacks a a2 ps c c2 env env' r = record { named = r.named; waits = tt }

  pub near_dropped : (xs : List ℕ) (ks : Names) (lacks : List ℕ) (a : W.Word) (p : DeferredField)
      (ps : List DeferredField) (c : List HeapCell) (env env' : Env)
      → Near g xs ks lacks a (p ∷ ps) c env env' → Near g xs ks lacks a ps c env env'
  near_dropped xs ks lacks a p ps c env env' r = record { named = r.named; waits = r.waits.1 }

  -- what is hidden isn't lacked
  pub near_hidden : (xs : List ℕ) (ks : Names) (x : VarId) (lacks : List ℕ) (a : W.Word)
      (ps : List DeferredField) (c : List HeapCell) (env env' : Env)
      → is_var (as_word ks (Var x)) ≡ false → Near g xs ks (x.0 ∷ lacks) a ps c env env'
      → Near g xs ks lacks a ps c env env'
  near_hidden xs ks x lacks a ps c env env' h r = record
      { named = λ z d i l v e. go z d i l v e (nat_eq z.0 x.0) refl; waits = r.waits }
    where
      go : (z : VarId) (d : Datum) → InScope xs z.0 → times z.0 lacks ≡ 0
          → is_var (as_word ks (Var z)) ≡ true → word_of g env (Var z) ≡ Some d → (b : Bool)
          → nat_eq z.0 x.0 ≡ b → word_of g env' (as_word ks (Var z)) ≡ Some d
      go z d i l v e true q = never_both v
          (ap (λ u. is_var (as_word ks (Var u))) (same_var z x (eq_from z.0 x.0 q)) ∙ h)
      go z d i l v e false q = r.named z d i
          (let k : counts (nat_eq z.0 x.0) ≡ 0 = ap counts q in omega (arith, k, l)) v e

  module _ (base n : ℕ) (xs : List ℕ) (ks : Names) (sound : Sound base n xs ks)
      (low : (y : ℕ) → InScope xs y → y < base) where
    -- the second program binds a word that it lacked
    pub near_kept : (x : VarId) (k : ℕ) (lacks : List ℕ) (a b : W.Word) (ps : List DeferredField)
        (c : List HeapCell) (env env' : Env)
        (w : Waits g b c env env' (record { var = x; place = k })) → x.0 < base
        → as_word ks (Var x) ≡ Var x
        → ((y : ℕ) → word_is y a ≡ true → y ≢ x.0) → Near g xs ks (x.0 ∷ lacks) a ps c env env'
        → Near g xs ks lacks a ps c env (plus x.0 (node_word w.y.node k) env')
    near_kept x k lacks a b ps c env env' w lt own apart r = record {
      named = λ z d i l v e. go z d i l v e (nat_eq z.0 x.0) refl;
      waits = waits_more g a c env env' env (plus x.0 (node_word w.y.node k) env')
          (λ y h. plus_out x.0 (node_word w.y.node k) env' y (apart y h)) ps (all_same ps) r.waits;
    }
      where
        env1 : Env
        env1 = plus x.0 (node_word w.y.node k) env'

        all_same : (qs : List DeferredField) → AllOf (λ p. env p.var.0 ≡ env p.var.0) qs
        all_same [] = tt
        all_same (q ∷ qs) = (refl, all_same qs)

        by : (z : VarId) (d : Datum) (u : W.Word) → At base n xs z.0 u → z.0 ≢ x.0
            → word_of g env' u ≡ Some d → word_of g env1 u ≡ Some d
        by z d (Var v) (itself s) ne h = ap (λ o. and_then o only_word)
            (plus_out x.0 (node_word w.y.node k) env' v.0 (λ q. ne (sym s ∙ q))) ∙ h
        by z d (Var v) (renamed lo hi j) ne h = ap (λ o. and_then o only_word)
            (plus_out x.0 (node_word w.y.node k) env' v.0 (λ q. omega (arith, q, lo, lt))) ∙ h
        by z d (Lit j) s ne h = h
        by z d (Global j) s ne h = h
        by z d (TagWord j) s ne h = h

        go : (z : VarId) (d : Datum) → InScope xs z.0 → times z.0 lacks ≡ 0
            → is_var (as_word ks (Var z)) ≡ true → word_of g env (Var z) ≡ Some d → (t : Bool)
            → nat_eq z.0 x.0 ≡ t → word_of g env1 (as_word ks (Var z)) ≡ Some d
        go z d i l v e true q =
            let same : z ≡ x = same_var z x (eq_from z.0 x.0 q) in
            ap (λ u. word_of g env1 (as_word ks (Var u))) same ∙ ap (word_of g env1) own ∙ ap
            (λ o. and_then o only_word) (plus_in x.0 (node_word w.y.node k) env') ∙ sym w.word ∙
            ap (λ u. word_of g env (Var u)) (sym same) ∙ e
        go z d i l v e false q = by z d (as_word ks (Var z)) (sound z)
            (λ s. never_both (ap (λ y. nat_eq y x.0) s ∙ eq_self x.0) q)
            (r.named z d i
            (let m : counts (nat_eq z.0 x.0) ≡ 0 = ap counts q in omega (arith, m, l)) v e)

    -- the second program binds a word that waits, by a new variable
    pub near_named : (p : DeferredField) (a : W.Word) (ps : List DeferredField) (c : List HeapCell)
        (env env' : Env) (r : Near g xs ks [] a (p ∷ ps) c env env') → base ≤ n → Held base n xs a
        → Near g xs (naming p.var n ks) [] a ps c env
        (plus n (node_word r.waits.0.y.node p.place) env')
    near_named p a ps c env env' r lt held = record {
      named = λ z d i l v e. go z d i v e (nat_eq p.var.0 z.0) refl;
      waits = waits_more g a c env env' env env1
          (λ y h. plus_out n fetched env' y (apart y (held y h))) ps (all_same ps) r.waits.1;
    }
      where
        fetched : Datum
        fetched = node_word r.waits.0.y.node p.place

        env1 : Env
        env1 = plus n fetched env'

        all_same : (qs : List DeferredField) → AllOf (λ p. env p.var.0 ≡ env p.var.0) qs
        all_same [] = tt
        all_same (q ∷ qs) = (refl, all_same qs)

        apart : (y : ℕ) → InScope xs y ⊎ (base ≤ y × y < n) → y ≢ n
        apart y (inl i) q = let b : y < base = low y i in omega (arith, b, lt, q)
        apart y (inr k) q = let b : y < n = k.1 in omega (arith, b, q)

        by : (z : VarId) (d : Datum) (u : W.Word) → InScope xs z.0 → At base n xs z.0 u
            → word_of g env' u ≡ Some d → word_of g env1 u ≡ Some d
        by z d (Var v) i (itself s) h = ap (λ o. and_then o only_word)
            (plus_out n fetched env' v.0
            (λ q. let b : z.0 < base = low z.0 i in omega (arith, b, s, q, lt))) ∙ h
        by z d (Var v) i (renamed lo hi j) h = ap (λ o. and_then o only_word)
            (plus_out n fetched env' v.0 (λ q. omega (arith, q, hi))) ∙ h
        by z d (Lit j) i s h = h
        by z d (Global j) i s h = h
        by z d (TagWord j) i s h = h

        go : (z : VarId) (d : Datum) → InScope xs z.0
            → is_var (as_word (naming p.var n ks) (Var z)) ≡ true → word_of g env (Var z) ≡ Some d
            → (t : Bool) → nat_eq p.var.0 z.0 ≡ t → word_of g env1
            (as_word (naming p.var n ks) (Var z)) ≡ Some d
        go z d i v e true q =
            ap (word_of g env1)
            (naming_is p.var n ks z ∙ ap (λ t. cond t (Var (variable n)) (as_word ks (Var z)))
            q)
            ∙ ap (λ o. and_then o only_word) (plus_in n fetched env') ∙ sym r.waits.0.word ∙ ap
            (λ u. word_of g env (Var u)) (same_var p.var z (eq_from p.var.0 z.0 q)) ∙ e
        go z d i v e false q =
            let same : as_word (naming p.var n ks) (Var z) ≡ as_word ks (Var z)
            = naming_is p.var n ks z ∙ ap (λ t. cond t (Var (variable n)) (as_word ks (Var z)))
            q in
            ap (word_of g env1) same ∙ by z d (as_word ks (Var z)) i (sound z)
            (r.named z d i refl (ap is_var (sym same) ∙ v) e)

  -- the first program fetches a node
  pub near_fetched : (xs : List ℕ) (ks : Names) (a : W.Word) (ps ws : List DeferredField)
      (c : List HeapCell) (env env' : Env) (bs : List Binding) (ys : List ℕ) → names_of bs ≡ ys
      → ((y : ℕ) → InScope xs y → times y ys ≡ 0) → AllOf (λ p. InScope xs p.var.0) ps
      → Near g xs ks [] a ps c env env' → Near g (ys ++ xs) (with_hidden ws ks) ys a ps c
      (with_vars bs env) env'
  near_fetched xs ks a ps ws c env env' bs ys e new wait r = record {
    named = λ z d i l v h. go z d
        (let t : times z.0 (ys ++ xs) ≡ times z.0 ys + times z.0 xs = times_append z.0 ys xs
        in omega (arith, t, i, l)) v (ap (λ o. and_then o only_word) (sym (out z.0 l)) ∙ h)
        (is_waiting ws z.0) refl;
    waits = waits_more g a c env env' (with_vars bs env) env' (λ y h. refl) ps (old ps wait)
        r.waits;
  }
    where
      out : (y : ℕ) → times y ys ≡ 0 → with_vars bs env y ≡ env y
      out y h = vars_out bs env y (ap (times y) e ∙ h)

      old : (qs : List DeferredField) → AllOf (λ p. InScope xs p.var.0) qs
          → AllOf (λ p. with_vars bs env p.var.0 ≡ env p.var.0) qs
      old [] h = tt
      old (p ∷ qs) h = (out p.var.0 (new p.var.0 h.0), old qs h.1)

      go : (z : VarId) (d : Datum) → InScope xs z.0
          → is_var (as_word (with_hidden ws ks) (Var z)) ≡ true → word_of g env (Var z) ≡ Some d
          → (b : Bool) → is_waiting ws z.0 ≡ b → word_of g env'
          (as_word (with_hidden ws ks) (Var z)) ≡ Some d
      go z d i v h true q = never_both v
          (ap is_var (hiding_is ws ks z ∙ ap (λ b. cond b (Lit (pos 0)) (as_word ks (Var z))) q))
      go z d i v h false q =
          let same : as_word (with_hidden ws ks) (Var z) ≡ as_word ks (Var z)
          = hiding_is ws ks z ∙ ap (λ b. cond b (Lit (pos 0)) (as_word ks (Var z))) q in
          ap (word_of g env') same ∙ r.named z d i refl (ap is_var (sym same) ∙ v) h
