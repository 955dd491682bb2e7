-- A program with its fetches split is well formed.
use Rattle.std.proofs.Common.{◌≡◌, ℕ, zero, suc, pos, ◌+◌, ◌<◌, ◌≤◌, Bool, true, false, cond, nat_eq, List, [], ◌∷◌, ◌++◌, map, take, length, refl, sym, ap, ◌∙◌, subst, inl, inr, ◌⊎◌, arith}
use Rattle.seq.proofs.Order.{eq_from}
use Rattle.grin_syntax.specs.declared.program.VarId.{VarId}
use Rattle.grin_syntax.specs.declared.program.Tag.{Tag}
use Rattle.grin_syntax.specs.declared.program.Cell.{Cell}
use Rattle.grin_syntax.specs.declared.program.Word as W
use Rattle.grin_syntax.specs.declared.program.Word.TheVariants.{Lit, Var, Global, TagWord}
use Rattle.grin_syntax.specs.declared.program.Val as V
use Rattle.grin_syntax.specs.declared.program.Val.TheVariants.{NodeVar, Node, Vector, One}
use Rattle.grin_syntax.specs.declared.program.Target as T
use Rattle.grin_syntax.specs.declared.program.Target.TheVariants as to
use Rattle.grin_syntax.specs.Tree.{Code, end, store, bind, Act, leaf, unit, fetch, fetch_word, update, eval, apply, call, prim, read, write, case, nested, fail, Arms, no_arm, arm, Procedure, Program}
use Rattle.grin_syntax.specs.Binders.{numbers_of, target_vars, cell_vars}
use Rattle.grin_syntax.specs.Formed.{AllOf, Scope, InScope, with_word_variables, with_target, params_scope, WordFormed, ValFormed, CellFormed, ActFormed, CodeFormed, ArmsFormed, ProcedureFormed}
use Rattle.grin_syntax.specs.Fresh.{variable, variables}
use Rattle.grin_syntax.proofs.Scopes.{with_procs, known_again, shape_stays}
use Rattle.grin_meaning.specs.Ready.{NoNodeTarget, NoNodeVar, EachAct, EachCode, EachArms, most_fields, EveryBodyIsOfKind, vectorised_kind}
use Rattle.pass_ground.specs.Uses.{code_uses}
use Rattle.fetch_passes.specs.Windows.{owns, outside}
use Rattle.fetch_passes.specs.Names.{Names, DeferredField, as_word, as_words, as_val, as_cells, with_hidden, named_if}
use Rattle.fetch_passes.specs.Waits.{deferred_fields_of, deferred_fields_after}
use Rattle.fetch_passes.specs.Split.{fetched_if, word_fetches, front, front_names, names_after, cell_after, fetch_all_words, node_arms, whole_node, split_act, split_code, split_arms, split_procs, made_act, made_code}
use Rattle.pass_ground.proofs.Tests.{never_both}
use Rattle.fetch_passes.proofs.Found.{is_waiting, hiding_is, naming_is}
use Rattle.fetch_passes.proofs.Waiting.{waits_too}
use Rattle.seq.specs.Lists.{times}
use Rattle.seq.proofs.Counted.{counts, times_append, one_at}

module _ (g : Program) (procs : List Procedure) (same_count : length procs ≡ length g.procs) where
  abbrev pub after : Program
  after = with_procs g procs same_count

  abbrev pub In : List ℕ → Scope
  In ws = record { nodes = []; words = ws }

  -- more words in scope
  word_more : (ws vs : List ℕ) (w : W.Word) → ((y : ℕ) → InScope ws y → InScope vs y)
      → WordFormed after (In ws) w → WordFormed after (In vs) w
  word_more ws vs (Lit k) f h = tt
  word_more ws vs (Var x) f h = f x.0 h
  word_more ws vs (Global i) f h = h
  word_more ws vs (TagWord t) f h = h

  in_more : (xs ws : List ℕ) (y : ℕ) → InScope ws y → InScope (xs ++ ws) y
  in_more xs ws y i = let e : times y (xs ++ ws) ≡ times y xs + times y ws = times_append y xs ws
      in omega (arith, e, i)

  in_first : (xs ws : List ℕ) (y : ℕ) → InScope xs y → InScope (xs ++ ws) y
  in_first xs ws y i = let e : times y (xs ++ ws) ≡ times y xs + times y ws = times_append y xs ws
      in omega (arith, e, i)

  -- the names are words in scope in the second program, and so is what has no other name
  pub record Fits (zs ws : List ℕ) (ks : Names) (a : W.Word) : Type 0 where
    pub names : (z : VarId) → (as_word ks (Var z) ≡ Var z)
        ⊎ WordFormed after (In ws) (as_word ks (Var z))
    pub own : (z : VarId) → InScope zs z.0 → as_word ks (Var z) ≡ Var z → InScope ws z.0
    pub cell : WordFormed after (In ws) a

  -- ---- words and values

  module _ (scope : Scope) (ws : List ℕ) (ks : Names) (a : W.Word) (x : Fits scope.words ws ks a)
    where
      word_formed : (w : W.Word) → WordFormed g scope w → WordFormed after (In ws) (as_word ks w)
      word_formed (Lit k) h = tt
      word_formed (Global i) h = h
      word_formed (TagWord t) h = h
      word_formed (Var z) h = go (x.names z)
        where
          go : (as_word ks (Var z) ≡ Var z) ⊎ WordFormed after (In ws) (as_word ks (Var z))
              → WordFormed after (In ws) (as_word ks (Var z))
          go (inl e) = subst (WordFormed after (In ws)) (sym e) (x.own z h e)
          go (inr f) = f

      words_formed : (us : List W.Word) → AllOf (WordFormed g scope) us
          → AllOf (WordFormed after (In ws)) (as_words ks us)
      words_formed [] h = tt
      words_formed (u ∷ us) h = (word_formed u h.0, words_formed us h.1)

      val_formed : (v : V.Val) → NoNodeVar v → ValFormed g scope v
          → ValFormed after (In ws) (as_val ks v)
      val_formed (NodeVar y) n h = absurd n
      val_formed (Node t us) n h = (h.0, words_formed us h.1)
      val_formed (Vector us) n h = words_formed us h
      val_formed (One w) n h = word_formed w h

      cells_formed : (cs : List Cell) → AllOf (λ c. NoNodeVar c.val) cs
          → AllOf (CellFormed g scope) cs → AllOf (CellFormed after (In ws)) (as_cells ks cs)
      cells_formed [] n h = tt
      cells_formed (c ∷ cs) n h = (val_formed c.val n.0 h.0, cells_formed cs n.1 h.1)

  -- ---- scopes that grow

  fits_both : (xs zs ws : List ℕ) (ks : Names) (a : W.Word) → Fits zs ws ks a
      → Fits (xs ++ zs) (xs ++ ws) ks a
  fits_both xs zs ws ks a x = record {
    names = λ z. go z (x.names z);
    own = λ z i e. at z i e (times z.0 xs) refl;
    cell = word_more ws (xs ++ ws) a (in_more xs ws) x.cell;
  }
    where
      go : (z : VarId) → (as_word ks (Var z) ≡ Var z)
          ⊎ WordFormed after (In ws) (as_word ks (Var z)) → (as_word ks (Var z) ≡ Var z)
          ⊎ WordFormed after (In (xs ++ ws)) (as_word ks (Var z))
      go z (inl e) = inl e
      go z (inr f) = inr (word_more ws (xs ++ ws) (as_word ks (Var z)) (in_more xs ws) f)

      at : (z : VarId) → InScope (xs ++ zs) z.0 → as_word ks (Var z) ≡ Var z → (m : ℕ)
          → times z.0 xs ≡ m → InScope (xs ++ ws) z.0
      at z i e zero q = in_more xs ws z.0
          (x.own z (let t : times z.0 (xs ++ zs) ≡ times z.0 xs + times z.0 zs
          = times_append z.0 xs zs in omega (arith, t, i, q)) e)
      at z i e (suc m) q = in_first xs ws z.0 (omega (arith, q))

  fits_words : (zs ws vs : List ℕ) (ks : Names) (a : W.Word)
      → ((y : ℕ) → InScope ws y → InScope vs y) → Fits zs ws ks a → Fits zs vs ks a
  fits_words zs ws vs ks a f x = record {
    names = λ z. go z (x.names z);
    own = λ z i e. f z.0 (x.own z i e);
    cell
        = word_more ws vs a f x.cell;
  }
    where
      go : (z : VarId) → (as_word ks (Var z) ≡ Var z)
          ⊎ WordFormed after (In ws) (as_word ks (Var z)) → (as_word ks (Var z) ≡ Var z)
          ⊎ WordFormed after (In vs) (as_word ks (Var z))
      go z (inl e) = inl e
      go z (inr h) = inr (word_more ws vs (as_word ks (Var z)) f h)

  fits_scope : (zs zs2 ws : List ℕ) (ks : Names) (a : W.Word) → zs ≡ zs2 → Fits zs ws ks a
      → Fits zs2 ws ks a
  fits_scope zs zs2 ws ks a e x = subst (λ l. Fits l ws ks a) e x

  -- ---- fetches of words

  kept_words : (t : ℕ) (b : Code) → List VarId → List ℕ → List ℕ
  kept_words t b [] ws = ws
  kept_words t b (x ∷ xs) ws = kept_words t b xs (cond (outside t x.0 b) (x.0 ∷ ws) ws)

  kept_more : (t : ℕ) (b : Code) (xs : List VarId) (ws : List ℕ) (y : ℕ) → InScope ws y
      → InScope (kept_words t b xs ws) y
  unfolding kept_words
  kept_more t b [] ws y i = i
  kept_more t b (x ∷ xs) ws y i = kept_more t b xs (cond (outside t x.0 b) (x.0 ∷ ws) ws) y
      (go (outside t x.0 b))
    where
      go : (o : Bool) → InScope (cond o (x.0 ∷ ws) ws) y
      go true = omega (arith, i)
      go false = i

  kept_in : (t : ℕ) (b : Code) (xs : List VarId) (ws : List ℕ) (y : ℕ) → InScope (numbers_of xs) y
      → outside t y b ≡ true → InScope (kept_words t b xs ws) y
  unfolding kept_words
  kept_in t b [] ws y i o = absurd (omega (arith, i))
  kept_in t b (x ∷ xs) ws y i o = go (nat_eq y x.0) refl
      (λ k. kept_in t b xs (cond (outside t x.0 b) (x.0 ∷ ws) ws) y k o)
    where
      here : (p : Bool) → outside t x.0 b ≡ p → y ≡ x.0 → InScope (cond p (x.0 ∷ ws) ws) y
      here true q e = let f : counts (nat_eq y x.0) ≡ 1
          = ap (λ z. counts (nat_eq y z)) (sym e) ∙ one_at y in omega (arith, f)
      here false q e = never_both o (ap (λ z. outside t z b) e ∙ q)

      go : (s : Bool) → nat_eq y x.0 ≡ s →
          (InScope (numbers_of xs) y → InScope
          (kept_words t b xs (cond (outside t x.0 b) (x.0 ∷ ws) ws)) y)
          → InScope (kept_words t b xs (cond (outside t x.0 b) (x.0 ∷ ws) ws)) y
      go true q f = kept_more t b xs (cond (outside t x.0 b) (x.0 ∷ ws) ws) y
          (here (outside t x.0 b) refl (eq_from y x.0 q))
      go false q f = f (let k : counts (nat_eq y x.0) ≡ 0 = ap counts q in omega (arith, k, i))

  fetch_formed : (o : Bool) (x : VarId) (a : W.Word) (i : ℕ) (ws : List ℕ) (c : Code)
      → WordFormed after (In ws) a → CodeFormed after (In (cond o (x.0 ∷ ws) ws)) c
      → CodeFormed after (In ws) (fetched_if o x a i c)
  unfolding ActFormed
  fetch_formed true x a i ws c h k = (h, k)
  fetch_formed false x a i ws c h k = k

  words_formed_too : (t : ℕ) (b : Code) (a : W.Word) (i : ℕ) (xs : List VarId) (ws : List ℕ)
      (c : Code) → WordFormed after (In ws) a → CodeFormed after (In (kept_words t b xs ws)) c
      → CodeFormed after (In ws) (word_fetches t b a i xs c)
  unfolding kept_words
  words_formed_too t b a i [] ws c h k = k
  words_formed_too t b a i (x ∷ xs) ws c h k = fetch_formed (outside t x.0 b) x a i ws
      (word_fetches t b a (suc i) xs c) h
      (words_formed_too t b a (suc i) xs (cond (outside t x.0 b) (x.0 ∷ ws) ws) c
      (word_more ws (cond (outside t x.0 b) (x.0 ∷ ws) ws) a (λ y j. go y j (outside t x.0 b))
      h) k)
    where
      go : (y : ℕ) → InScope ws y → (o : Bool) → InScope (cond o (x.0 ∷ ws) ws) y
      go y j true = omega (arith, j)
      go y j false = j

  -- at the front of an alternative
  front_words : (n : ℕ) → List DeferredField → Code → List ℕ → List ℕ
  front_words n [] b ws = ws
  front_words n (p ∷ ps) b ws = front_words (suc n) ps b (cond (code_uses p.var.0 b) (n ∷ ws) ws)

  front_formed : (a : W.Word) (n : ℕ) (ps : List DeferredField) (b c : Code) (zs ws : List ℕ)
      (ks : Names) → Fits zs ws ks a →
      (Fits zs (front_words n ps b ws) (front_names n ps b ks) a
      → CodeFormed after (In (front_words n ps b ws)) c)
      → CodeFormed after (In ws) (front a n ps b c)
  unfolding front_words
  front_formed a n [] b c zs ws ks x k = k x
  front_formed a n (p ∷ ps) b c zs ws ks x k = fetch_formed (code_uses p.var.0 b) (variable n) a
      p.place ws (front a (suc n) ps b c) x.cell
      (front_formed a (suc n) ps b c zs (cond (code_uses p.var.0 b) (n ∷ ws) ws)
      (named_if (code_uses p.var.0 b) p.var n ks) (go (code_uses p.var.0 b)) k)
    where
      here : (z : VarId) (s : Bool) → nat_eq p.var.0 z.0 ≡ s → (as_word ks (Var z) ≡ Var z)
          ⊎ WordFormed after (In ws) (as_word ks (Var z))
          → (cond s (Var (variable n)) (as_word ks (Var z)) ≡ Var z)
          ⊎ WordFormed after (In (n ∷ ws)) (cond s (Var (variable n)) (as_word ks (Var z)))
      here z true q r = inr (let e : counts (nat_eq n n) ≡ 1 = one_at n in omega (arith, e))
      here z false q (inl e) = inl e
      here z false q (inr f) = inr
          (word_more ws (n ∷ ws) (as_word ks (Var z)) (in_more (n ∷ []) ws) f)

      mine : (z : VarId) (s : Bool) → nat_eq p.var.0 z.0 ≡ s → InScope zs z.0
          → cond s (Var (variable n)) (as_word ks (Var z)) ≡ Var z → InScope (n ∷ ws) z.0
      mine z true q i e =
          (let f : n ≡ z.0 = var_is e in let k : counts (nat_eq z.0 n) ≡ 1
          = ap (λ y. counts (nat_eq z.0 y)) f ∙ one_at z.0 in omega (arith, k))
        where
          var_is : {x y : VarId} → Var x ≡ Var y → x.0 ≡ y.0
          var_is e = cc
      mine z false q i e = in_more (n ∷ []) ws z.0 (x.own z i e)

      go : (o : Bool) → Fits zs (cond o (n ∷ ws) ws) (named_if o p.var n ks) a
      go true = record {
        names = λ z. subst (λ w. (w ≡ Var z) ⊎ WordFormed after (In (n ∷ ws)) w)
            (sym (naming_is p.var n ks z)) (here z (nat_eq p.var.0 z.0) refl (x.names z));
        own = λ z i e. mine z (nat_eq p.var.0 z.0) refl i (sym (naming_is p.var n ks z) ∙ e);
        cell = word_more ws (n ∷ ws) a (in_more (n ∷ []) ws) x.cell;
      }
      go false = x

  -- after a fetch of a node
  fits_node : (zs ws : List ℕ) (ks : Names) (a a' : W.Word) (v : VarId) (vs : List VarId) (b : Code)
      → Fits zs ws ks a → WordFormed after (In ws) a'
      → Fits (numbers_of (v ∷ vs) ++ zs) (kept_words v.0 b vs (v.0 ∷ ws))
      (with_hidden (deferred_fields_of v.0 b 1 vs) ks) (cond (owns v.0 b) a' a)
  fits_node zs ws ks a a' v vs b x h = record {
    names = λ z. subst (λ w. (w ≡ Var z) ⊎ WordFormed after (In us) w) (sym (hiding_is ps ks z))
        (name z (is_waiting ps z.0) (x.names z));
    own = λ z i e. mine z i (is_waiting ps z.0) refl (sym (hiding_is ps ks z) ∙ e);
    cell = go (owns v.0 b);
  }
    where
      ps : List DeferredField
      ps = deferred_fields_of v.0 b 1 vs

      us : List ℕ
      us = kept_words v.0 b vs (v.0 ∷ ws)

      more : (y : ℕ) → InScope ws y → InScope us y
      more y i = kept_more v.0 b vs (v.0 ∷ ws) y (in_more (v.0 ∷ []) ws y i)

      name : (z : VarId) (s : Bool) → (as_word ks (Var z) ≡ Var z)
          ⊎ WordFormed after (In ws) (as_word ks (Var z))
          → (cond s (Lit (pos 0)) (as_word ks (Var z)) ≡ Var z)
          ⊎ WordFormed after (In us) (cond s (Lit (pos 0)) (as_word ks (Var z)))
      name z true r = inr tt
      name z false (inl e) = inl e
      name z false (inr f) = inr (word_more ws us (as_word ks (Var z)) more f)

      kept : (z : VarId) → is_waiting (deferred_fields_of v.0 b 1 vs) z.0 ≡ false
          → as_word ks (Var z) ≡ Var z → (m k : ℕ) → counts (nat_eq z.0 v.0) ≡ m
          → times z.0 (numbers_of vs) ≡ k → InScope (numbers_of (v ∷ vs) ++ zs) z.0 → InScope us z.0
      kept z w e (suc m) k p q i = kept_more v.0 b vs (v.0 ∷ ws) z.0 (omega (arith, p))
      kept z w e zero (suc k) p q i = kept_in v.0 b vs (v.0 ∷ ws) z.0 (omega (arith, q))
          (out (outside v.0 z.0 b) refl)
        where
          out : (o : Bool) → outside v.0 z.0 b ≡ o → o ≡ true
          out true r = refl
          out false r = never_both (waits_too v.0 b 1 vs z.0 (omega (arith, q)) r) w
      kept z w e zero zero p q i = more z.0
          (x.own z (let t : times z.0 (numbers_of (v ∷ vs) ++ zs) ≡ times z.0 (numbers_of (v ∷ vs))
          + times z.0 zs = times_append z.0 (numbers_of (v ∷ vs)) zs in omega (arith, t, i, p, q))
          e)

      mine : (z : VarId) → InScope (numbers_of (v ∷ vs) ++ zs) z.0 → (s : Bool)
          → is_waiting (deferred_fields_of v.0 b 1 vs) z.0 ≡ s
          → cond s (Lit (pos 0)) (as_word ks (Var z)) ≡ Var z → InScope us z.0
      mine z i true q e = cc
      mine z i false q e = kept z q e (counts (nat_eq z.0 v.0)) (times z.0 (numbers_of vs)) refl
          refl i

      go : (o : Bool) → WordFormed after (In us) (cond o a' a)
      go true = word_more ws us a' more h
      go false = word_more ws us a more x.cell

  -- ---- a fetch that ends a block

  vars_formed : (xs : List VarId) (ws : List ℕ) →
      ((y : ℕ) → InScope (numbers_of xs) y → InScope ws y)
      → AllOf (WordFormed after (In ws)) (map Var xs)
  vars_formed [] ws f = tt
  vars_formed (x ∷ xs) ws f = (
    f x.0 (let e : counts (nat_eq x.0 x.0) ≡ 1 = one_at x.0 in omega (arith, e)),
    vars_formed xs ws (λ y i. f y (omega (arith, i))),
  )

  all_formed : (a : W.Word) (i : ℕ) (xs : List VarId) (ws : List ℕ) (c : Code)
      → WordFormed after (In ws) a →
      ((vs : List ℕ) → ((y : ℕ) → InScope ws y → InScope vs y)
      → ((y : ℕ) → InScope (numbers_of xs) y → InScope vs y) → CodeFormed after (In vs) c)
      → CodeFormed after (In ws) (fetch_all_words a i xs c)
  unfolding ActFormed
  all_formed a i [] ws c h k = k ws (λ y j. j) (λ y j. absurd (omega (arith, j)))
  all_formed a i (x ∷ xs) ws c h k = (
    h,
    all_formed a (suc i) xs (x.0 ∷ ws) c (word_more ws (x.0 ∷ ws) a (in_more (x.0 ∷ []) ws) h)
        (λ vs f e. k vs (λ y j. f y (in_more (x.0 ∷ []) ws y j))
        (λ y j. at vs f e y j (counts (nat_eq y x.0)) refl)),
  )
    where
      at : (vs : List ℕ) → ((y : ℕ) → InScope (x.0 ∷ ws) y → InScope vs y)
          → ((y : ℕ) → InScope (numbers_of xs) y → InScope vs y) → (y : ℕ)
          → InScope (x.0 ∷ numbers_of xs) y → (m : ℕ) → counts (nat_eq y x.0) ≡ m → InScope vs y
      at vs f e y j zero q = e y (omega (arith, j, q))
      at vs f e y j (suc m) q = f y (omega (arith, q))

  taken_in : (k : ℕ) (xs : List VarId) (y : ℕ) → InScope (numbers_of (take k xs)) y
      → InScope (numbers_of xs) y
  taken_in zero xs y i = absurd (omega (arith, i))
  taken_in (suc k) [] y i = i
  taken_in (suc k) (x ∷ xs) y i = go (counts (nat_eq y x.0)) refl (λ j. taken_in k xs y j)
    where
      go : (m : ℕ) → counts (nat_eq y x.0) ≡ m →
          (InScope (numbers_of (take k xs)) y → InScope (numbers_of xs) y)
          → InScope (x.0 ∷ numbers_of xs) y
      go zero q f = let j : InScope (numbers_of xs) y = f (omega (arith, i, q)) in omega (arith, j)
      go (suc m) q f = omega (arith, q)

  nodes_formed : (xs : List VarId) (ws : List ℕ) →
      ((y : ℕ) → InScope (numbers_of xs) y → InScope ws y) → (us : List Tag) (i : ℕ)
      → i + length us ≤ length g.tags → ArmsFormed after (In ws) (node_arms xs i us)
  unfolding ActFormed
  nodes_formed xs ws f [] i le = tt
  nodes_formed xs ws f (u ∷ us) i le = (
    less,
    (less, vars_formed (take u.fields xs) ws (λ y j. f y (taken_in u.fields xs y j))),
    nodes_formed xs ws f us (suc i) (omega (arith, le)),
  )
    where
      less : i < length g.tags
      less = omega (arith, le)

  whole_formed : (n : ℕ) (a : W.Word) (ws : List ℕ) → WordFormed after (In ws) a
      → CodeFormed after (In ws) (whole_node g.tags n a)
  unfolding ActFormed
  whole_formed n a ws h = all_formed a 0 (variables n (suc (most_fields g.tags))) ws _ h
      (λ vs f e. (
        vars_formed (variables n (suc (most_fields g.tags))) vs e,
        nodes_formed (variables (suc n) (most_fields g.tags)) vs (λ y j. e y (omega (arith, j)))
            g.tags
            0 (omega arith),
      ))

  -- ---- pieces

  target_is : (t : T.Target) (scope : Scope) → NoNodeTarget t
      → (with_target t scope).words ≡ target_vars t ++ scope.words
  target_is to.Nothing scope n = refl
  target_is (to.One x) scope n = refl
  target_is (to.Vector xs) scope n = refl
  target_is (to.Node x) scope n = absurd n

  target_in : (t : T.Target) (ws : List ℕ) → NoNodeTarget t
      → with_target t (In ws) ≡ In (target_vars t ++ ws)
  target_in to.Nothing ws n = refl
  target_in (to.One x) ws n = refl
  target_in (to.Vector xs) ws n = refl
  target_in (to.Node x) ws n = absurd n

  cells_names : (ks : Names) (cs : List Cell) → cell_vars (as_cells ks cs) ≡ cell_vars cs
  cells_names ks [] = refl
  cells_names ks (c ∷ cs) = ap (λ l. c.var.0 ∷ l) (cells_names ks cs)

  mutual
    unfolding split_act ActFormed EachAct made_act

    act_formed : (o : Act) (scope : Scope) (ws : List ℕ) (ks : Names) (a : W.Word)
        (ps : List DeferredField) (n : ℕ) → Fits scope.words ws ks a → EachAct vectorised_kind o
        → ActFormed g scope o → ActFormed after (In ws) (split_act g.tags ks a ps n o)
    act_formed (case v as') scope ws ks a ps n x e h
        = (val_formed scope ws ks a x v e.1 h.0, arms_formed as' scope ws ks a ps n x e.2 h.1)
    act_formed (nested b) scope ws ks a ps n x e h = code_formed b scope ws ks a [] n x e.1 h
    act_formed (leaf (unit v)) scope ws ks a ps n x e h = val_formed scope ws ks a x v e.1 h
    act_formed (leaf (fetch c)) scope ws ks a ps n x e h = word_formed scope ws ks a x c h
    act_formed (leaf (fetch_word c i)) scope ws ks a ps n x e h = word_formed scope ws ks a x c h
    act_formed (leaf (update c v)) scope ws ks a ps n x e h
        = (word_formed scope ws ks a x c h.0, val_formed scope ws ks a x v e.1 h.1)
    act_formed (leaf (eval c)) scope ws ks a ps n x e h = word_formed scope ws ks a x c h
    act_formed (leaf (apply v c)) scope ws ks a ps n x e h
        = (val_formed scope ws ks a x v e.1 h.0, word_formed scope ws ks a x c h.1)
    act_formed (leaf (call f us)) scope ws ks a ps n x e h
        = (known_again g procs same_count f h.0, words_formed scope ws ks a x us h.1)
    act_formed (leaf (prim f c d)) scope ws ks a ps n x e h
        = (word_formed scope ws ks a x c h.0, word_formed scope ws ks a x d h.1)
    act_formed (leaf read) scope ws ks a ps n x e h = tt
    act_formed (leaf (write c)) scope ws ks a ps n x e h = word_formed scope ws ks a x c h
    act_formed (leaf fail) scope ws ks a ps n x e h = tt

    pub code_formed : (b : Code) (scope : Scope) (ws : List ℕ) (ks : Names) (a : W.Word)
        (ps : List DeferredField) (n : ℕ) → Fits scope.words ws ks a → EachCode vectorised_kind b
        → CodeFormed g scope b → CodeFormed after (In ws) (split_code g.tags ks a ps n b)
    code_formed (end (leaf (fetch c))) scope ws ks a ps n x e h
        = whole_formed n (as_word ks c) ws (word_formed scope ws ks a x c h)
    code_formed (end o) scope ws ks a ps n x e h = act_formed o scope ws ks a ps n x e h
    code_formed (store cs b) scope ws ks a ps n x e h =
        let y : Fits (cell_vars cs ++ scope.words) (cell_vars cs ++ ws) ks a
        = fits_both (cell_vars cs) scope.words ws ks a x in
        let s : cell_vars cs ++ ws ≡ cell_vars (as_cells ks cs) ++ ws
        = ap (λ l. l ++ ws) (sym (cells_names ks cs)) in (
          subst (λ l. AllOf (CellFormed after (In l)) (as_cells ks cs)) s
              (cells_formed (with_word_variables (cell_vars cs) scope) (cell_vars cs ++ ws) ks a y
              cs e.0 h.0),
          subst (λ l. CodeFormed after (In l) (split_code g.tags ks a [] n b)) s
              (code_formed b (with_word_variables (cell_vars cs) scope) (cell_vars cs ++ ws) ks a []
              n y e.1 h.1),
        )
    code_formed (bind (to.Vector (v ∷ vs)) (leaf (fetch c)) b) scope ws ks a ps n x e h = (
      word_formed scope ws ks a x c h.0,
      words_formed_too v.0 b (as_word ks c) 1 vs (v.0 ∷ ws) _
          (word_more ws (v.0 ∷ ws) (as_word ks c) (in_more (v.0 ∷ []) ws)
          (word_formed scope ws ks a x c h.0))
          (code_formed b (with_word_variables (numbers_of (v ∷ vs)) scope)
          (kept_words v.0 b vs (v.0 ∷ ws)) _ _ _ (n + 0)
          (fits_node scope.words ws ks a (as_word ks c) v vs b x
          (word_formed scope ws ks a x c h.0)) e.2 h.1),
    )
    code_formed (bind (to.Vector []) (leaf (fetch c)) b) scope ws ks a ps n x e h
        = (word_formed scope ws ks a x c h.0, code_formed b scope ws ks a ps (n + 0) x e.2 h.1)
    code_formed (bind to.Nothing (leaf (fetch c)) b) scope ws ks a ps n x e h
        = (word_formed scope ws ks a x c h.0, code_formed b scope ws ks a ps (n + 0) x e.2 h.1)
    code_formed (bind (to.One y) (leaf (fetch c)) b) scope ws ks a ps n x e h
        = (
          word_formed scope ws ks a x c h.0,
          code_formed b (with_word_variables (y.0 ∷ []) scope)
              (y.0 ∷ ws) ks a ps (n + 0) (fits_both (y.0 ∷ []) scope.words ws ks a x) e.2 h.1,
        )
    code_formed (bind (to.Node y) (leaf (fetch c)) b) scope ws ks a ps n x e h = absurd e.0
    code_formed (bind t o b) scope ws ks a ps n x e h = (
      act_formed o scope ws ks a ps n x e.1 h.0,
      subst (λ s. CodeFormed after s
          (split_code g.tags (names_after o t b ks) (cell_after ks o t b a)
          (deferred_fields_after o t b ps) (n + made_act g.tags ps o) b)) (sym (target_in t ws e.0))
          (code_formed b (with_target t scope) (target_vars t ++ ws) ks a _
          (n + made_act g.tags ps o)
          (fits_scope (target_vars t ++ scope.words) (with_target t scope).words
          (target_vars t ++ ws) ks a (sym (target_is t scope e.0))
          (fits_both (target_vars t) scope.words ws ks a x)) e.2 h.1),
    )

    arms_formed : (as' : Arms) (scope : Scope) (ws : List ℕ) (ks : Names) (a : W.Word)
        (ps : List DeferredField) (n : ℕ) → Fits scope.words ws ks a → EachArms vectorised_kind as'
        → ArmsFormed g scope as' → ArmsFormed after (In ws) (split_arms g.tags ks a ps n as')
    arms_formed no_arm scope ws ks a ps n x e h = tt
    arms_formed (arm s b as') scope ws ks a ps n x e h = (
      shape_stays g procs same_count s h.0,
      subst (λ l. CodeFormed after (with_word_variables l (In ws))
          (front a n ps b (split_code g.tags (front_names n ps b ks) a [] (n + length ps) b)))
          (sym e.0)
          (front_formed a n ps b (split_code g.tags (front_names n ps b ks) a [] (n + length ps) b)
          scope.words ws ks x
          (λ y. code_formed b scope (front_words n ps b ws) (front_names n ps b ks) a []
          (n + length ps) y e.1
          (subst (λ l. CodeFormed g (with_word_variables l scope) b) e.0 h.1))),
      arms_formed as' scope ws ks a ps (n + length ps + made_code g.tags [] b) x e.2 h.2,
    )

  pub bodies_formed : (qs : List Procedure) (n : ℕ) → EveryBodyIsOfKind vectorised_kind qs
      → AllOf (ProcedureFormed g) qs → AllOf (ProcedureFormed after) (split_procs g.tags n qs)
  bodies_formed [] n e h = tt
  bodies_formed (q ∷ qs) n e h = (
    code_formed q.body (params_scope q) (numbers_of q.params) [] (Lit (pos 0)) [] n
        (record { names = λ z. inl refl; own = λ z i k. i; cell = tt }) e.0 h.0,
    bodies_formed qs (n + made_code g.tags [] q.body) e.1 h.1,
  )
