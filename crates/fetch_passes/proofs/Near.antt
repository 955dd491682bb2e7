-- The variables of a program and of the one with its fetches split, side by side.
use Rattle.std.proofs.Common.{◌≡◌, ℕ, zero, suc, pos, ◌+◌, ◌<◌, ◌≤◌, true, List, [], ◌∷◌, ◌++◌, Some, slice_get, refl, sym, ap, ◌∙◌, subst, inl, inr, ◌⊎◌, arith}
use Rattle.seq.proofs.Order.{eq_from, eq_self}
use Rattle.grin_syntax.specs.declared.program.VarId.{VarId}
use Rattle.grin_syntax.specs.declared.program.Word as W
use Rattle.grin_syntax.specs.declared.program.Word.TheVariants.{Lit, Var, Global, TagWord}
use Rattle.grin_syntax.specs.Tree.{Program}
use Rattle.grin_syntax.specs.Formed.{AllOf, InScope}
use Rattle.grin_meaning.specs.Values.{Datum, Env, HeapCell, and_then, only_word, Binding, with_vars, word_of}
use Rattle.grin_meaning.specs.Run.{node_word, place_of}
use Rattle.pass_ground.specs.Uses.{word_is}
use Rattle.fetch_passes.specs.Names.{Names, DeferredField, as_word}
use Rattle.pass_ground.proofs.Bound.{names_of, vars_out, vars_in}
use Rattle.fetch_passes.proofs.Found.{is_var}
use Rattle.seq.specs.Lists.{times}
use Rattle.seq.proofs.Counted.{times_append}

-- what stands for the variable z: itself, a new variable of those from base to n, or nothing; the
-- last two where z is in scope
pub data At (base n : ℕ) (xs : List ℕ) (z : ℕ) : W.Word → Type 0 where
  itself : {v : VarId} → v.0 ≡ z → At base n xs z (Var v)
  renamed : {v : VarId} → base ≤ v.0 → v.0 < n → InScope xs z → At base n xs z (Var v)
  gone : InScope xs z → At base n xs z (Lit (pos 0))

abbrev pub Sound : (base n : ℕ) → List ℕ → Names → Type 0
Sound base n xs ks = (z : VarId) → At base n xs z.0 (as_word ks (Var z))

-- the variable of a word of the second program is in scope in the first, or new
abbrev pub Held : (base n : ℕ) → List ℕ → W.Word → Type 0
Held base n xs a = (y : ℕ) → word_is y a ≡ true → InScope xs y ⊎ (base ≤ y × y < n)

pub at_more : {base n m : ℕ} {xs ys : List ℕ} {z : ℕ} {w : W.Word} → n ≤ m
    → ((y : ℕ) → InScope xs y → InScope ys y) → At base n xs z w → At base m ys z w
at_more le f (itself e) = itself e
at_more le f (renamed h k i) = renamed h (omega (arith, k, le)) (f _ i)
at_more le f (gone i) = gone (f _ i)

pub sound_more : (base n m : ℕ) (xs ys : List ℕ) (ks : Names) → n ≤ m
    → ((y : ℕ) → InScope xs y → InScope ys y) → Sound base n xs ks → Sound base m ys ks
sound_more base n m xs ys ks le f s = λ z. at_more le f (s z)

pub held_more : (base n m : ℕ) (xs ys : List ℕ) (a : W.Word) → n ≤ m
    → ((y : ℕ) → InScope xs y → InScope ys y) → Held base n xs a → Held base m ys a
held_more base n m xs ys a le f h = λ y e. go y (h y e)
  where
    go : (y : ℕ) → InScope xs y ⊎ (base ≤ y × y < n) → InScope ys y ⊎ (base ≤ y × y < m)
    go y (inl i) = inl (f y i)
    go y (inr k) = inr (k.0, omega (arith, k.1, le))

-- the word that stands for a word of the first is held
pub held_as : (base n : ℕ) (xs : List ℕ) (ks : Names) (a : W.Word) → Sound base n xs ks
    → ((y : ℕ) → word_is y a ≡ true → InScope xs y) → Held base n xs (as_word ks a)
held_as base n xs ks (Lit k) s f = λ y e. cc
held_as base n xs ks (Global k) s f = λ y e. cc
held_as base n xs ks (TagWord k) s f = λ y e. cc
held_as base n xs ks (Var x) s f = go (as_word ks (Var x)) (s x)
  where
    go : (w : W.Word) → At base n xs x.0 w → Held base n xs w
    go (Var v) (itself e) = λ y h. inl
        (let q : v.0 ≡ y = eq_from v.0 y h in subst (InScope xs) (sym e ∙ q) (f x.0 (eq_self x.0)))
    go (Var v) (renamed h k i) = λ y e. inr
        (let q : v.0 ≡ y = eq_from v.0 y e in (omega (arith, q, h), omega (arith, q, k)))
    go (Lit j) (gone i) = λ y e. cc
    go (Global j) r = elim r [ ]
    go (TagWord j) r = elim r [ ]

module _ (g : Program) where
  -- word `place` of the node in the cell that a is in the second program
  pub record Waits (a : W.Word) (c : List HeapCell) (env env' : Env) (p : DeferredField)
      : Type 0 where
    pub i : ℕ
    pub y : HeapCell
    pub place : and_then (word_of g env' a) place_of ≡ Some i
    pub there : slice_get c i ≡ Some y
    pub word : word_of g env (Var p.var) ≡ Some (node_word y.node p.place)

  -- each variable in scope is there by its name, but for those that the second program lacks; and
  -- the words that wait are words of the cell a
  pub record Near (xs : List ℕ) (ks : Names) (lacks : List ℕ) (a : W.Word) (ps : List DeferredField)
      (c : List HeapCell) (env env' : Env) : Type 0 where
    pub named : (z : VarId) (d : Datum) → InScope xs z.0 → times z.0 lacks ≡ 0
        → is_var (as_word ks (Var z)) ≡ true → word_of g env (Var z) ≡ Some d
        → word_of g env' (as_word ks (Var z)) ≡ Some d
    pub waits : AllOf (Waits a c env env') ps

  -- ---- environments that get more

  pub word_kept : (env env' : Env) (a : W.Word) → ((y : ℕ) → word_is y a ≡ true → env' y ≡ env y)
      → word_of g env' a ≡ word_of g env a
  word_kept env env' (Lit k) f = refl
  word_kept env env' (Var x) f = ap (λ o. and_then o only_word) (f x.0 (eq_self x.0))
  word_kept env env' (Global k) f = refl
  word_kept env env' (TagWord k) f = refl

  -- no variable of a is among these
  abbrev pub Apart : W.Word → List ℕ → Type 0
  Apart a ys = (y : ℕ) → word_is y a ≡ true → times y ys ≡ 0

  pub waits_more : (a : W.Word) (c : List HeapCell) (env env' env1 env1' : Env)
      → ((y : ℕ) → word_is y a ≡ true → env1' y ≡ env' y) → (ps : List DeferredField)
      → AllOf (λ p. env1 p.var.0 ≡ env p.var.0) ps → AllOf (Waits a c env env') ps
      → AllOf (Waits a c env1 env1') ps
  waits_more a c env env' env1 env1' f [] s h = tt
  waits_more a c env env' env1 env1' f (p ∷ ps) s h = (
    record {
      i = h.0.i;
      y = h.0.y;
      place = ap (λ o. and_then o place_of) (word_kept env' env1' a f)
          ∙ h.0.place;
      there = h.0.there;
      word = ap (λ o. and_then o only_word) s.0 ∙ h.0.word;
    },
    waits_more a c env env' env1 env1' f ps s.1 h.1,
  )

  module _ (base n : ℕ) (xs : List ℕ) (ks : Names) (sound : Sound base n xs ks)
      (low : (y : ℕ) → InScope xs y → y < base) where
    -- both bind the same
    pub near_bind : (a : W.Word) (ps : List DeferredField) (c : List HeapCell) (env env' : Env)
        (bs : List Binding) (ys : List ℕ) → names_of bs ≡ ys
        → ((y : ℕ) → InScope ys y → times y xs ≡ 0 × y < base)
        → Held base n xs a → AllOf (λ p. InScope xs p.var.0) ps → Near xs ks [] a ps c env env'
        → Near (ys ++ xs) ks [] a ps c (with_vars bs env) (with_vars bs env')
    near_bind a ps c env env' bs ys e new held wait r
        = record {
          named = λ z d i l v w. go z d i v w (times z.0 ys) refl;
          waits
              = waits_more a c env env' (with_vars bs env) (with_vars bs env') apart ps
              (old ps wait)
              r.waits;
        }
      where
        out : (en : Env) (y : ℕ) → times y ys ≡ 0 → with_vars bs en y ≡ en y
        out en y h = vars_out bs en y (ap (times y) e ∙ h)

        not_new : (y : ℕ) → InScope xs y → times y ys ≡ 0
        not_new y i = at (times y ys) refl
          where
            at : (k : ℕ) → times y ys ≡ k → times y ys ≡ 0
            at zero q = q
            at (suc k) q = let h : times y xs ≡ 0 = (new y (omega (arith, q))).0
                in absurd (omega (arith, h, i))

        not_high : (y : ℕ) → base ≤ y → times y ys ≡ 0
        not_high y h = at (times y ys) refl
          where
            at : (k : ℕ) → times y ys ≡ k → times y ys ≡ 0
            at zero q = q
            at (suc k) q = let l : y < base = (new y (omega (arith, q))).1
                in absurd (omega (arith, h, l))

        apart : (y : ℕ) → word_is y a ≡ true → with_vars bs env' y ≡ env' y
        apart y h = at (held y h)
          where
            at : InScope xs y ⊎ (base ≤ y × y < n) → with_vars bs env' y ≡ env' y
            at (inl i) = out env' y (not_new y i)
            at (inr k) = out env' y (not_high y k.0)

        old : (qs : List DeferredField) → AllOf (λ p. InScope xs p.var.0) qs
            → AllOf (λ p. with_vars bs env p.var.0 ≡ env p.var.0) qs
        old [] h = tt
        old (p ∷ qs) h = (out env p.var.0 (not_new p.var.0 h.0), old qs h.1)

        by : (z : VarId) (d : Datum) (w : W.Word) → as_word ks (Var z) ≡ w → At base n xs z.0 w
            → InScope (ys ++ xs) z.0 → is_var w ≡ true
            → word_of g (with_vars bs env) (Var z) ≡ Some d → (k : ℕ) → times z.0 ys ≡ k
            → word_of g (with_vars bs env') w ≡ Some d
        by z d (Var v) q (itself s) i l h zero k =
            let j : InScope xs z.0 =
            (let t : times z.0 (ys ++ xs) ≡ times z.0 ys + times z.0 xs = times_append z.0 ys xs
            in omega (arith, t, i, k)) in
            ap (λ o. and_then o only_word) (out env' v.0 (ap (λ y. times y ys) s ∙ k))
            ∙ ap (word_of g env') (sym q) ∙ r.named z d j refl (ap is_var q)
            (ap (λ o. and_then o only_word) (sym (out env z.0 k)) ∙ h)
        by z d (Var v) q (itself s) i l h (suc k) m =
            ap (λ y. and_then (with_vars bs env' y) only_word) s ∙ ap (λ o. and_then o only_word)
            (vars_in bs env' env z.0
            (subst (λ zs. 0 < times z.0 zs) (sym e) (omega (arith, m)))) ∙ h
        by z d (Var v) q (renamed lo hi j) i l h k m =
            ap (λ o. and_then o only_word) (out env' v.0 (not_high v.0 lo)) ∙ ap (word_of g env')
            (sym q) ∙ r.named z d j refl (ap is_var q)
            (ap (λ o. and_then o only_word) (sym (out env z.0 (not_new z.0 j))) ∙ h)
        by z d (Lit j) q s i l h k m = cc
        by z d (Global j) q s i l h k m = cc
        by z d (TagWord j) q s i l h k m = cc

        go : (z : VarId) (d : Datum) → InScope (ys ++ xs) z.0 → is_var (as_word ks (Var z)) ≡ true
            → word_of g (with_vars bs env) (Var z) ≡ Some d → (k : ℕ) → times z.0 ys ≡ k
            → word_of g (with_vars bs env') (as_word ks (Var z)) ≡ Some d
        go z d i l h k m = by z d (as_word ks (Var z)) refl (sound z) i l h k m
