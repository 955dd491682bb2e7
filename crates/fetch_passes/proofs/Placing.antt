-- Each word of a cell is fetched directly after its tag where it is used outside the alternatives
-- of the tag's case, and else
-- at their front.
use Rattle.std.proofs.Common.{◌≡◌, ℕ, zero, suc, pos, ◌+◌, ◌<◌, ◌≤◌, Bool, true, false, cond, ◌||◌, ◌&&◌, nat_eq, List, [], ◌∷◌, ◌++◌, length, refl, sym, ap, ◌∙◌, subst, inl, inr, ◌⊎◌, arith}
use Rattle.seq.proofs.Truth.{or_left, or_right}
use Rattle.seq.proofs.Order.{eq_from, eq_self, eq_false}
use Rattle.grin_syntax.specs.declared.program.VarId.{VarId}
use Rattle.grin_syntax.specs.declared.program.Tag.{Tag}
use Rattle.grin_syntax.specs.declared.program.Word as W
use Rattle.grin_syntax.specs.declared.program.Word.TheVariants.{Lit, Var, Global, TagWord}
use Rattle.grin_syntax.specs.declared.program.Val as V
use Rattle.grin_syntax.specs.declared.program.Val.TheVariants.{NodeVar, Node, Vector, One}
use Rattle.grin_syntax.specs.declared.program.Target.TheVariants as to
use Rattle.grin_syntax.specs.Tree.{Code, end, store, bind, Act, leaf, fetch, fetch_word, case, nested, Arms, no_arm, arm, Procedure}
use Rattle.grin_syntax.specs.Binders.{numbers_of, target_vars, shape_vars, cell_vars, act_vars, code_vars, arms_vars, procs_vars}
use Rattle.grin_syntax.specs.Formed.{AllOf, InScope}
use Rattle.grin_syntax.specs.Fresh.{variable, variables, past_code, past_procs}
use Rattle.grin_syntax.proofs.Unbound.{past_code_none}
use Rattle.grin_meaning.specs.Ready.{NoNodeVar, EachAct, EachCode, EachArms, most_fields, EveryBodyIsOfKind, vectorised_kind}
use Rattle.pass_ground.specs.Uses.{word_is, val_uses, code_uses, arms_use, act_mentions}
use Rattle.fetch_passes.specs.Windows.{begins_with, is_int, tests_number, vector_uses, is_case_on_tag, owns, act_outside, outside}
use Rattle.fetch_passes.specs.Names.{Names, DeferredField, as_word, as_val, with_hidden}
use Rattle.fetch_passes.specs.Waits.{deferred_fields_of}
use Rattle.fetch_passes.specs.Split.{fetched_if, word_fetches, front, front_names, fetch_all_words, node_arms, whole_node, split_act, split_code, split_arms, split_procs, made_act, made_code}
use Rattle.fetch_passes.specs.Placed.{no_word_fetch_kind}
use Rattle.fetch_passes.specs.Positions.{FetchedCell, Position, after_tag, at_front, elsewhere, ArmsReturnNodes, ReturnsNodeByWords, ActPlaced, CodePlaced, ArmsPlaced}
use Rattle.pass_ground.proofs.Tests.{never_both}
use Rattle.fetch_passes.proofs.Found.{is_waiting, hiding_is}
use Rattle.fetch_passes.proofs.Near.{At, itself, renamed, gone, Sound, sound_more}
use Rattle.fetch_passes.proofs.Waiting.{waits_in, waits_outside, both_own, sound_new, sound_hiding, front_sound}
use Rattle.fetch_passes.proofs.Used.{both_or, word_used, val_used, hiding_stays, not_here, not_waiting, act_used, code_used, all_in, once_after, once_before}
use Rattle.fetch_passes.proofs.Once.{first_once, others_once}
use Rattle.seq.specs.Lists.{times}
use Rattle.seq.proofs.Counted.{counts, times_append, one_at}
use Rattle.grin_meaning.proofs.Scopes.{scope_left, scope_right, scope_below}
use Rattle.grin_syntax.proofs.Placed.{same_var}
use Rattle.fetch_passes.proofs.Offsets.{Rising, waits_rise, Apart, other_place, apart_more, kept, waits_apart}

-- ---- the tag's variable stands for itself, and nothing else for it
record Alone (ks : Names) (t : VarId) : Type 0 where
  own : as_word ks (Var t) ≡ Var t
  other : (z : VarId) → as_word ks (Var z) ≡ Var t → z.0 ≡ t.0

hiding_alone : (ps : List DeferredField) (ks : Names) (t : VarId) → is_waiting ps t.0 ≡ false
    → Alone ks t → Alone (with_hidden ps ks) t
hiding_alone ps ks t h x = record {
  own = hiding_stays ps ks t t h x.own;
  other = λ z e. go z (is_waiting ps z.0)
      (sym (hiding_is ps ks z) ∙ e);
}
  where
    go : (z : VarId) (s : Bool) → cond s (Lit (pos 0)) (as_word ks (Var z)) ≡ Var t → z.0 ≡ t.0
    go z true e = cc
    go z false e = x.other z e

-- a variable of the program before that isn't in scope yet
alone_new : (base n : ℕ) (zs : List ℕ) (ks : Names) (t : VarId) → Sound base n zs ks
    → times t.0 zs ≡ 0 → t.0 < base → Alone ks t
alone_new base n zs ks t s h lt = record
    { own = sound_new base n zs ks s t h; other = λ z e. go z (as_word ks (Var z)) (s z) e }
  where
    go : (z : VarId) (w : W.Word) → At base n zs z.0 w → w ≡ Var t → z.0 ≡ t.0
    go z (Var v) (itself q) e = let k : v ≡ t = cc in sym q ∙ ap (λ y. y.0) k
    go z (Var v) (renamed lo hi i) e = let k : v ≡ t = cc in let j : v.0 ≡ t.0 = ap (λ y. y.0) k
        in absurd (omega (arith, lo, lt, j))
    go z (Lit j) (gone i) e = cc
    go z (Global j) r e = elim r [ ]
    go z (TagWord j) r e = elim r [ ]

module _ (ks : Names) (t : VarId) (x : Alone ks t) where
  word_stays : (w : W.Word) → word_is t.0 (as_word ks w) ≡ word_is t.0 w
  word_stays (Lit k) = refl
  word_stays (Global k) = refl
  word_stays (TagWord k) = refl
  word_stays (Var z) = go (nat_eq z.0 t.0) refl
    where
      no : nat_eq z.0 t.0 ≡ false → (w : W.Word) → as_word ks (Var z) ≡ w → (s : Bool)
          → word_is t.0 w ≡ s → s ≡ false
      no q (Var y) e true p = never_both
          (ap (λ m. nat_eq m t.0) (x.other z (e ∙ ap Var (same_var y t (eq_from y.0 t.0 p)))) ∙
          eq_self t.0) q
      no q (Lit k) e true p = cc
      no q (Global k) e true p = cc
      no q (TagWord k) e true p = cc
      no q w e false p = refl

      go : (s : Bool) → nat_eq z.0 t.0 ≡ s → word_is t.0 (as_word ks (Var z)) ≡ s
      go true q = ap (λ v. word_is t.0 (as_word ks (Var v))) (same_var z t (eq_from z.0 t.0 q)) ∙ ap
          (word_is t.0) x.own ∙ eq_self t.0
      go false q = no q (as_word ks (Var z)) refl (word_is t.0 (as_word ks (Var z))) refl

  begins_stays : (v : V.Val) → begins_with t.0 (as_val ks v) ≡ begins_with t.0 v
  begins_stays (NodeVar y) = refl
  begins_stays (Node s ws) = refl
  begins_stays (One w) = refl
  begins_stays (Vector []) = refl
  begins_stays (Vector (w ∷ ws)) = word_stays w

module _ (ks : Names) (z y : VarId) (is : as_word ks (Var z) ≡ Var y) where
  vector_decides : (tests : Bool) (v : V.Val) → NoNodeVar v → vector_uses tests z.0 v ≡ true
      → vector_uses tests y.0 (as_val ks v) ≡ true
  vector_decides tests (NodeVar x) n h = absurd n
  vector_decides tests (Node t ws) n h = val_used ks z y is (Node t ws) n h
  vector_decides tests (One w) n h = val_used ks z y is (One w) n h
  vector_decides tests (Vector []) n h = cc
  vector_decides tests (Vector (w ∷ [])) n h = val_used ks z y is (Vector (w ∷ [])) n h
  vector_decides tests (Vector (w ∷ (u ∷ ws))) n h = both_or (word_is z.0 w)
      (tests && word_is z.0 u) (word_is y.0 (as_word ks w)) (tests && word_is y.0 (as_word ks u))
      (word_used ks z y is w) (go tests) h
    where
      go : (s : Bool) → (s && word_is z.0 u) ≡ true → (s && word_is y.0 (as_word ks u)) ≡ true
      go true e = word_used ks z y is u e
      go false e = cc

-- ---- fetches are passed
owns_fetch : (t : ℕ) (o : Bool) (x : VarId) (a : W.Word) (i : ℕ) (c : Code)
    → owns t (fetched_if o x a i c) ≡ owns t c
unfolding owns
owns_fetch t true x a i c = refl
owns_fetch t false x a i c = refl

owns_words : (t u : ℕ) (b : Code) (a : W.Word) (i : ℕ) (xs : List VarId) (c : Code)
    → owns t (word_fetches u b a i xs c) ≡ owns t c
owns_words t u b a i [] c = refl
owns_words t u b a i (x ∷ xs) c = owns_fetch t (outside u x.0 b) x a i
    (word_fetches u b a (suc i) xs c) ∙ owns_words t u b a (suc i) xs c

owns_all : (t : ℕ) (a : W.Word) (i : ℕ) (xs : List VarId) (c : Code)
    → owns t (fetch_all_words a i xs c) ≡ owns t c
unfolding owns
owns_all t a i [] c = refl
owns_all t a i (x ∷ xs) c = owns_all t a (suc i) xs c

outside_fetch : (t y : ℕ) (o : Bool) (x : VarId) (a : W.Word) (i : ℕ) (c : Code)
    → outside t y c ≡ true → outside t y (fetched_if o x a i c) ≡ true
unfolding outside act_mentions
outside_fetch t y true x a i c h = or_right (word_is y a) (outside t y c) h
outside_fetch t y false x a i c h = h

outside_words : (t y u : ℕ) (b : Code) (a : W.Word) (i : ℕ) (xs : List VarId) (c : Code)
    → outside t y c ≡ true → outside t y (word_fetches u b a i xs c) ≡ true
outside_words t y u b a i [] c h = h
outside_words t y u b a i (x ∷ xs) c h = outside_fetch t y (outside u x.0 b) x a i
    (word_fetches u b a (suc i) xs c) (outside_words t y u b a (suc i) xs c h)

module _ (ts : List Tag) where
  -- ---- the case that comes next, and what is used outside its alternatives, stay
  owned_stays : (o : Act) (ks : Names) (a : W.Word) (ps : List DeferredField) (n : ℕ) (t : VarId)
      → Alone ks t → is_case_on_tag t.0 (split_act ts ks a ps n o) ≡ is_case_on_tag t.0 o
  unfolding split_act
  owned_stays (case v as') ks a ps n t x = begins_stays ks t x v
  owned_stays o ks a ps n t x = refl

  tests_stay : (as' : Arms) (ks : Names) (a : W.Word) (ps : List DeferredField) (n : ℕ)
      → tests_number (split_arms ts ks a ps n as') ≡ tests_number as'
  unfolding split_act
  tests_stay no_arm ks a ps n = refl
  tests_stay (arm s b as') ks a ps n = ap (λ r. is_int s || r)
      (tests_stay as' ks a ps (n + length ps + made_code ts [] b))

  owns_stays : (b : Code) (ks : Names) (a : W.Word) (ps : List DeferredField) (n : ℕ) (t : VarId)
      → Alone ks t → times t.0 (code_vars b) ≡ 0 → t.0 < n → EachCode vectorised_kind b
      → EachCode no_word_fetch_kind b → owns t.0 (split_code ts ks a ps n b) ≡ owns t.0 b
  unfolding split_act owns code_vars EachAct made_act
  owns_stays (end (leaf (fetch c))) ks a ps n t x h lt e k
      = owns_all t.0 (as_word ks c) 1 (variables (suc n) (most_fields ts)) _ ∙ eq_false n t.0
      (λ q. omega (arith, q, lt))
  owns_stays (end o) ks a ps n t x h lt e k = owned_stays o ks a ps n t x
  owns_stays (store cs b) ks a ps n t x h lt e k = refl
  owns_stays (bind (to.Vector (v ∷ vs)) (leaf (fetch c)) b) ks a ps n t x h lt e k =
      let q : (times t.0 (numbers_of (v ∷ vs)) ≡ 0) × (times t.0 (code_vars b) ≡ 0)
      = not_here t.0 (numbers_of (v ∷ vs)) ([] ++ code_vars b) h in
      owns_words t.0 v.0 b (as_word ks c) 1 vs _ ∙ owns_stays b
      (with_hidden (deferred_fields_of v.0 b 1 vs) ks) _ _ (n + 0) t
      (hiding_alone (deferred_fields_of v.0 b 1 vs) ks t
      (not_waiting v.0 b 1 vs t.0 (omega (arith, q.0))) x) q.1 (omega (arith, lt)) e.2 k.2
  owns_stays (bind (to.Vector []) (leaf (fetch c)) b) ks a ps n t x h lt e k
      = owns_stays b ks a ps (n + 0) t x h (omega (arith, lt)) e.2 k.2
  owns_stays (bind to.Nothing (leaf (fetch c)) b) ks a ps n t x h lt e k
      = owns_stays b ks a ps (n + 0) t x h (omega (arith, lt)) e.2 k.2
  owns_stays (bind (to.One u) (leaf (fetch c)) b) ks a ps n t x h lt e k
      = owns_stays b ks a ps (n + 0) t x (not_here t.0 (u.0 ∷ []) (code_vars b) h).1
      (omega (arith, lt)) e.2 k.2
  owns_stays (bind (to.Node u) (leaf (fetch c)) b) ks a ps n t x h lt e k = absurd e.0
  owns_stays (bind u (leaf (fetch_word c i)) b) ks a ps n t x h lt e k = absurd k.1
  owns_stays (bind u o b) ks a ps n t x h lt e k = owned_stays o ks a ps n t x

  act_outside_stays : (o : Act) (ks : Names) (a : W.Word) (ps : List DeferredField) (n : ℕ)
      (t z y : VarId) → Alone ks t → as_word ks (Var z) ≡ Var y → is_waiting ps z.0 ≡ false
      → times z.0 (act_vars o) ≡ 0 → EachAct vectorised_kind o → act_outside t.0 z.0 o ≡ true
      → act_outside t.0 y.0 (split_act ts ks a ps n o) ≡ true
  unfolding split_act act_mentions act_vars EachAct
  act_outside_stays (case v as') ks a ps n t z y x is w h e u =
      ap (λ s. cond s (vector_uses (tests_number (split_arms ts ks a ps n as')) y.0 (as_val ks v))
      (val_uses y.0 (as_val ks v) || arms_use y.0 (split_arms ts ks a ps n as')))
      (begins_stays ks t x v) ∙ go (begins_with t.0 v) u
    where
      go : (s : Bool) → cond s (vector_uses (tests_number as') z.0 v)
          (val_uses z.0 v || arms_use z.0 as') ≡ true
          → cond s (vector_uses (tests_number (split_arms ts ks a ps n as')) y.0 (as_val ks v))
          (val_uses y.0 (as_val ks v) || arms_use y.0 (split_arms ts ks a ps n as')) ≡ true
      go true k = ap (λ r. vector_uses r y.0 (as_val ks v)) (tests_stay as' ks a ps n) ∙
          vector_decides ks z y is (tests_number as') v e.1 k
      go false k = act_used ts (case v as') ks a ps n z y is w h e k
  act_outside_stays o ks a ps n t z y x is w h e u = act_used ts o ks a ps n z y is w h e u

  outside_stays : (b : Code) (ks : Names) (a : W.Word) (ps : List DeferredField) (n : ℕ)
      (t z y : VarId) → Alone ks t → as_word ks (Var z) ≡ Var y → is_waiting ps z.0 ≡ false
      → times t.0 (code_vars b) ≡ 0 → times z.0 (code_vars b) ≡ 0 → EachCode vectorised_kind b
      → EachCode no_word_fetch_kind b
      → outside t.0 z.0 b ≡ true → outside t.0 y.0 (split_code ts ks a ps n b) ≡ true
  unfolding split_act outside act_mentions code_vars EachAct made_act
  outside_stays (end (leaf (fetch c))) ks a ps n t z y x is w h v0 e k u
      = or_left (word_is y.0 (as_word ks c)) _ (word_used ks z y is c u)
  outside_stays (end o) ks a ps n t z y x is w h v0 e k u
      = act_outside_stays o ks a ps n t z y x is w v0 e u
  outside_stays (store cs b) ks a ps n t z y x is w h v0 e k u
      = code_used ts (store cs b) ks a ps n z y is w v0 e u
  outside_stays (bind (to.Vector (v ∷ vs)) (leaf (fetch c)) b) ks a ps n t z y x is w h v0 e k u =
      let q : (times t.0 (numbers_of (v ∷ vs)) ≡ 0) × (times t.0 (code_vars b) ≡ 0)
      = not_here t.0 (numbers_of (v ∷ vs)) ([] ++ code_vars b) h in
      let r : (times z.0 (numbers_of (v ∷ vs)) ≡ 0) × (times z.0 (code_vars b) ≡ 0)
      = not_here z.0 (numbers_of (v ∷ vs)) ([] ++ code_vars b) v0 in
      let none : is_waiting (deferred_fields_of v.0 b 1 vs) z.0 ≡ false
      = not_waiting v.0 b 1 vs z.0 (omega (arith, r.0)) in
      both_or (word_is z.0 c) (outside t.0 z.0 b) (word_is y.0 (as_word ks c))
      (outside t.0 y.0
      (word_fetches v.0 b (as_word ks c) 1 vs
      (split_code ts (with_hidden (deferred_fields_of v.0 b 1 vs) ks)
      (cond (owns v.0 b) (as_word ks c) a)
      (cond (owns v.0 b) (deferred_fields_of v.0 b 1 vs) ps) (n + 0) b)))
      (word_used ks z y is c)
      (λ j. outside_words t.0 y.0 v.0 b (as_word ks c) 1 vs _
      (outside_stays b (with_hidden (deferred_fields_of v.0 b 1 vs) ks) _ _ (n + 0) t z y
      (hiding_alone (deferred_fields_of v.0 b 1 vs) ks t
      (not_waiting v.0 b 1 vs t.0 (omega (arith, q.0))) x)
      (hiding_stays (deferred_fields_of v.0 b 1 vs) ks z y none is) (go none (owns v.0 b)) q.1 r.1
      e.2 k.2 j)) u
    where
      go : is_waiting (deferred_fields_of v.0 b 1 vs) z.0 ≡ false → (o : Bool)
          → is_waiting (cond o (deferred_fields_of v.0 b 1 vs) ps) z.0 ≡ false
      go none true = none
      go none false = w
  outside_stays (bind (to.Vector []) (leaf (fetch c)) b) ks a ps n t z y x is w h v0 e k u
      = both_or (word_is z.0 c) (outside t.0 z.0 b) (word_is y.0 (as_word ks c))
      (outside t.0 y.0 (split_code ts ks a ps (n + 0) b)) (word_used ks z y is c)
      (λ j. outside_stays b ks a ps (n + 0) t z y x is w h v0 e.2 k.2 j) u
  outside_stays (bind to.Nothing (leaf (fetch c)) b) ks a ps n t z y x is w h v0 e k u
      = both_or (word_is z.0 c) (outside t.0 z.0 b) (word_is y.0 (as_word ks c))
      (outside t.0 y.0 (split_code ts ks a ps (n + 0) b)) (word_used ks z y is c)
      (λ j. outside_stays b ks a ps (n + 0) t z y x is w h v0 e.2 k.2 j) u
  outside_stays (bind (to.One v) (leaf (fetch c)) b) ks a ps n t z y x is w h v0 e k u
      = both_or (word_is z.0 c) (outside t.0 z.0 b) (word_is y.0 (as_word ks c))
      (outside t.0 y.0 (split_code ts ks a ps (n + 0) b)) (word_used ks z y is c)
      (λ j. outside_stays b ks a ps (n + 0) t z y x is w (not_here t.0 (v.0 ∷ []) (code_vars b) h).1
      (not_here z.0 (v.0 ∷ []) (code_vars b) v0).1 e.2 k.2 j) u
  outside_stays (bind (to.Node v) (leaf (fetch c)) b) ks a ps n t z y x is w h v0 e k u = absurd e.0
  outside_stays (bind v (leaf (fetch_word c i)) b) ks a ps n t z y x is w h v0 e k u = absurd k.1
  outside_stays (bind v o b) ks a ps n t z y x is w h v0 e k u
      = both_or (act_outside t.0 z.0 o) (code_uses z.0 b)
      (act_outside t.0 y.0 (split_act ts ks a ps n o))
      (code_uses y.0 (split_code ts ks a [] (n + made_act ts ps o) b))
      (act_outside_stays o ks a ps n t z y x is w
      (not_here z.0 (act_vars o) (code_vars b)
      (not_here z.0 (target_vars v) (act_vars o ++ code_vars b) v0).1).0 e.1)
      (code_used ts b ks a [] (n + made_act ts ps o) z y is refl
      (not_here z.0 (act_vars o) (code_vars b)
      (not_here z.0 (target_vars v) (act_vars o ++ code_vars b) v0).1).1 e.2) u

-- ---- fetches of words, each where it should be
abbrev pub tagged : W.Word → ℕ → List ℕ → FetchedCell
tagged a t is = record { cell = a; tag = t; fetched = is }

settle : (o o' : Bool) (x y z : Position) → o' ≡ o → cond o' x (cond o y z) ≡ cond o x z
settle true o' x y z e = ap (λ s. cond s x y) e
settle false o' x y z e = ap (λ s. cond s x z) e

module _ (first : ℕ) where
  -- directly after a tag
  words_placed : (t : ℕ) (b : Code) (a : W.Word) (i : ℕ) (xs : List VarId) (c : Code) (is : List ℕ)
      (next : Position) → ((j : ℕ) → suc i ≤ j → times j is ≡ 0)
      → ((x : VarId) → InScope (numbers_of xs) x.0 → outside t x.0 b ≡ true
      → outside t x.0 c ≡ true)
      → CodePlaced first (after_tag (tagged a t (kept t b (suc i) xs is)))
      (cond (owns t c) (at_front (tagged a t (kept t b (suc i) xs is))) next) c
      → CodePlaced first (after_tag (tagged a t is))
      (cond (owns t c) (at_front (tagged a t is)) next) (word_fetches t b a (suc i) xs c)
  unfolding CodePlaced
  words_placed t b a i [] c is next f g h = h
  words_placed t b a i (x ∷ xs) c is next f g h = go (outside t x.0 b) refl h
      (λ js k r. words_placed t b a (suc i) xs c js next k (λ y j. g y (omega (arith, j))) r)
    where
      rest : Code
      rest = word_fetches t b a (suc (suc i)) xs c

      more : (j : ℕ) → suc (suc i) ≤ j → times j (suc i ∷ is) ≡ 0
      more j le = let e : counts (nat_eq j (suc i)) ≡ 0 = other_place (suc i) j (omega (arith, le))
          in let k : times j is ≡ 0 = f j (omega (arith, le)) in omega (arith, e, k)

      here : InScope (numbers_of (x ∷ xs)) x.0
      here = let e : counts (nat_eq x.0 x.0) ≡ 1 = one_at x.0 in omega (arith, e)

      go : (o : Bool) → outside t x.0 b ≡ o → CodePlaced first
          (after_tag (tagged a t (kept t b (suc (suc i)) xs (cond o (suc i ∷ is) is))))
          (cond (owns t c)
          (at_front (tagged a t (kept t b (suc (suc i)) xs (cond o (suc i ∷ is) is)))) next) c
          → ((js : List ℕ) → ((j : ℕ) → suc (suc i) ≤ j → times j js ≡ 0)
          → CodePlaced first (after_tag (tagged a t (kept t b (suc (suc i)) xs js)))
          (cond (owns t c) (at_front (tagged a t (kept t b (suc (suc i)) xs js))) next) c
          → CodePlaced first (after_tag (tagged a t js))
          (cond (owns t c) (at_front (tagged a t js)) next) rest)
          → CodePlaced first (after_tag (tagged a t is))
          (cond (owns t c) (at_front (tagged a t is)) next) (fetched_if o x a (suc i) rest)
      go true q r k = (
        (
          (refl, f (suc i) (omega arith)),
          inl
              (outside_words t x.0 t b a (suc (suc i)) xs c (g x here q)),
        ),
        tt,
        subst (λ p. CodePlaced first (after_tag (tagged a t (suc i ∷ is))) p rest)
            (sym (settle (owns t c) (owns t rest) (at_front (tagged a t (suc i ∷ is)))
            (at_front (tagged a t is)) next (owns_words t t b a (suc (suc i)) xs c)))
            (k (suc i ∷ is) more r),
      )
      go false q r k = k is (λ j le. f j (omega (arith, le))) r

  node_placed : (v : VarId) (vs : List VarId) (b : Code) (a : W.Word) (c : Code)
      (here next : Position) → v.0 < first →
      ((x : VarId) → InScope (numbers_of vs) x.0 → outside v.0 x.0 b ≡ true
      → outside v.0 x.0 c ≡ true)
      → CodePlaced first (after_tag (tagged a v.0 (kept v.0 b 1 vs [])))
      (cond (owns v.0 c) (at_front (tagged a v.0 (kept v.0 b 1 vs []))) next) c
      → CodePlaced first here next
      (bind (to.One v) (leaf (fetch_word a 0)) (word_fetches v.0 b a 1 vs c))
  unfolding CodePlaced
  node_placed v vs b a c here next lt g h = (
    inl lt,
    tt,
    subst (λ o. CodePlaced first (after_tag (tagged a v.0 []))
        (cond o (at_front (tagged a v.0 [])) next) (word_fetches v.0 b a 1 vs c))
        (sym (owns_words v.0 v.0 b a 1 vs c))
        (words_placed v.0 b a 0 vs c [] next (λ j le. refl) g h),
  )

  -- at the front of an alternative
  front_word : (x : VarId) (a : W.Word) (t k : ℕ) (is : List ℕ) (c : Code) → 1 ≤ k → times k is ≡ 0
      → CodePlaced first (at_front (tagged a t (k ∷ is))) elsewhere c
      → CodePlaced first (at_front (tagged a t is)) elsewhere
      (bind (to.One x) (leaf (fetch_word a k)) c)
  unfolding CodePlaced
  front_word x a t zero is c le h r = absurd (omega (arith, le))
  front_word x a t (suc k) is c le h r = ((refl, h), tt, r)

  front_placed : (a : W.Word) (n i : ℕ) (ps : List DeferredField) (b c : Code) (t : ℕ) (is : List ℕ)
      → 1 ≤ i → Rising i ps → Apart is ps → ((here : Position) → CodePlaced first here elsewhere c)
      → CodePlaced first (at_front (tagged a t is)) elsewhere (front a n ps b c)
  front_placed a n i [] b c t is le r h f = f (at_front (tagged a t is))
  front_placed a n i (p ∷ ps) b c t is le r h f = go (code_uses p.var.0 b)
      (λ js k. front_placed a (suc n) (suc p.place) ps b c t js (omega arith) r.1 k f)
    where
      go : (o : Bool) →
          ((js : List ℕ) → Apart js ps → CodePlaced first (at_front (tagged a t js)) elsewhere
          (front a (suc n) ps b c)) → CodePlaced first (at_front (tagged a t is)) elsewhere
          (fetched_if o (variable n) a p.place (front a (suc n) ps b c))
      go true k = front_word (variable n) a t p.place is (front a (suc n) ps b c)
          (omega (arith, le, r.0)) h.0 (k (p.place ∷ is) (apart_more p.place is ps r.1 h.1))
      go false k = k is h.1

  -- where a fetch ended a block
  all_placed : (a : W.Word) (i : ℕ) (xs : List VarId) (c : Code) (t : ℕ) (is : List ℕ)
      (next : Position) → first ≤ t → ((j : ℕ) → suc i ≤ j → times j is ≡ 0)
      → ((here next : Position) → CodePlaced first here next c)
      → CodePlaced first (after_tag (tagged a t is)) next (fetch_all_words a (suc i) xs c)
  unfolding CodePlaced
  all_placed a i [] c t is next le f h = h (after_tag (tagged a t is)) next
  all_placed a i (x ∷ xs) c t is next le f h = (
    ((refl, f (suc i) (omega arith)), inr le),
    tt,
    all_placed a (suc i) xs c t (suc i ∷ is) _ le more h,
  )
    where
      more : (j : ℕ) → suc (suc i) ≤ j → times j (suc i ∷ is) ≡ 0
      more j l = let e : counts (nat_eq j (suc i)) ≡ 0 = other_place (suc i) j (omega (arith, l))
          in let k : times j is ≡ 0 = f j (omega (arith, l)) in omega (arith, e, k)

  gives_all : (t : ℕ) (a : W.Word) (i : ℕ) (xs : List VarId) (c : Code) → ReturnsNodeByWords t c
      → ReturnsNodeByWords t (fetch_all_words a i xs c)
  gives_all t a i [] c h = h
  gives_all t a i (x ∷ xs) c h = gives_all t a (suc i) xs c h

  give_nodes : (xs : List VarId) (i : ℕ) (us : List Tag) → ArmsReturnNodes (node_arms xs i us)
  give_nodes xs i [] = tt
  give_nodes xs i (u ∷ us) = (refl, give_nodes xs (suc i) us)

  nodes_placed : (front : Position) (xs : List VarId) (i : ℕ) (us : List Tag)
      → ArmsPlaced first front (node_arms xs i us)
  unfolding CodePlaced
  nodes_placed front xs i [] = tt
  nodes_placed front xs i (u ∷ us) = ((tt, tt), nodes_placed front xs (suc i) us)

  whole_placed : (ts : List Tag) (n : ℕ) (a : W.Word) (here next : Position) → first ≤ n
      → CodePlaced first here next (whole_node ts n a)
  unfolding CodePlaced
  whole_placed ts n a here next le = (
    inr (gives_all n a 1 (variables (suc n) (most_fields ts)) _
        (eq_self n, give_nodes (variables (suc n) (most_fields ts)) 0 ts)),
    tt,
    all_placed a 0 (variables (suc n) (most_fields ts)) _ n [] _ le (λ j l. refl)
        (λ h x. (tt, nodes_placed x (variables (suc n) (most_fields ts)) 0 ts)),
  )

-- ---- what is known where a piece stands
-- the words that wait are those of the cell a, in this order, and not fetched before
record Ready (next : Position) (a : W.Word) (ps : List DeferredField) : Type 0 where
  tag : ℕ
  fetched : List ℕ
  at : next ≡ at_front (tagged a tag fetched)
  apart : Apart fetched ps
  rising : Rising 1 ps

abbrev Waits : Position → W.Word → List DeferredField → Type 0
Waits next a ps = (ps ≡ []) ⊎ Ready next a ps

-- they wait for the case on a tag that is in scope
abbrev Owned : List DeferredField → List ℕ → Code → Type 0
Owned ps zs b = (ps ≡ []) ⊎ ((t : ℕ) × (owns t b ≡ true) × InScope zs t)

-- a piece with these variables, which are those of the program before, where others are in scope
record Walk (base : ℕ) (zs : List ℕ) (ks : Names) (ps : List DeferredField) (n : ℕ) (vars : List ℕ)
    : Type 0 where
  sound : Sound base n zs ks
  inside : (z : ℕ) → is_waiting ps z ≡ true → InScope zs z
  from : base ≤ n
  once : (y : ℕ) → times y zs + times y vars ≤ 1
  low : (y : ℕ) → InScope vars y → y < base

module _ (base : ℕ) (zs : List ℕ) (ks : Names) where
  walk_none : (ps : List DeferredField) (n : ℕ) (vars : List ℕ) → Walk base zs ks ps n vars
      → Walk base zs ks [] n vars
  walk_none ps n vars x = record
      { sound = x.sound; inside = λ z e. cc; from = x.from; once = x.once; low = x.low }

  walk_left : (ps : List DeferredField) (n : ℕ) (xs ys : List ℕ) → Walk base zs ks ps n (xs ++ ys)
      → Walk base zs ks ps n xs
  walk_left ps n xs ys x = record {
    sound = x.sound;
    inside = x.inside;
    from = x.from;
    once
        = once_before [] zs xs ys x.once;
    low = λ y i. x.low y (scope_left xs ys y i);
  }

  walk_right : (ps : List DeferredField) (n : ℕ) (xs ys : List ℕ) → Walk base zs ks ps n (xs ++ ys)
      → Walk base zs ks ps n ys
  walk_right ps n xs ys x = record {
    sound = x.sound;
    inside = x.inside;
    from = x.from;
    once = once_after [] zs xs ys x.once;
    low
        = λ y i. x.low y (scope_right xs ys y i);
  }

  walk_on : (ps : List DeferredField) (n m : ℕ) (vars : List ℕ) → n ≤ m → Walk base zs ks ps n vars
      → Walk base zs ks ps m vars
  walk_on ps n m vars le x = record {
    sound = sound_more base n m zs zs ks le (λ y i. i) x.sound;
    inside = x.inside;
    from
        = omega (arith, le, x.from);
    once = x.once;
    low = x.low;
  }

  walk_front : (ps : List DeferredField) (n : ℕ) (b : Code) (vars : List ℕ)
      → Walk base zs ks ps n vars → Walk base zs (front_names n ps b ks) [] (n + length ps) vars
  walk_front ps n b vars x = record {
    sound = front_sound base n zs ks ps b x.sound x.from (all_in [] zs ps x.inside);
    inside
        = λ z e. cc;
    from = omega (arith, x.from);
    once = x.once;
    low = x.low;
  }

  arms_front : (ps : List DeferredField) (n : ℕ) (a : W.Word) (next : Position) (b c : Code)
      → Waits next a ps → ((here : Position) → CodePlaced base here elsewhere c)
      → CodePlaced base next elsewhere (front a n ps b c)
  arms_front ps n a next b c (inl e) f = subst
      (λ qs. CodePlaced base next elsewhere (front a n qs b c)) (sym e) (f next)
  arms_front ps n a next b c (inr r) f = subst (λ p. CodePlaced base p elsewhere (front a n ps b c))
      (sym r.at) (front_placed base a n 1 ps b c r.tag r.fetched (omega arith) r.rising r.apart f)

module _ (base : ℕ) (v : VarId) (vs : List VarId) (b : Code) (zs : List ℕ) (ks : Names)
    (ps : List DeferredField) (n : ℕ)
    (x : Walk base zs ks ps n (numbers_of (v ∷ vs) ++ code_vars b)) where
  -- after a fetch of a node
  abbrev ws : List DeferredField
  ws = deferred_fields_of v.0 b 1 vs

  abbrev ys : List ℕ
  ys = numbers_of (v ∷ vs)

  all_once : (y : ℕ) → times y zs + times y ys + times y (code_vars b) ≤ 1
  all_once y = let o : times y zs + times y (ys ++ code_vars b) ≤ 1 = x.once y in let e
      : times y (ys ++ code_vars b) ≡ times y ys + times y (code_vars b)
      = times_append y ys (code_vars b) in omega (arith, o, e)

  v_in : InScope ys v.0
  v_in = let e : counts (nat_eq v.0 v.0) ≡ 1 = one_at v.0 in omega (arith, e)

  v_low : v.0 < base
  v_low = x.low v.0 (scope_left ys (code_vars b) v.0 v_in)

  v_new : (times v.0 zs ≡ 0) × (times v.0 (numbers_of vs) ≡ 0) × (times v.0 (code_vars b) ≡ 0)
  v_new = let o : times v.0 zs + times v.0 ys + times v.0 (code_vars b) ≤ 1 = all_once v.0 in let e
      : counts (nat_eq v.0 v.0) ≡ 1 = one_at v.0 in
      (omega (arith, o, e), omega (arith, o, e), omega (arith, o, e))

  v_alone : Alone (with_hidden ws ks) v
  v_alone = hiding_alone ws ks v (not_waiting v.0 b 1 vs v.0 v_new.1)
      (alone_new base n zs ks v x.sound v_new.0 v_low)

  ws_in : (z : ℕ) → is_waiting ws z ≡ true → InScope (ys ++ zs) z
  ws_in z e = let k : InScope (numbers_of vs) z = waits_in v.0 b 1 vs z e
      in scope_left ys zs z (omega (arith, k))

  walk_node : Walk base (ys ++ zs) (with_hidden ws ks) (cond (owns v.0 b) ws ps) (n + 0)
      (code_vars b)
  walk_node = record {
    sound = sound_hiding base (n + 0) (ys ++ zs) ks ws
        (sound_more base n (n + 0) zs (ys ++ zs) ks (omega arith) (scope_right ys zs) x.sound)
        ws_in;
    inside = λ z e. inside (owns v.0 b) z e;
    from = omega (arith, x.from);
    once = λ y.
        (let o : times y zs + times y ys + times y (code_vars b) ≤ 1 = all_once y in let t
        : times y (ys ++ zs) ≡ times y ys + times y zs = times_append y ys zs
        in omega (arith, o, t));
    low = λ y i. x.low y (scope_right ys (code_vars b) y i);
  }
    where
      inside : (o : Bool) (z : ℕ) → is_waiting (cond o ws ps) z ≡ true → InScope (ys ++ zs) z
      inside true z e = ws_in z e
      inside false z e = scope_right ys zs z (x.inside z e)

  waits_node : (next : Position) (a c : W.Word) → Waits next a ps
      → Waits (cond (owns v.0 b) (at_front (tagged c v.0 (kept v.0 b 1 vs []))) next)
      (cond (owns v.0 b) c a) (cond (owns v.0 b) ws ps)
  waits_node next a c w = go (owns v.0 b)
    where
      go : (o : Bool) → Waits (cond o (at_front (tagged c v.0 (kept v.0 b 1 vs []))) next)
          (cond o c a) (cond o ws ps)
      go true = inr
          (record {
            tag = v.0;
            fetched = kept v.0 b 1 vs [];
            at = refl;
            apart
                = waits_apart v.0 b 1 vs [] (λ j le. refl);
            rising = waits_rise v.0 b 1 vs;
          })
      go false = w

  owned_node : Owned ps zs b → Owned (cond (owns v.0 b) ws ps) (ys ++ zs) b
  owned_node w = go (owns v.0 b) refl w
    where
      go : (o : Bool) → owns v.0 b ≡ o → Owned ps zs b → Owned (cond o ws ps) (ys ++ zs) b
      go true q w = inr (v.0, q, scope_left ys zs v.0 v_in)
      go false q (inl e) = inl e
      go false q (inr r) = inr (r.0, r.1, scope_right ys zs r.0 r.2)

  kept_outside : (ts : List Tag) (a : W.Word) → EachCode vectorised_kind b
      → EachCode no_word_fetch_kind b → (y : VarId) → InScope (numbers_of vs) y.0
      → outside v.0 y.0 b ≡ true → outside v.0 y.0
      (split_code ts (with_hidden ws ks) a (cond (owns v.0 b) ws ps) (n + 0) b) ≡ true
  kept_outside ts a e k y i o = outside_stays ts b (with_hidden ws ks) a (cond (owns v.0 b) ws ps)
      (n + 0) v y y v_alone
      (hiding_stays ws ks y y mine
      (sound_new base n zs ks x.sound y
      (let q : times y.0 zs + times y.0 ys + times y.0 (code_vars b) ≤ 1 = all_once y.0
      in omega (arith, q, i)))) (go (owns v.0 b)) v_new.2
      (let q : times y.0 zs + times y.0 ys + times y.0 (code_vars b) ≤ 1 = all_once y.0
      in omega (arith, q, i)) e k o
    where
      mine : is_waiting ws y.0 ≡ false
      mine = at (is_waiting ws y.0) refl
        where
          at : (m : Bool) → is_waiting ws y.0 ≡ m → m ≡ false
          at true q = never_both o (waits_outside v.0 b 1 vs y.0 q)
          at false q = refl

      old : (m : Bool) → is_waiting ps y.0 ≡ m → m ≡ false
      old true q =
          (let k : InScope zs y.0 = x.inside y.0 q in let r
          : times y.0 zs + times y.0 ys + times y.0 (code_vars b) ≤ 1 = all_once y.0
          in absurd (omega (arith, k, r, i)))
      old false q = refl

      go : (o : Bool) → is_waiting (cond o ws ps) y.0 ≡ false
      go true = mine
      go false = old (is_waiting ps y.0) refl

-- after a fetch that goes to one variable
one_waits : (u : ℕ) (zs : List ℕ) (ps : List DeferredField) (a : W.Word) (b : Code)
    (p next : Position) (o : Bool) → o ≡ owns u b → times u zs ≡ 0 → Owned ps zs b → Waits next a ps
    → Waits (cond o p next) a ps
one_waits u zs ps a b p next o e h (inl q) w = inl q
one_waits u zs ps a b p next true e h (inr r) w =
    (let q : r.0 ≡ u = both_own r.0 u b r.1 (sym e) in let i : InScope zs r.0 = r.2 in let k
    : times r.0 zs ≡ 0 = ap (λ m. times m zs) q ∙ h in absurd (omega (arith, i, k)))
one_waits u zs ps a b p next false e h (inr r) w = w

module _ (ts : List Tag) (base : ℕ) where
  -- ---- pieces
  mutual
    unfolding split_act CodePlaced act_vars EachAct made_act owns

    act_placed : (o : Act) (zs : List ℕ) (ks : Names) (a : W.Word) (ps : List DeferredField) (n : ℕ)
        (next : Position) → Walk base zs ks ps n (act_vars o) → Waits next a ps
        → EachAct vectorised_kind o → EachAct no_word_fetch_kind o
        → ActPlaced base next (split_act ts ks a ps n o)
    act_placed (case v as') zs ks a ps n next x w e k
        = arms_placed as' zs ks a ps n next x w e.2 k.2
    act_placed (nested b) zs ks a ps n next x w e k
        = code_placed b zs ks a [] n elsewhere elsewhere (walk_none base zs ks ps n (code_vars b) x)
        (inl refl) (inl refl) e.1 k.1
    act_placed o zs ks a ps n next x w e k = tt

    code_placed : (b : Code) (zs : List ℕ) (ks : Names) (a : W.Word) (ps : List DeferredField)
        (n : ℕ) (here next : Position) → Walk base zs ks ps n (code_vars b) → Waits next a ps
        → Owned ps zs b → EachCode vectorised_kind b → EachCode no_word_fetch_kind b
        → CodePlaced base here next (split_code ts ks a ps n b)
    code_placed (end (leaf (fetch c))) zs ks a ps n here next x w o e k
        = whole_placed base ts n (as_word ks c) here next x.from
    code_placed (end (leaf (fetch_word c i))) zs ks a ps n here next x w o e k = absurd k
    code_placed (end o') zs ks a ps n here next x w o e k
        = (tt, act_placed o' zs ks a ps n next x w e k)
    code_placed (store cs b) zs ks a ps n here next x w o e k
        = code_placed b zs ks a [] n elsewhere elsewhere
        (walk_none base zs ks ps n (code_vars b)
        (walk_right base zs ks ps n (cell_vars cs) (code_vars b) x)) (inl refl) (inl refl) e.1 k.1
    code_placed (bind (to.Vector (v ∷ vs)) (leaf (fetch c)) b) zs ks a ps n here next x w o e k =
        node_placed base v vs b (as_word ks c)
        (split_code ts (with_hidden (deferred_fields_of v.0 b 1 vs) ks)
        (cond (owns v.0 b) (as_word ks c) a)
        (cond (owns v.0 b) (deferred_fields_of v.0 b 1 vs) ps) (n + 0) b) here next
        (v_low base v vs b zs ks ps n x)
        (kept_outside base v vs b zs ks ps n x ts (cond (owns v.0 b) (as_word ks c) a) e.2 k.2)
        (code_placed b (numbers_of (v ∷ vs) ++ zs) (with_hidden (deferred_fields_of v.0 b 1 vs) ks)
        (cond (owns v.0 b) (as_word ks c) a)
        (cond (owns v.0 b) (deferred_fields_of v.0 b 1 vs) ps) (n + 0) _ _
        (walk_node base v vs b zs ks ps n x)
        (subst (λ s. Waits (cond s (at_front (tagged (as_word ks c) v.0 (kept v.0 b 1 vs []))) next)
        (cond (owns v.0 b) (as_word ks c) a)
        (cond (owns v.0 b) (deferred_fields_of v.0 b 1 vs) ps))
        (sym (owns_stays ts b (with_hidden (deferred_fields_of v.0 b 1 vs) ks)
        (cond (owns v.0 b) (as_word ks c) a)
        (cond (owns v.0 b) (deferred_fields_of v.0 b 1 vs) ps) (n + 0) v
        (v_alone base v vs b zs ks ps n x) (v_new base v vs b zs ks ps n x).2
        (let l : v.0 < base = v_low base v vs b zs ks ps n x in omega (arith, l, x.from)) e.2
        k.2))
        (waits_node base v vs b zs ks ps n x next a (as_word ks c) w))
        (owned_node base v vs b zs ks ps n x o) e.2 k.2)
    code_placed (bind (to.Vector []) (leaf (fetch c)) b) zs ks a ps n here next x w o e k
        = (
          tt,
          tt,
          code_placed b zs ks a ps (n + 0) elsewhere next
              (walk_on base zs ks ps n (n + 0) (code_vars b) (omega arith) x) w o e.2 k.2,
        )
    code_placed (bind to.Nothing (leaf (fetch c)) b) zs ks a ps n here next x w o e k
        = (
          tt,
          tt,
          code_placed b zs ks a ps (n + 0) elsewhere next
              (walk_on base zs ks ps n (n + 0) (code_vars b) (omega arith) x) w o e.2 k.2,
        )
    code_placed (bind (to.One u) (leaf (fetch c)) b) zs ks a ps n here next x w o e k =
        let new : (times u.0 zs ≡ 0) × (times u.0 (code_vars b) ≡ 0)
        = (let q : times u.0 zs + times u.0 (u.0 ∷ code_vars b) ≤ 1 = x.once u.0 in let i
        : counts (nat_eq u.0 u.0) ≡ 1 = one_at u.0
        in (omega (arith, q, i), omega (arith, q, i))) in
        let lt : u.0 < base = x.low u.0
        (let i : counts (nat_eq u.0 u.0) ≡ 1 = one_at u.0 in omega (arith, i)) in (
          inl lt,
          tt,
          code_placed b zs ks a ps (n + 0) _ _
              (walk_on base zs ks ps n (n + 0) (code_vars b) (omega arith)
              (walk_right base zs ks ps n (u.0 ∷ []) (code_vars b) x))
              (one_waits u.0 zs ps a b _ next _
              (owns_stays ts b ks a ps (n + 0) u (alone_new base n zs ks u x.sound new.0 lt)
              new.1 (omega (arith, lt, x.from)) e.2 k.2) new.0 o w) o e.2 k.2,
        )
    code_placed (bind (to.Node u) (leaf (fetch c)) b) zs ks a ps n here next x w o e k = absurd e.0
    code_placed (bind t (leaf (fetch_word c i)) b) zs ks a ps n here next x w o e k = absurd k.1
    code_placed (bind t o' b) zs ks a ps n here next x w o e k =
        let y : Walk base zs ks ps n (act_vars o' ++ code_vars b)
        = walk_right base zs ks ps n (target_vars t) (act_vars o' ++ code_vars b) x in (
          tt,
          act_placed o' zs ks a ps n next (walk_left base zs ks ps n (act_vars o') (code_vars b) y)
              w e.1 k.1,
          code_placed b zs ks a [] (n + made_act ts ps o') elsewhere elsewhere
              (walk_on base zs ks [] n (n + made_act ts ps o') (code_vars b) (omega arith)
              (walk_none base zs ks ps n (code_vars b)
              (walk_right base zs ks ps n (act_vars o') (code_vars b) y))) (inl refl) (inl refl) e.2
              k.2,
        )

    arms_placed : (as' : Arms) (zs : List ℕ) (ks : Names) (a : W.Word) (ps : List DeferredField)
        (n : ℕ) (next : Position) → Walk base zs ks ps n (arms_vars as') → Waits next a ps
        → EachArms vectorised_kind as' → EachArms no_word_fetch_kind as'
        → ArmsPlaced base next (split_arms ts ks a ps n as')
    arms_placed no_arm zs ks a ps n next x w e k = tt
    arms_placed (arm s b as') zs ks a ps n next x w e k =
        let y : Walk base zs ks ps n (code_vars b ++ arms_vars as')
        = walk_right base zs ks ps n (shape_vars s) (code_vars b ++ arms_vars as') x in (
          arms_front base zs ks ps n a next b
              (split_code ts (front_names n ps b ks) a [] (n + length ps) b) w
              (λ here. code_placed b zs (front_names n ps b ks) a [] (n + length ps) here elsewhere
              (walk_front base zs ks ps n b (code_vars b)
              (walk_left base zs ks ps n (code_vars b) (arms_vars as') y)) (inl refl) (inl refl)
              e.1 k.1),
          arms_placed as' zs ks a ps (n + length ps + made_code ts [] b) next
              (walk_on base zs ks ps n (n + length ps + made_code ts [] b) (arms_vars as')
              (omega arith) (walk_right base zs ks ps n (code_vars b) (arms_vars as') y)) w e.2 k.2,
        )

  pub procs_placed : (qs : List Procedure) (n : ℕ) → base ≤ n → past_procs qs ≤ base
      → ((y : ℕ) → times y (procs_vars qs) ≤ 1) → EveryBodyIsOfKind vectorised_kind qs
      → EveryBodyIsOfKind no_word_fetch_kind qs
      → AllOf (λ q. CodePlaced base elsewhere elsewhere q.body) (split_procs ts n qs)
  procs_placed [] n le past once e k = tt
  procs_placed (q ∷ qs) n le past once e k = (
    code_placed q.body [] [] (Lit (pos 0)) [] n elsewhere elsewhere
        (record {
          sound = λ z. itself refl;
          inside = λ z h. cc;
          from = le;
          once = here;
          low = λ y i.
              (let l : y < past_code q.body = scope_below (past_code q.body) (code_vars q.body)
              (λ y h. past_code_none y q.body h) y i in omega (arith, l, past));
        })
        (inl refl) (inl refl) e.0 k.0,
    procs_placed qs (n + made_code ts [] q.body) (omega (arith, le)) (omega (arith, past)) later e.1
        k.1,
  )
    where
      here : (y : ℕ) → times y [] + times y (code_vars q.body) ≤ 1
      here y = omega (arith, first_once q qs y (once y))

      later : (y : ℕ) → times y (procs_vars qs) ≤ 1
      later y = others_once q qs y (once y)
