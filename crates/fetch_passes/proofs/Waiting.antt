-- The words that wait for the alternatives of a case, and the names that they leave behind.
use Rattle.std.proofs.Common.{◌≡◌, ℕ, suc, pos, ◌+◌, ◌≤◌, Bool, true, false, cond, ◌||◌, nat_eq, List, [], ◌∷◌, length, refl, sym, ap, ◌∙◌, subst, arith}
use Rattle.seq.proofs.Order.{eq_from, eq_self, eq_false}
use Rattle.grin_syntax.specs.declared.program.VarId.{VarId}
use Rattle.grin_syntax.specs.declared.program.Word as W
use Rattle.grin_syntax.specs.declared.program.Word.TheVariants.{Lit, Var, Global, TagWord}
use Rattle.grin_syntax.specs.declared.program.Val as V
use Rattle.grin_syntax.specs.declared.program.Val.TheVariants.{NodeVar, Node, Vector, One}
use Rattle.grin_syntax.specs.Tree.{Code, end, store, bind, Act, leaf, case, nested}
use Rattle.grin_syntax.specs.Binders.{numbers_of}
use Rattle.grin_syntax.specs.Formed.{AllOf, InScope}
use Rattle.grin_syntax.specs.Fresh.{variable}
use Rattle.pass_ground.specs.Uses.{act_uses, code_uses, act_mentions}
use Rattle.fetch_passes.specs.Windows.{begins_with, decides, is_case_on_tag, is_passed, owns, act_outside, outside}
use Rattle.fetch_passes.specs.Names.{Names, DeferredField, as_word, with_hidden, named_if}
use Rattle.fetch_passes.specs.Waits.{deferred_fields_of}
use Rattle.fetch_passes.specs.Split.{front_names}
use Rattle.pass_ground.proofs.Tests.{never_both}
use Rattle.fetch_passes.proofs.Found.{is_var, is_waiting, hiding_is, naming, naming_is}
use Rattle.fetch_passes.proofs.Near.{At, itself, renamed, gone, Sound, at_more}
use Rattle.seq.specs.Lists.{times}
use Rattle.seq.proofs.Counted.{counts, one_at}
use Rattle.grin_syntax.proofs.Placed.{same_var}

-- ---- what waits

-- a word that waits is used in the alternatives alone
pub waits_outside : (t : ℕ) (b : Code) (i : ℕ) (xs : List VarId) (z : ℕ)
    → is_waiting (deferred_fields_of t b i xs) z ≡ true → outside t z b ≡ false
waits_outside t b i [] z h = cc
waits_outside t b i (x ∷ xs) z h = go (outside t x.0 b) refl h
    (λ k. waits_outside t b (suc i) xs z k)
  where
    here : (s : Bool) → nat_eq x.0 z ≡ s → outside t x.0 b ≡ false
        → (s || is_waiting (deferred_fields_of t b (suc i) xs) z) ≡ true
        → (is_waiting (deferred_fields_of t b (suc i) xs) z ≡ true → outside t z b ≡ false)
        → outside t z b ≡ false
    here true q o h f = ap (λ y. outside t y b) (sym (eq_from x.0 z q)) ∙ o
    here false q o h f = f h

    go : (o : Bool) → outside t x.0 b ≡ o → is_waiting
        (cond o (deferred_fields_of t b (suc i) xs)
        (record { var = x; place = i } ∷ deferred_fields_of t b (suc i) xs)) z ≡ true
        → (is_waiting (deferred_fields_of t b (suc i) xs) z ≡ true → outside t z b ≡ false)
        → outside t z b ≡ false
    go true q h f = f h
    go false q h f = here (nat_eq x.0 z) refl q h f

pub waits_in : (t : ℕ) (b : Code) (i : ℕ) (xs : List VarId) (z : ℕ)
    → is_waiting (deferred_fields_of t b i xs) z ≡ true → InScope (numbers_of xs) z
waits_in t b i [] z h = cc
waits_in t b i (x ∷ xs) z h = go (outside t x.0 b) h (λ k. waits_in t b (suc i) xs z k)
  where
    here : (s : Bool) → nat_eq x.0 z ≡ s → (s || is_waiting (deferred_fields_of t b (suc i) xs) z) ≡
        true → (is_waiting (deferred_fields_of t b (suc i) xs) z ≡ true → InScope (numbers_of xs) z)
        → InScope (numbers_of (x ∷ xs)) z
    here true q h f = let e : counts (nat_eq z x.0) ≡ 1
        = ap (λ y. counts (nat_eq z y)) (eq_from x.0 z q) ∙ one_at z in omega (arith, e)
    here false q h f = let k : InScope (numbers_of xs) z = f h in omega (arith, k)

    go : (o : Bool) → is_waiting
        (cond o (deferred_fields_of t b (suc i) xs)
        (record { var = x; place = i } ∷ deferred_fields_of t b (suc i) xs)) z ≡ true
        → (is_waiting (deferred_fields_of t b (suc i) xs) z ≡ true → InScope (numbers_of xs) z)
        → InScope (numbers_of (x ∷ xs)) z
    go true h f = let k : InScope (numbers_of xs) z = f h in omega (arith, k)
    go false h f = here (nat_eq x.0 z) refl h f

-- and each such word of the list does
pub waits_too : (t : ℕ) (b : Code) (i : ℕ) (xs : List VarId) (z : ℕ) → InScope (numbers_of xs) z
    → outside t z b ≡ false → is_waiting (deferred_fields_of t b i xs) z ≡ true
waits_too t b i [] z h e = absurd (omega (arith, h))
waits_too t b i (x ∷ xs) z h e = go (outside t x.0 b) refl (λ k. waits_too t b (suc i) xs z k e)
  where
    later : nat_eq x.0 z ≡ false → InScope (numbers_of xs) z
    later q = let k : counts (nat_eq z x.0) ≡ 0 = ap counts
        (eq_false z x.0 (λ s. never_both (ap (nat_eq x.0) s ∙ eq_self x.0) q))
        in omega (arith, k, h)

    here : (s : Bool) → nat_eq x.0 z ≡ s →
        (InScope (numbers_of xs) z → is_waiting (deferred_fields_of t b (suc i) xs) z ≡ true)
        → (s || is_waiting (deferred_fields_of t b (suc i) xs) z) ≡ true
    here true q f = refl
    here false q f = f (later q)

    other : (s : Bool) → nat_eq x.0 z ≡ s → outside t x.0 b ≡ true
        → (InScope (numbers_of xs) z → is_waiting (deferred_fields_of t b (suc i) xs) z ≡ true)
        → is_waiting (deferred_fields_of t b (suc i) xs) z ≡ true
    other true q o f = never_both (ap (λ y. outside t y b) (sym (eq_from x.0 z q)) ∙ o) e
    other false q o f = f (later q)

    go : (o : Bool) → outside t x.0 b ≡ o →
        (InScope (numbers_of xs) z → is_waiting (deferred_fields_of t b (suc i) xs) z ≡ true)
        → is_waiting
        (cond o (deferred_fields_of t b (suc i) xs)
        (record { var = x; place = i } ∷ deferred_fields_of t b (suc i) xs)) z ≡ true
    go true q f = other (nat_eq x.0 z) refl q f
    go false q f = here (nat_eq x.0 z) refl f

-- a fact of all the words holds of those that wait
pub waits_some : (P : DeferredField → Type 0) (t : ℕ) (b : Code) (i : ℕ) (xs : List VarId)
    (all : ℕ → List VarId → List DeferredField) →
    ((i : ℕ) (x : VarId) (xs : List VarId) → all i (x ∷ xs) ≡ record { var = x; place = i } ∷ all
    (suc i) xs) → AllOf P (all i xs) → AllOf P (deferred_fields_of t b i xs)
waits_some P t b i [] all e h = tt
waits_some P t b i (x ∷ xs) all e h =
    let k : AllOf P (record { var = x; place = i } ∷ all (suc i) xs) = subst (AllOf P) (e i x xs) h
    in
    go (outside t x.0 b) k.0 (waits_some P t b (suc i) xs all e k.1)
  where
    go : (o : Bool) → P (record { var = x; place = i })
        → AllOf P (deferred_fields_of t b (suc i) xs)
        → AllOf P
        (cond o (deferred_fields_of t b (suc i) xs)
        (record { var = x; place = i } ∷ deferred_fields_of t b (suc i) xs))
    go true h r = r
    go false h r = (h, r)

-- ---- windows

act_outside_uses : (t z : ℕ) (o : Act) → is_case_on_tag t o ≡ false
    → act_outside t z o ≡ act_uses z o
act_outside_uses t z o h = ap (λ b. cond b (decides z o) (act_uses z o)) h

-- where the case on t doesn't come next, every use is outside
pub outside_uses : (t z : ℕ) (b : Code) → owns t b ≡ false → outside t z b ≡ code_uses z b
unfolding owns outside act_mentions
outside_uses t z (end o) h = act_outside_uses t z o h
outside_uses t z (store cs b) h = refl
outside_uses t z (bind u o b) h = go (is_passed o) h (λ k. outside_uses t z b k)
  where
    go : (p : Bool) → cond p (owns t b) (is_case_on_tag t o) ≡ false
        → (owns t b ≡ false → outside t z b ≡ code_uses z b)
        → cond p (act_uses z o || outside t z b) (act_outside t z o || code_uses z b) ≡
        (act_uses z o || code_uses z b)
    go true h f = ap (λ r. act_uses z o || r) (f h)
    go false h f = ap (λ r. r || code_uses z b) (act_outside_uses t z o h)

both_begin : (t u : ℕ) (v : V.Val) → begins_with t v ≡ true → begins_with u v ≡ true → t ≡ u
both_begin t u (Vector (Var y ∷ ws)) h k = sym (eq_from y.0 t h) ∙ eq_from y.0 u k
both_begin t u (Vector (Lit y ∷ ws)) h k = cc
both_begin t u (Vector (Global y ∷ ws)) h k = cc
both_begin t u (Vector (TagWord y ∷ ws)) h k = cc
both_begin t u (Vector []) h k = cc
both_begin t u (NodeVar x) h k = cc
both_begin t u (Node s ws) h k = cc
both_begin t u (One a) h k = cc

both_own_act : (t u : ℕ) (o : Act) → is_case_on_tag t o ≡ true → is_case_on_tag u o ≡ true → t ≡ u
both_own_act t u (case v as') h k = both_begin t u v h k
both_own_act t u (leaf l) h k = cc
both_own_act t u (nested b) h k = cc

-- one case comes next
pub both_own : (t u : ℕ) (b : Code) → owns t b ≡ true → owns u b ≡ true → t ≡ u
unfolding owns
both_own t u (end o) h k = both_own_act t u o h k
both_own t u (store cs b) h k = cc
both_own t u (bind v o b) h k = go (is_passed o) h k (λ h k. both_own t u b h k)
  where
    go : (p : Bool) → cond p (owns t b) (is_case_on_tag t o) ≡ true
        → cond p (owns u b) (is_case_on_tag u o) ≡ true
        → (owns t b ≡ true → owns u b ≡ true → t ≡ u) → t ≡ u
    go true h k f = f h k
    go false h k f = both_own_act t u o h k

-- ---- names

-- a variable that isn't in scope stands for itself
pub sound_new : (base n : ℕ) (zs : List ℕ) (ks : Names) → Sound base n zs ks → (x : VarId)
    → times x.0 zs ≡ 0 → as_word ks (Var x) ≡ Var x
sound_new base n zs ks s x h = go (as_word ks (Var x)) (s x)
  where
    go : (w : W.Word) → At base n zs x.0 w → w ≡ Var x
    go (Var v) (itself e) = ap Var (same_var v x e)
    go (Var v) (renamed lo hi i) = absurd (omega (arith, h, i))
    go (Lit j) (gone i) = absurd (omega (arith, h, i))
    go (Global j) r = elim r [ ]
    go (TagWord j) r = elim r [ ]

pub sound_naming : (base n : ℕ) (zs : List ℕ) (ks : Names) (x : VarId) → Sound base n zs ks
    → base ≤ n → InScope zs x.0 → Sound base (suc n) zs (naming x n ks)
sound_naming base n zs ks x s le i z = subst (At base (suc n) zs z.0) (sym (naming_is x n ks z))
    (go (nat_eq x.0 z.0) refl)
  where
    go : (b : Bool) → nat_eq x.0 z.0 ≡ b → At base (suc n) zs z.0
        (cond b (Var (variable n)) (as_word ks (Var z)))
    go true q = renamed (omega (arith, le)) (omega arith) (subst (InScope zs) (eq_from x.0 z.0 q) i)
    go false q = at_more (omega arith) (λ y k. k) (s z)

pub sound_hiding : (base n : ℕ) (zs : List ℕ) (ks : Names) (ps : List DeferredField)
    → Sound base n zs ks → ((z : ℕ) → is_waiting ps z ≡ true → InScope zs z)
    → Sound base n zs (with_hidden ps ks)
sound_hiding base n zs ks ps s f z = subst (At base n zs z.0) (sym (hiding_is ps ks z))
    (go (is_waiting ps z.0) refl)
  where
    go : (b : Bool) → is_waiting ps z.0 ≡ b → At base n zs z.0
        (cond b (Lit (pos 0)) (as_word ks (Var z)))
    go true q = gone (f z.0 q)
    go false q = s z

-- the names at the front of an alternative
pub front_sound : (base n : ℕ) (zs : List ℕ) (ks : Names) (ps : List DeferredField) (b : Code)
    → Sound base n zs ks → base ≤ n → AllOf (λ p. InScope zs p.var.0) ps
    → Sound base (n + length ps) zs (front_names n ps b ks)
front_sound base n zs ks [] b s le i = λ z. at_more (omega arith) (λ y k. k) (s z)
front_sound base n zs ks (p ∷ ps) b s le i =
    let e : suc n + length ps ≡ n + suc (length ps) = omega arith in
    subst (λ m. Sound base m zs (front_names n (p ∷ ps) b ks)) e
    (front_sound base (suc n) zs (named_if (code_uses p.var.0 b) p.var n ks) ps b
    (go (code_uses p.var.0 b)) (omega (arith, le)) i.1)
  where
    go : (o : Bool) → Sound base (suc n) zs (named_if o p.var n ks)
    go true = sound_naming base n zs ks p.var s le i.0
    go false = λ z. at_more (omega arith) (λ y k. k) (s z)

-- what they leave hidden was hidden, and isn't used where it waited
pub front_hidden : (n : ℕ) (ks : Names) (ps : List DeferredField) (b : Code) (z : VarId)
    → is_var (as_word (front_names n ps b ks) (Var z)) ≡ false
    → (is_var (as_word ks (Var z)) ≡ false) × (is_waiting ps z.0 ≡ true → code_uses z.0 b ≡ false)
front_hidden n ks [] b z h = (h, λ e. cc)
front_hidden n ks (p ∷ ps) b z h = go (code_uses p.var.0 b) refl
    (front_hidden (suc n) (named_if (code_uses p.var.0 b) p.var n ks) ps b z h)
  where
    on : (s : Bool) → nat_eq p.var.0 z.0 ≡ s → is_var
        (cond s (Var (variable n)) (as_word ks (Var z))) ≡ false
        → (is_waiting ps z.0 ≡ true → code_uses z.0 b ≡ false)
        → (is_var (as_word ks (Var z)) ≡ false) ×
        ((s || is_waiting ps z.0) ≡ true → code_uses z.0 b ≡ false)
    on true q k f = cc
    on false q k f = (k, f)

    off : (s : Bool) → nat_eq p.var.0 z.0 ≡ s → code_uses p.var.0 b ≡ false
        → (is_waiting ps z.0 ≡ true → code_uses z.0 b ≡ false) → (s || is_waiting ps z.0) ≡ true
        → code_uses z.0 b ≡ false
    off true q o f e = ap (λ y. code_uses y b) (sym (eq_from p.var.0 z.0 q)) ∙ o
    off false q o f e = f e

    go : (o : Bool) → code_uses p.var.0 b ≡ o →
        (is_var (as_word (named_if o p.var n ks) (Var z)) ≡ false)
        × (is_waiting ps z.0 ≡ true → code_uses z.0 b ≡ false)
        → (is_var (as_word ks (Var z)) ≡ false) ×
        (is_waiting (p ∷ ps) z.0 ≡ true → code_uses z.0 b ≡ false)
    go true q k = on (nat_eq p.var.0 z.0) refl (ap is_var (sym (naming_is p.var n ks z)) ∙ k.0) k.1
    go false q k = (k.0, off (nat_eq p.var.0 z.0) refl q k.1)
