-- What terms stand for, where others are added to them.
use Rattle.std.proofs.Common.{◌≡◌, ℕ, zero, suc, ◌<◌, ◌≤◌, Bool, true, false, List, [], ◌∷◌, ◌++◌, length, refl, sym, ap, subst, ◌∙◌, arith, Option, Some, None, ◌⊎◌, inl, inr}
use Rattle.std.specs.Prelude.{slice_get, ◌==◌, if◌then◌else◌}
use Rattle.std.specs.Ordering.{nat_cmp}
use Rattle.std.specs.BTreeMap.{get}
use Rattle.seq.specs.Lists.{In, here, there}
use Rattle.seq.proofs.Lists.{some_is}
use Rattle.unification.specs.declared.term.Symbol.{Symbol}
use Rattle.unification.specs.declared.term.Symbol.TheVariants as symbol
use Rattle.unification.specs.declared.term.Term.{Term}
use Rattle.unification.specs.declared.term.Term.TheVariants as term
use Rattle.unification.specs.Terms.{AreEarlier, symbol_in, arguments_in, symbol_of, arguments_of}
use Rattle.core_types.specs.declared.nodes.TypeVariableKey as code-key
use Rattle.core_types.specs.declared.nodes.Nodes.{Nodes}
use Rattle.core_types.specs.Typing.{TypeVariableKey, AtBinder, AtResult, AtBracket, AtScrutinee, AtUse, Typed, Types, Int, Open, Rigid, Named, Arrow, NoTypeds, AndTyped}
use Rattle.core_types.specs.Nodes.{key_of, number_of, is_use, IsInRange, entry_of, index_of_key, entered, named_by, IsVariableAt, IsSound, IsSymbolAt, AreBelow, TakesArguments, HasItsArguments, HaveTheirArguments, Denotes, DenoteAll, ExtendsNodes, AddsTermForType}

-- ---- a term by its parts

pub made_at : (ts : List Term) (at : ℕ) (s : Symbol) (xs : List ℕ) → symbol_of ts at ≡ Some s
    → arguments_of ts at ≡ xs → slice_get ts at ≡ Some (term.Made s xs)
made_at ts at s xs e f = go (slice_get ts at) refl
  where
    go : (o : Option Term) → slice_get ts at ≡ o → slice_get ts at ≡ Some (term.Made s xs)
    go None g = let no : None ≡ Some s = sym (ap symbol_in g) ∙ e in absurd cc
    go (Some term.Variable) g = let no : None ≡ Some s = sym (ap symbol_in g) ∙ e in absurd cc
    go (Some (term.Made r ys)) g =
        let one : r ≡ s = some_is (sym (ap symbol_in g) ∙ e) in
        let two : ys ≡ xs = sym (ap arguments_in g) ∙ f in
        g ∙ (λ i. Some (term.Made (one i) (two i)))

-- ---- lists

get_more : {T : Type 0} (xs ys : List T) (i : ℕ) (v : T) → slice_get xs i ≡ Some v
    → slice_get (xs ++ ys) i ≡ Some v
get_more [] ys i v e = absurd cc
get_more (x ∷ xs) ys zero v e = e
get_more (x ∷ xs) ys (suc i) v e = get_more xs ys i v e

get_last : {T : Type 0} (xs : List T) (t : T) → slice_get (xs ++ t ∷ []) (length xs) ≡ Some t
get_last [] t = refl
get_last (x ∷ xs) t = get_last xs t

pub get_below : {T : Type 0} (xs : List T) (i : ℕ) (v : T) → slice_get xs i ≡ Some v → i < length xs
get_below [] i v e = absurd cc
get_below (x ∷ xs) zero v e = omega arith
get_below (x ∷ xs) (suc i) v e = let h = get_below xs i v e in omega (arith, h)

-- an item of a longer list is one of the list or the last one
get_cases : {T : Type 0} (xs : List T) (t : T) (i : ℕ) (v : T) → slice_get (xs ++ t ∷ []) i ≡ Some v
    → (slice_get xs i ≡ Some v) ⊎ ((i ≡ length xs) × (t ≡ v))
get_cases [] t zero v e = inr (refl, cc)
get_cases [] t (suc i) v e = absurd cc
get_cases (x ∷ xs) t zero v e = inl e
get_cases (x ∷ xs) t (suc i) v e = elim (get_cases xs t i v e)
    [ inl h ↦ inl h | inr h ↦ inr (ap suc h.0, h.1) ]

length_last : {T : Type 0} (xs : List T) (t : T) → length (xs ++ t ∷ []) ≡ suc (length xs)
length_last [] t = refl
length_last (x ∷ xs) t = ap suc (length_last xs t)

eq_true : (a b : ℕ) → (a == b) ≡ true → a ≡ b
eq_true a b e = grind (arith, e)

pub none_in : (x : ℕ) → In x [] → ⊥
none_in x h = elim h [ ]

named_more : (ks : List (Option code-key.TypeVariableKey)) (k : Option code-key.TypeVariableKey)
    (x : ℕ) (q : TypeVariableKey) → named_by (slice_get ks x) ≡ Some q
    → named_by (slice_get (ks ++ k ∷ []) x) ≡ Some q
named_more [] k x q e = absurd cc
named_more (l ∷ ks) k zero q e = e
named_more (l ∷ ks) k (suc x) q e = named_more ks k x q e

variable_cases : (ts : List Term) (ks : List (Option code-key.TypeVariableKey)) (t : Term)
    (k : Option code-key.TypeVariableKey) (x : ℕ) (q : TypeVariableKey) → length ks ≡ length ts
    → slice_get (ts ++ t ∷ []) x ≡ Some term.Variable
    → named_by (slice_get (ks ++ k ∷ []) x) ≡ Some q
    → ((slice_get ts x ≡ Some term.Variable) × (named_by (slice_get ks x) ≡ Some q))
    ⊎ ((x ≡ length ts) × (t ≡ term.Variable) × (named_by (Some k) ≡ Some q))
variable_cases [] [] t k zero q l e f = inr (refl, cc, f)
variable_cases [] [] t k (suc x) q l e f = absurd cc
variable_cases [] (j ∷ ks) t k x q l e f = absurd cc
variable_cases (s ∷ ts) [] t k x q l e f = absurd cc
variable_cases (s ∷ ts) (j ∷ ks) t k zero q l e f = inl (e, f)
variable_cases (s ∷ ts) (j ∷ ks) t k (suc x) q l e f =
    elim (variable_cases ts ks t k x q (omega (arith, l)) e f)
    [ inl h ↦ inl h | inr h ↦ inr (ap suc h.0, h.1, h.2) ]

-- ---- keys

pub same_key : (q r : TypeVariableKey) → IsInRange q → IsInRange r → is_use q ≡ is_use r
    → number_of q ≡ number_of r → q ≡ r
same_key (AtBinder a) (AtBinder b) l m u e = ap AtBinder (omega (arith, e))
same_key (AtBinder a) (AtResult b) l m u e = absurd (omega (arith, e))
same_key (AtBinder a) (AtBracket b) l m u e = absurd (omega (arith, e))
same_key (AtBinder a) (AtScrutinee b) l m u e = absurd (omega (arith, e))
same_key (AtBinder a) (AtUse b v) l m u e = absurd cc
same_key (AtResult a) (AtBinder b) l m u e = absurd (omega (arith, e))
same_key (AtResult a) (AtResult b) l m u e = ap AtResult (omega (arith, e))
same_key (AtResult a) (AtBracket b) l m u e = absurd (omega (arith, e))
same_key (AtResult a) (AtScrutinee b) l m u e = absurd (omega (arith, e))
same_key (AtResult a) (AtUse b v) l m u e = absurd cc
same_key (AtBracket a) (AtBinder b) l m u e = absurd (omega (arith, e))
same_key (AtBracket a) (AtResult b) l m u e = absurd (omega (arith, e))
same_key (AtBracket a) (AtBracket b) l m u e = ap AtBracket (omega (arith, e))
same_key (AtBracket a) (AtScrutinee b) l m u e = absurd (omega (arith, e))
same_key (AtBracket a) (AtUse b v) l m u e = absurd cc
same_key (AtScrutinee a) (AtBinder b) l m u e = absurd (omega (arith, e))
same_key (AtScrutinee a) (AtResult b) l m u e = absurd (omega (arith, e))
same_key (AtScrutinee a) (AtBracket b) l m u e = absurd (omega (arith, e))
same_key (AtScrutinee a) (AtScrutinee b) l m u e = ap AtScrutinee (omega (arith, e))
same_key (AtScrutinee a) (AtUse b v) l m u e = absurd cc
same_key (AtUse a w) (AtBinder b) l m u e = absurd cc
same_key (AtUse a w) (AtResult b) l m u e = absurd cc
same_key (AtUse a w) (AtBracket b) l m u e = absurd cc
same_key (AtUse a w) (AtScrutinee b) l m u e = absurd cc
same_key (AtUse a w) (AtUse b v) l m u e =
    let f : a ≡ b = omega (arith, e, l, m) in let g : w ≡ v = omega (arith, e, l, m)
    in (λ i. AtUse (f i) (g i))

-- a look-up where a number was entered
number_cases : (f : ℕ → Option ℕ) (c d at x : ℕ) → (if d == c then Some at else f d) ≡ Some x
    → ((d ≡ c) × (at ≡ x)) ⊎ (f d ≡ Some x)
number_cases f c d at x e = go (d == c) refl e
  where
    go : (b : Bool) → (d == c) ≡ b → (if b then Some at else f d) ≡ Some x → ((d ≡ c) × (at ≡ x))
        ⊎ (f d ≡ Some x)
    go true y e = inl (eq_true d c y, cc)
    go false y e = inr e

number_still : (f : ℕ → Option ℕ) (c d at x : ℕ) → f c ≡ None → f d ≡ Some x
    → (if d == c then Some at else f d) ≡ Some x
number_still f c d at x none e = go (d == c) refl
  where
    go : (b : Bool) → (d == c) ≡ b → (if b then Some at else f d) ≡ Some x
    go true y = absurd
        (let same : f c ≡ f d = ap f (sym (eq_true d c y)) in let k : None ≡ Some x
        = sym none ∙ same ∙ e in cc)
    go false y = e

number_there : (c at : ℕ) (o : Option ℕ) → (if c == c then Some at else o) ≡ Some at
number_there c at o = let y : (c == c) ≡ true = grind arith in ap (λ b. if b then Some at else o) y

module _ (n : Nodes) (q : TypeVariableKey) (at : ℕ) where
  entered_cases : (r : TypeVariableKey) (x : ℕ) → IsInRange q → IsInRange r
      → entered n q at (is_use r) (number_of r) ≡ Some x → ((r ≡ q) × (at ≡ x))
      ⊎ (index_of_key n r ≡ Some x)
  entered_cases r x l m e = go (is_use q) (is_use r) refl refl e
    where
      go : (b c : Bool) → is_use q ≡ b → is_use r ≡ c
          → (if b then
          (if c then
          (if number_of r == number_of q then Some at else get nat_cmp n.uses (number_of r))
          else get nat_cmp n.places (number_of r))
          else (if c then get nat_cmp n.uses (number_of r)
          else (if number_of r == number_of q then Some at
          else get nat_cmp n.places (number_of r)))) ≡ Some x
          → ((r ≡ q) × (at ≡ x)) ⊎
          ((if c then get nat_cmp n.uses (number_of r) else get nat_cmp n.places (number_of r))
          ≡ Some x)
      go true true u v e = elim
          (number_cases (get nat_cmp n.uses) (number_of q) (number_of r) at x e)
          [ inl h ↦ inl (same_key r q m l (v ∙ sym u) h.0, h.1) | inr h ↦ inr h ]
      go true false u v e = inr e
      go false true u v e = inr e
      go false false u v e = elim
          (number_cases (get nat_cmp n.places) (number_of q) (number_of r) at x e)
          [ inl h ↦ inl (same_key r q m l (v ∙ sym u) h.0, h.1) | inr h ↦ inr h ]

  entered_still : (r : TypeVariableKey) (x : ℕ) → index_of_key n q ≡ None
      → index_of_key n r ≡ Some x → entered n q at (is_use r) (number_of r) ≡ Some x
  entered_still r x none e = go (is_use q) (is_use r) none e
    where
      go : (b c : Bool) →
          (if b then get nat_cmp n.uses (number_of q) else get nat_cmp n.places (number_of q)) ≡
          None
          → (if c then get nat_cmp n.uses (number_of r) else get nat_cmp n.places (number_of r)) ≡
          Some x
          → (if b then
          (if c then
          (if number_of r == number_of q then Some at else get nat_cmp n.uses (number_of r))
          else get nat_cmp n.places (number_of r))
          else (if c then get nat_cmp n.uses (number_of r)
          else (if number_of r == number_of q then Some at
          else get nat_cmp n.places (number_of r)))) ≡ Some x
      go true true none e = number_still (get nat_cmp n.uses) (number_of q) (number_of r) at x none
          e
      go true false none e = e
      go false true none e = e
      go false false none e = number_still (get nat_cmp n.places) (number_of q) (number_of r) at x
          none e

  entered_there : entered n q at (is_use q) (number_of q) ≡ Some at
  entered_there = go (is_use q)
    where
      go : (b : Bool) →
          (if b then
          (if b then
          (if number_of q == number_of q then Some at else get nat_cmp n.uses (number_of q))
          else get nat_cmp n.places (number_of q))
          else (if b then get nat_cmp n.uses (number_of q)
          else (if number_of q == number_of q then Some at
          else get nat_cmp n.places (number_of q)))) ≡ Some at
      go true = number_there (number_of q) at (get nat_cmp n.uses (number_of q))
      go false = number_there (number_of q) at (get nat_cmp n.places (number_of q))

-- ---- what terms stand for

module _ (n n' : Nodes)
    (terms : (x : ℕ) (v : Term) → slice_get n.terms.items x ≡ Some v
    → slice_get n'.terms.items x ≡ Some v)
    (variables : (q : TypeVariableKey) (x : ℕ) → IsVariableAt n q x → IsVariableAt n' q x) where
  mutual
    kept : (t : Typed) (x : ℕ) → Denotes n t x → Denotes n' t x
    kept Int x h = terms x (term.Made symbol.Integer []) h
    kept (Open q) x h = variables q x h
    kept (Rigid f v) x h = terms x (term.Made (symbol.Rigid f v) []) h
    kept (Named name ts) x h =
        (h.0, terms x (term.Made (symbol.Named name) h.0) h.1, all_kept ts h.0 h.2)
    kept (Arrow t u) x h = (
      h.0,
      h.1,
      terms x (term.Made symbol.Arrow (h.0 ∷ (h.1 ∷ []))) h.2,
      kept t h.0 h.3,
      kept u h.1 h.4,
    )

    all_kept : (ts : Types) (xs : List ℕ) → DenoteAll n ts xs → DenoteAll n' ts xs
    all_kept NoTypeds xs h = h
    all_kept (AndTyped t ts) xs h = (h.0, h.1, h.2, kept t h.0 h.3, all_kept ts h.1 h.4)

-- ---- one more term

earlier_more : (ts : List Term) (t : Term) →
    ((x : ℕ) → In x (arguments_in (Some t)) → x < length ts) → AreEarlier ts
    → AreEarlier (ts ++ t ∷ [])
earlier_more ts t new old = λ i x h. go i x (slice_get (ts ++ t ∷ []) i) refl h
  where
    go : (i x : ℕ) (o : Option Term) → slice_get (ts ++ t ∷ []) i ≡ o → In x (arguments_in o)
        → x < i
    go i x None e h = absurd (none_in x h)
    go i x (Some v) e h = elim (get_cases ts t i v e) [
      | inl g ↦ old i x (subst (λ o. In x (arguments_in o)) (sym g) h)
      | inr g ↦
          (let l = new x (subst (λ w. In x (arguments_in (Some w))) (sym g.1) h) in let m = g.0
          in omega (arith, l, m))
    ]

formed_more : (ts : List Term) (t : Term) → HasItsArguments (Some t) → HaveTheirArguments ts
    → HaveTheirArguments (ts ++ t ∷ [])
formed_more ts t new old = λ i. go i (slice_get (ts ++ t ∷ []) i) refl
  where
    go : (i : ℕ) (o : Option Term) → slice_get (ts ++ t ∷ []) i ≡ o → HasItsArguments o
    go i None e = tt
    go i (Some v) e = elim (get_cases ts t i v e) [
      | inl g ↦ subst HasItsArguments g (old i)
      | inr g ↦ subst (λ w. HasItsArguments (Some w))
          g.1 new
    ]

module _ (n n' : Nodes) (t : Term) (k : Option code-key.TypeVariableKey)
    (grown : n'.terms.items ≡ n.terms.items ++ t ∷ [])
    (keyed : n'.keys.items ≡ n.keys.items ++ k ∷ []) (h : IsSound n) where
  terms_kept : (x : ℕ) (v : Term) → slice_get n.terms.items x ≡ Some v
      → slice_get n'.terms.items x ≡ Some v
  terms_kept x v e = ap (λ ts. slice_get ts x) grown ∙ get_more n.terms.items (t ∷ []) x v e

  variables_kept : (q : TypeVariableKey) (x : ℕ) → IsVariableAt n q x → IsVariableAt n' q x
  variables_kept q x e = (
    terms_kept x term.Variable e.0,
    ap (λ ks. named_by (slice_get ks x)) keyed ∙ named_more
        n.keys.items k x q e.1,
  )

  same_length : length n'.keys.items ≡ length n'.terms.items
  same_length = ap length keyed ∙ length_last n.keys.items k ∙ ap suc h.same ∙ sym
      (length_last n.terms.items t) ∙ sym (ap length grown)

  no_shorter : length n.terms.items ≤ length n'.terms.items
  no_shorter = let l = ap length grown ∙ length_last n.terms.items t in omega (arith, l)

  was_or_new : (q : TypeVariableKey) (x : ℕ) → IsVariableAt n' q x → IsVariableAt n q x
      ⊎ ((x ≡ length n.terms.items) × (t ≡ term.Variable) × (named_by (Some k) ≡ Some q))
  was_or_new q x e = variable_cases n.terms.items n.keys.items t k x q h.same
      (sym (ap (λ ts. slice_get ts x) grown) ∙ e.0)
      (sym (ap (λ ks. named_by (slice_get ks x)) keyed) ∙ e.1)

  earlier_kept : ((x : ℕ) → In x (arguments_in (Some t)) → x < length n.terms.items)
      → AreEarlier n'.terms.items
  earlier_kept new = subst AreEarlier (sym grown) (earlier_more n.terms.items t new h.earlier)

  formed_kept : HasItsArguments (Some t) → HaveTheirArguments n'.terms.items
  formed_kept new = subst HaveTheirArguments (sym grown) (formed_more n.terms.items t new h.formed)

  grown_by : IsSound n' → ExtendsNodes n n'
  grown_by sound = record {
    sound = sound;
    longer = no_shorter;
    one = kept n n' terms_kept variables_kept;
    all
        = all_kept n n' terms_kept variables_kept;
  }

  at_last : slice_get n'.terms.items (length n.terms.items) ≡ Some t
  at_last = ap (λ ts. slice_get ts (length n.terms.items)) grown ∙ get_last n.terms.items t

  named_last : named_by (slice_get n'.keys.items (length n.terms.items)) ≡ named_by (Some k)
  named_last = ap (λ i. named_by (slice_get n'.keys.items i)) (sym h.same) ∙ ap
      (λ ks. named_by (slice_get ks (length n.keys.items))) keyed ∙ ap named_by
      (get_last n.keys.items k)

-- a symbol was added
module _ (n n' : Nodes) (s : Symbol) (xs : List ℕ)
    (grown : n'.terms.items ≡ n.terms.items ++ term.Made s xs ∷ [])
    (keyed : n'.keys.items ≡ n.keys.items ++ None ∷ []) (h : IsSound n) where
  was : (q : TypeVariableKey) (x : ℕ) → IsVariableAt n' q x → IsVariableAt n q x
  was q x e = elim (was_or_new n n' (term.Made s xs) None grown keyed h q x e)
      [ inl y ↦ y | inr y ↦ absurd (let never = y.2 in cc) ]

  pub made_grows : n'.uses ≡ n.uses → n'.places ≡ n.places
      → ((x : ℕ) → In x xs → x < length n.terms.items) → TakesArguments s (length xs)
      → ExtendsNodes n n'
  made_grows u p new takes = grown_by n n' (term.Made s xs) None grown keyed h (record {
    same = same_length n n' (term.Made s xs) None grown keyed h;
    earlier = earlier_kept n n' (term.Made s xs) None grown keyed h new;
    formed = formed_kept n n' (term.Made s xs) None grown keyed h takes;
    ranged = λ q x e. h.ranged q x (was q x e);
    listed = λ q x e. found q ∙ h.listed q x (was q x e);
    held = λ q x l e. variables_kept n n' (term.Made s xs) None grown keyed h q x
        (h.held q x l (sym (found q) ∙ e));
  })
    where
      found : (q : TypeVariableKey) → index_of_key n' q ≡ index_of_key n q
      found q = λ i. if is_use q then get nat_cmp (u i) (number_of q)
          else get nat_cmp (p i) (number_of q)

  pub made_is : (x : ℕ) → x ≡ length n.terms.items → IsSymbolAt n' x s xs
  made_is x last = ap (λ i. slice_get n'.terms.items i) last ∙ at_last n n' (term.Made s xs) None
      grown keyed h

-- a variable was added
module _ (n n' : Nodes) (k : code-key.TypeVariableKey) (at : ℕ)
    (grown : n'.terms.items ≡ n.terms.items ++ term.Variable ∷ [])
    (keyed : n'.keys.items ≡ n.keys.items ++ Some k ∷ [])
    (last : at ≡ length n.terms.items)
    (more : (used : Bool) (number : ℕ) → entry_of n' used number ≡ entered n (key_of k) at used
    number)
    (range : IsInRange (key_of k)) (none : index_of_key n (key_of k) ≡ None) (h : IsSound n) where
  new_is : IsVariableAt n' (key_of k) at
  new_is = (
    ap (λ i. slice_get n'.terms.items i) last ∙ at_last n n' term.Variable (Some k) grown
        keyed h,
    ap (λ i. named_by (slice_get n'.keys.items i)) last ∙ named_last n n' term.Variable
        (Some k) grown keyed h,
  )

  new_ranged : (q : TypeVariableKey) (x : ℕ) → IsVariableAt n' q x → IsInRange q
  new_ranged q x e = elim (was_or_new n n' term.Variable (Some k) grown keyed h q x e) [
    | inl y ↦ h.ranged q x y
    | inr y ↦ (let same : key_of k ≡ q = (let z = y.2 in cc) in subst IsInRange same range)
  ]

  new_listed : (q : TypeVariableKey) (x : ℕ) → IsVariableAt n' q x → index_of_key n' q ≡ Some x
  new_listed q x e = elim (was_or_new n n' term.Variable (Some k) grown keyed h q x e) [
    | inl y ↦ more (is_use q) (number_of q) ∙ entered_still n (key_of k) at q x none
        (h.listed q x y)
    | inr y ↦
        (let same : key_of k ≡ q = (let z = y.2 in cc)
        in subst (λ q. index_of_key n' q ≡ Some x) same
        (more (is_use (key_of k)) (number_of (key_of k)) ∙ entered_there n (key_of k) at ∙ ap Some
        (last ∙ sym y.0)))
  ]

  new_held : (q : TypeVariableKey) (x : ℕ) → IsInRange q → index_of_key n' q ≡ Some x
      → IsVariableAt n' q x
  new_held q x l e = elim
      (entered_cases n (key_of k) at q x range l (sym (more (is_use q) (number_of q)) ∙ e)) [
        | inl y ↦ subst (λ q. IsVariableAt n' q x) (sym y.0)
            (subst (IsVariableAt n' (key_of k)) y.1 new_is)
        | inr y ↦ variables_kept n n' term.Variable (Some k) grown keyed h q x (h.held q x l y)
      ]

  pub variable_grows : ExtendsNodes n n'
  variable_grows = grown_by n n' term.Variable (Some k) grown keyed h (record {
    same = same_length n n' term.Variable (Some k) grown keyed h;
    earlier = earlier_kept n n' term.Variable (Some k) grown keyed h (λ x i. absurd (none_in x i));
    formed = formed_kept n n' term.Variable (Some k) grown keyed h tt;
    ranged = new_ranged;
    listed = new_listed;
    held = new_held;
  })

  pub variable_is : Denotes n' (Open (key_of k)) at
  variable_is = new_is

in_cases : (P : ℕ → Type 0) {x y : ℕ} {ys : List ℕ} → P y → (In x ys → P x) → In x (y ∷ ys) → P x
in_cases P p f here = p
in_cases P p f (there i) = f i

-- ---- what stands for types stands before the terms that are added

module _ (n : Nodes) where
  pub denotes_below : (t : Typed) (x : ℕ) → Denotes n t x → x < length n.terms.items
  denotes_below Int x e = get_below n.terms.items x (term.Made symbol.Integer []) e
  denotes_below (Open q) x e = get_below n.terms.items x term.Variable e.0
  denotes_below (Rigid f v) x e = get_below n.terms.items x (term.Made (symbol.Rigid f v) []) e
  denotes_below (Named name ts) x e = get_below n.terms.items x (term.Made (symbol.Named name) e.0)
      e.1
  denotes_below (Arrow t u) x e = get_below n.terms.items x
      (term.Made symbol.Arrow (e.0 ∷ (e.1 ∷ []))) e.2

  pub all_below : (ts : Types) (xs : List ℕ) → DenoteAll n ts xs → (x : ℕ) → In x xs
      → x < length n.terms.items
  all_below NoTypeds xs e x i = absurd (none_in x (subst (In x) e i))
  all_below (AndTyped t ts) xs e x i = in_cases (λ z. z < length n.terms.items)
      (denotes_below t e.0 e.3) (λ j. all_below ts e.1 e.4 x j) (subst (In x) e.2 i)

  pub two_below : (t u : Typed) (x y : ℕ) → Denotes n t x → Denotes n u y → (z : ℕ)
      → In z (x ∷ (y ∷ [])) → z < length n.terms.items
  two_below t u x y h k z here = denotes_below t x h
  two_below t u x y h k z (there here) = denotes_below u y k
  two_below t u x y h k z (there (there i)) = absurd (none_in z i)

pub grows_refl : (n : Nodes) → IsSound n → ExtendsNodes n n
grows_refl n h = record { sound = h; longer = omega arith; one = λ t x d. d; all = λ ts xs d. d }

pub grows_then : (n n' n'' : Nodes) → ExtendsNodes n n' → ExtendsNodes n' n'' → ExtendsNodes n n''
grows_then n n' n'' g h = let l = g.longer in let m = h.longer in
    record {
      sound = h.sound;
      longer = omega (arith, l, m);
      one
          = λ t x d. h.one t x (g.one t x d);
      all = λ ts xs d. h.all ts xs (g.all ts xs d);
    }

-- no terms
pub none_sound : (n : Nodes) → n.terms.items ≡ [] → n.keys.items ≡ []
    → ((c : ℕ) → get nat_cmp n.places c ≡ None) → ((c : ℕ) → get nat_cmp n.uses c ≡ None)
    → IsSound n
none_sound n t k p u = record {
  same = ap length k ∙ sym (ap length t);
  earlier = subst AreEarlier (sym t) no_terms;
  formed = subst HaveTheirArguments (sym t) (λ i. tt);
  ranged = λ q x e. absurd (no_variable q x e);
  listed = λ q x e. absurd (no_variable q x e);
  held = λ q x l e. absurd (never (index_of_key n q) x (go (is_use q) (number_of q)) e);
}
  where
    no_terms : AreEarlier []
    no_terms = λ i x h. absurd (none_in x h)

    no_variable : (q : TypeVariableKey) (x : ℕ) → IsVariableAt n q x → ⊥
    no_variable q x e = let f : slice_get [] x ≡ Some term.Variable
        = sym (ap (λ ts. slice_get ts x) t) ∙ e.0 in cc

    go : (b : Bool) (c : ℕ) → (if b then get nat_cmp n.uses c else get nat_cmp n.places c) ≡ None
    go true c = u c
    go false c = p c

    never : (o : Option ℕ) (x : ℕ) → o ≡ None → o ≡ Some x → ⊥
    never None x e f = cc
    never (Some y) x e f = cc

-- ---- what is given

-- a symbol without arguments
pub leaf_gives : (n n' : Nodes) (t : Typed) (x : ℕ) (s : Symbol) (xs : List ℕ) → xs ≡ []
    → (IsSound n → AreBelow n xs → TakesArguments s (length xs) → ExtendsNodes n n')
    → (IsSound n → IsSymbolAt n' x s xs)
    → (IsSymbolAt n' x s [] → Denotes n' t x) → TakesArguments s 0
    → IsSound n → AddsTermForType n n' t x
leaf_gives n n' t x s xs e grows made to takes h = record {
  grows = grows h (λ y i. absurd (none_in y (subst (In y) e i)))
      (subst (λ ys. TakesArguments s (length ys)) (sym e) takes);
  denotes = to (subst (IsSymbolAt n' x s) e (made h));
}

pub named_gives : (n n' : Nodes) (x name : ℕ) (xs : List ℕ)
    → (IsSound n → AreBelow n xs → TakesArguments (symbol.Named name) (length xs)
    → ExtendsNodes n n')
    → (IsSound n → IsSymbolAt n' x (symbol.Named name) xs)
    → (ts : Types) → IsSound n → DenoteAll n ts xs → AddsTermForType n n' (Named name ts) x
named_gives n n' x name xs grows made ts h d =
    let g = grows h (all_below n ts xs d) tt in
    record { grows = g; denotes = (xs, made h, g.all ts xs d) }

pub arrow_gives : (n n' : Nodes) (x from to : ℕ) (xs : List ℕ) → xs ≡ from ∷ (to ∷ [])
    → (IsSound n → AreBelow n xs → TakesArguments symbol.Arrow (length xs) → ExtendsNodes n n')
    → (IsSound n → IsSymbolAt n' x symbol.Arrow xs)
    → (t u : Typed) → IsSound n → Denotes n t from → Denotes n u to
    → AddsTermForType n n' (Arrow t u) x
arrow_gives n n' x from to xs e grows made t u h d k =
    let g = grows h (λ z i. two_below n t u from to d k z (subst (In z) e i)) (ap length e) in
    record {
      grows = g;
      denotes =
          (from, to, subst (IsSymbolAt n' x symbol.Arrow) e (made h), g.one t from d, g.one u to k);
    }
