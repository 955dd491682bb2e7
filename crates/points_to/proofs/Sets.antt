-- Rows of sets, and what they hold.
use Rattle.std.proofs.Common.{◌≡◌, ◌<◌, ◌≤◌, ℕ, zero, suc, Bool, false, List, [], ◌∷◌, ◌++◌, length, get_or, slice_set, refl, sym, ap, ◌∙◌, subst, inl, inr, ⊎_elim, arith}
use Rattle.std.specs.Prelude.{◌⊎◌, IsTrue, Result as Answer, Ok, Err, OnOk, IfOk}
use Rattle.std.proofs.lemmas.Option.{slice_get_read, slice_get_past}
use Rattle.flow_system.specs.declared.fact.Place.{Place}
use Rattle.flow_system.specs.declared.fact.Place.TheVariants.{Site, Var, Result}
use Rattle.points_to.specs.declared.facts.Item.{Item}
use Rattle.points_to.specs.declared.facts.Facts.{Facts}
use Rattle.points_to.specs.Held.{In}
use Rattle.points_to.specs.Rows.{GainsMembers}
use Rattle.points_to.specs.Asked.{fact, facts_at}
use Rattle.points_to.specs.Known.{items_in, items_at, held, PutsItems, GrowsByFacts}
use Rattle.seq.proofs.Member.{none_in, in_map, map_in}
use Rattle.seq.proofs.Order.{same_or_not}

pub at_some : (xs : List (List Item)) (n : ℕ) (s : List Item) → n < length xs → s ≡ get_or xs n s
    → items_at xs n ≡ s
at_some xs n s lt e = ap items_in (slice_get_read xs (length xs) n s refl lt e)

pub at_none : (xs : List (List Item)) (n : ℕ) → length xs ≤ n → items_at xs n ≡ []
at_none xs n le = ap items_in (slice_get_past xs n le)

pub found_some : (xs : List (List Item)) (n : ℕ) (s : List Item) (i : Item) (b : Bool)
    → n < length xs → s ≡ get_or xs n s → (IsTrue b → In i s) × (In i s → IsTrue b)
    → (IsTrue b → In i (items_at xs n)) × (In i (items_at xs n) → IsTrue b)
found_some xs n s i b lt e q =
    let k : items_at xs n ≡ s = at_some xs n s lt e in
    (λ t. subst (In i) (sym k) (q.0 t), λ h. q.1 (subst (In i) k h))

pub found_none : (xs : List (List Item)) (n : ℕ) (i : Item) → length xs ≤ n
    → (IsTrue false → In i (items_at xs n)) × (In i (items_at xs n) → IsTrue false)
found_none xs n i le = (λ t. cc, λ h. none_in (subst (In i) (at_none xs n le) h))

empty_more : (xs : List (List Item)) (s : List Item) → s ≡ [] → (n : ℕ)
    → items_at (xs ++ s ∷ []) n ≡ items_at xs n
empty_more [] s e zero = e
empty_more [] s e (suc n) = refl
empty_more (x ∷ xs) s e zero = refl
empty_more (x ∷ xs) s e (suc n) = empty_more xs s e n

pub grown : (zs xs : List (List Item)) (s : List Item) → s ≡ [] → items_at xs ≡ items_at zs
    → items_at (xs ++ s ∷ []) ≡ items_at zs
grown zs xs s e q = (λ i n. empty_more xs s e n i) ∙ q

set_same : (xs : List (List Item)) (n : ℕ) (s : List Item) → n < length xs
    → items_at (slice_set xs n s) n ≡ s
set_same [] n s lt = absurd (omega arith)
set_same (x ∷ xs) zero s lt = refl
set_same (x ∷ xs) (suc n) s lt = set_same xs n s (omega arith)

pub set_other : (xs : List (List Item)) (n m : ℕ) (s : List Item) → (m ≡ n → ⊥)
    → items_at (slice_set xs n s) m ≡ items_at xs m
set_other [] n m s ne = refl
set_other (x ∷ xs) zero zero s ne = absurd (ne refl)
set_other (x ∷ xs) zero (suc m) s ne = refl
set_other (x ∷ xs) (suc n) zero s ne = refl
set_other (x ∷ xs) (suc n) (suc m) s ne = set_other xs n m s (λ e. ne (ap suc e))

pub puts : (old : ℕ → List Item) (xs : List (List Item)) (n : ℕ) (s s' is : List Item)
    → items_at xs ≡ old → n < length xs → s ≡ get_or xs n s → GainsMembers s s' is
    → PutsItems old (items_at (slice_set xs n s')) n is
puts old xs n s s' is o lt e g = subst (λ f. PutsItems f (items_at (slice_set xs n s')) n is) o
    (record { kept = kept; put = λ j h. subst (In j) (sym new) (g.put j h); only = only })
  where
    old_is : items_at xs n ≡ s
    old_is = at_some xs n s lt e

    new : items_at (slice_set xs n s') n ≡ s'
    new = set_same xs n s' lt

    kept : (m : ℕ) (j : Item) → In j (items_at xs m) → In j (items_at (slice_set xs n s') m)
    kept m j h = ⊎_elim
        (λ z. subst (λ m. In j (items_at (slice_set xs n s') m)) (sym z)
        (subst (In j) (sym new) (g.kept j (subst (In j) (ap (items_at xs) z ∙ old_is) h))))
        (λ z. subst (In j) (sym (set_other xs n m s' z)) h)
        (same_or_not m n)

    only : (m : ℕ) (j : Item) → In j (items_at (slice_set xs n s') m) → In j (items_at xs m)
        ⊎ ((m ≡ n) × In j is)
    only m j h = ⊎_elim
        (λ z. ⊎_elim (λ a. inl (subst (In j) (sym (ap (items_at xs) z ∙ old_is)) a))
        (λ b. inr (z, b))
        (g.only j (subst (In j) (ap (items_at (slice_set xs n s')) z ∙ new) h)))
        (λ z. inl (subst (In j) (set_other xs n m s' z) h))
        (same_or_not m n)

-- of one kind of place
module _ (kind : ℕ → Place) (old new : Place → List Item) (n : ℕ) (is : List Item) where
  pub grows_by : ((q : Place) → ((m : ℕ) × (q ≡ kind m)) ⊎ (new q ≡ old q))
      → ((m m' : ℕ) → kind m ≡ kind m' → m ≡ m') → PutsItems (λ m. old (kind m)) (λ m. new (kind m))
      n is → GrowsByFacts old new (facts_at (kind n) is)
  grows_by cases same p = record {
    kept = λ q j h. ⊎_elim
        (λ r. subst (λ q. In j (new q)) (sym r.1) (p.kept r.0 j (subst (λ q. In j (old q)) r.1 h)))
        (λ e. subst (In j) (sym e) h) (cases q);
    put = λ f h. let w = map_in (fact (kind n)) is h
        in subst (λ f. In f.item (new f.place)) (sym w.2) (p.put w.0 w.1);
    only = λ q j h. ⊎_elim
        (λ r. ⊎_elim (λ a. inl (subst (λ q. In j (old q)) (sym r.1) a))
        (λ b. inr
        (subst (λ f. In f (facts_at (kind n) is))
        (ap (λ m. fact (kind m) j) (sym b.0) ∙ ap (λ q. fact q j) (sym r.1))
        (in_map (fact (kind n)) is b.1))) (p.only r.0 j (subst (λ q. In j (new q)) r.1 h)))
        (λ e. inl (subst (In j) e h))
        (cases q);
  }

pub site_put : (f f' : Facts) (n : ℕ) (is : List Item) → f'.vars ≡ f.vars → f'.results ≡ f.results
    → PutsItems (items_at f.sites.items) (items_at f'.sites.items) n is
    → GrowsByFacts (held f) (held f') (facts_at (Site n) is)
site_put f f' n is e e' p = grows_by Site (held f) (held f') n is by (λ m m' q. cc) p
  where
    by : (q : Place) → ((m : ℕ) × (q ≡ Site m)) ⊎ (held f' q ≡ held f q)
    by (Site m) = inl (m, refl)
    by (Var m) = inr (ap (λ v. items_at v.items m) e)
    by (Result m) = inr (ap (λ v. items_at v.items m) e')

pub var_put : (f f' : Facts) (n : ℕ) (is : List Item) → f'.sites ≡ f.sites → f'.results ≡ f.results
    → PutsItems (items_at f.vars.items) (items_at f'.vars.items) n is
    → GrowsByFacts (held f) (held f') (facts_at (Var n) is)
var_put f f' n is e e' p = grows_by Var (held f) (held f') n is by (λ m m' q. cc) p
  where
    by : (q : Place) → ((m : ℕ) × (q ≡ Var m)) ⊎ (held f' q ≡ held f q)
    by (Site m) = inr (ap (λ v. items_at v.items m) e)
    by (Var m) = inl (m, refl)
    by (Result m) = inr (ap (λ v. items_at v.items m) e')

pub result_put : (f f' : Facts) (n : ℕ) (is : List Item) → f'.sites ≡ f.sites → f'.vars ≡ f.vars
    → PutsItems (items_at f.results.items) (items_at f'.results.items) n is
    → GrowsByFacts (held f) (held f') (facts_at (Result n) is)
result_put f f' n is e e' p = grows_by Result (held f) (held f') n is by (λ m m' q. cc) p
  where
    by : (q : Place) → ((m : ℕ) × (q ≡ Result m)) ⊎ (held f' q ≡ held f q)
    by (Site m) = inr (ap (λ v. items_at v.items m) e)
    by (Var m) = inr (ap (λ v. items_at v.items m) e')
    by (Result m) = inl (m, refl)

pub on_ok : {X E : Type 0} (r : Answer X E) (P Q : Type 0) → (P → Q) → OnOk r P → OnOk r Q
on_ok (Ok x) P Q f p = f p
on_ok (Err e) P Q f p = tt

pub if_ok : {X E : Type 0} (r : Answer X E) (P Q : X → Type 0) → ((x : X) → P x → Q x) → IfOk r P
    → IfOk r Q
if_ok (Ok x) P Q f p = f x p
if_ok (Err e) P Q f p = tt

pub if_both : {X E : Type 0} (r : Answer X E) (P Q R : X → Type 0) → ((x : X) → P x → Q x → R x)
    → IfOk r P → IfOk r Q → IfOk r R
if_both (Ok x) P Q R f p q = f x p q
if_both (Err e) P Q R f p q = tt

-- from what holds where an answer is no error, and of its value
pub if_on_ok : {X E : Type 0} (r : Answer X E) (P : Type 0) (Q R : X → Type 0)
    → ((x : X) → P → Q x → R x) → OnOk r P → IfOk r Q → IfOk r R
if_on_ok (Ok x) P Q R f p q = f x p q
if_on_ok (Err e) P Q R f p q = tt
