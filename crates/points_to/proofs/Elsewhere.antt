-- A fact changes what is known at its place alone.
use Rattle.std.proofs.Common.{◌≡◌, ℕ, List, slice_set, ap, ◌∙◌, sym, inl, inr, ⊎_elim}
use Rattle.std.specs.Prelude.{◌⊎◌}
use Rattle.seq.proofs.Order.{same_or_not}
use Rattle.flow_system.specs.declared.fact.Place.{Place}
use Rattle.flow_system.specs.declared.fact.Place.TheVariants.{Site, Var, Result}
use Rattle.points_to.specs.declared.facts.Item.{Item}
use Rattle.points_to.specs.declared.facts.Facts.{Facts}
use Rattle.points_to.specs.Known.{items_at, held}
use Rattle.points_to.proofs.Sets.{set_other}

pub items_elsewhere : (old : ℕ → List Item) (xs : List (List Item)) (n : ℕ) (s : List Item)
    → items_at xs ≡ old → (m : ℕ) → (m ≡ n) ⊎ (items_at (slice_set xs n s) m ≡ old m)
items_elsewhere old xs n s e m = ⊎_elim (λ z. inl z)
    (λ z. inr (set_other xs n m s z ∙ ap (λ f. f m) e)) (same_or_not m n)

pub site_elsewhere : (f f' : Facts) (n : ℕ) (p : Place) → p ≡ Site n → f'.vars ≡ f.vars
    → f'.results ≡ f.results
    → ((m : ℕ) → (m ≡ n) ⊎ (items_at f'.sites.items m ≡ items_at f.sites.items m)) → (q : Place)
    → (q ≡ p) ⊎ (held f' q ≡ held f q)
site_elsewhere f f' n p is e e' h (Site m) = ⊎_elim (λ z. inl (ap Site z ∙ sym is)) (λ z. inr z)
    (h m)
site_elsewhere f f' n p is e e' h (Var m) = inr (ap (λ v. items_at v.items m) e)
site_elsewhere f f' n p is e e' h (Result m) = inr (ap (λ v. items_at v.items m) e')

pub var_elsewhere : (f f' : Facts) (n : ℕ) (p : Place) → p ≡ Var n → f'.sites ≡ f.sites
    → f'.results ≡ f.results
    → ((m : ℕ) → (m ≡ n) ⊎ (items_at f'.vars.items m ≡ items_at f.vars.items m)) → (q : Place)
    → (q ≡ p) ⊎ (held f' q ≡ held f q)
var_elsewhere f f' n p is e e' h (Site m) = inr (ap (λ v. items_at v.items m) e)
var_elsewhere f f' n p is e e' h (Var m) = ⊎_elim (λ z. inl (ap Var z ∙ sym is)) (λ z. inr z) (h m)
var_elsewhere f f' n p is e e' h (Result m) = inr (ap (λ v. items_at v.items m) e')

pub result_elsewhere : (f f' : Facts) (n : ℕ) (p : Place) → p ≡ Result n → f'.sites ≡ f.sites
    → f'.vars ≡ f.vars
    → ((m : ℕ) → (m ≡ n) ⊎ (items_at f'.results.items m ≡ items_at f.results.items m)) → (q : Place)
    → (q ≡ p) ⊎ (held f' q ≡ held f q)
result_elsewhere f f' n p is e e' h (Site m) = inr (ap (λ v. items_at v.items m) e)
result_elsewhere f f' n p is e e' h (Var m) = inr (ap (λ v. items_at v.items m) e')
result_elsewhere f f' n p is e e' h (Result m) = ⊎_elim (λ z. inl (ap Result z ∙ sym is))
    (λ z. inr z) (h m)
