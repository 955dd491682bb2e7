-- What is spread between two labels can be placed.
use Rattle.std.proofs.Common.{◌≡◌, ℕ, zero, suc, ◌+◌, ◌<◌, ◌≤◌, ◌⊎◌, List, [], ◌∷◌, ◌++◌, replicate, Some, slice_get, inl, inr, refl, sym, ap, ◌∙◌, subst, arith}
use Rattle.std.specs.Prelude.{if◌then◌else◌}
use Rattle.std.proofs.lemmas.Bool.{eq-eqb, ne_eqb}
use Rattle.std.proofs.lemmas.Option.{same_Some}
use Rattle.rv32_items.specs.declared.Item.{Item}
use Rattle.rv32_items.specs.declared.Item.TheVariants.{Label, Plain, Branch, Jump}
use Rattle.rv32_items.specs.Placed.{size, size_of, times, target_of, IsPlain, AllPlain, LabelsStand}
use Rattle.test_layout.specs.Spread.{idle, spread, GoesThere}
use Rattle.rv32_items.proofs.Counted.{size_append, times_append}

-- ---- what holds of each item

abbrev pub Each : (Item → Type 0) → List Item → Type 0
Each P [] = Unit {0}
Each P (i ∷ is) = P i × Each P is

pub each_get : (P : Item → Type 0) (is : List Item) (n : ℕ) (i : Item) → Each P is
    → slice_get is n ≡ Some i → P i
each_get P [] n i h e = cc
each_get P (j ∷ is) zero i h e = subst P (same_Some _ _ e) h.0
each_get P (j ∷ is) (suc n) i h e = each_get P is n i h.1 e

pub each_append : (P : Item → Type 0) (xs ys : List Item) → Each P xs → Each P ys
    → Each P (xs ++ ys)
each_append P [] ys hx hy = hy
each_append P (x ∷ xs) ys hx hy = (hx.0, each_append P xs ys hx.1 hy)

each_idle : (P : Item → Type 0) (n : ℕ) → P idle → Each P (replicate n idle)
each_idle P zero h = tt
each_idle P (suc n) h = (h, each_idle P n h)

each_spread : (P : Item → Type 0) (before after last : ℕ) (i : Item) → P (Label 0) → P idle → P i
    → P (Label last) → Each P (spread before after last i)
each_spread P before after last i zeroth still here final =
    each_append P (Label 0 ∷ replicate before idle) (i ∷ (replicate after idle ++ Label last ∷ []))
    (zeroth, each_idle P before still) (
      here,
      each_append P (replicate after idle) (Label last ∷ []) (each_idle P after still)
          (final, tt),
    )

-- ---- labels

times_idle : (l n : ℕ) → times l (replicate n idle) ≡ 0
times_idle l zero = refl
times_idle l (suc n) = times_idle l n

times_other : (l last : ℕ) (i : Item) (is : List Item) → GoesThere last i
    → times l (i ∷ is) ≡ times l is
times_other l last (Label k) is (inl h) = cc
times_other l last (Label k) is (inr h) = cc
times_other l last (Plain i) is h = refl
times_other l last (Branch c a b t) is h = refl
times_other l last (Jump k t) is h = refl

times_spread : (l before after last : ℕ) (i : Item) → GoesThere last i
    → times l (spread before after last i) ≡ times l (Label 0 ∷ []) + times l (Label last ∷ [])
times_spread l before after last i goes =
    let first = times_append l (Label 0 ∷ []) (replicate before idle) in
    let z = times_idle l before in
    let all = times_append l (Label 0 ∷ replicate before idle)
    (i ∷ (replicate after idle ++ Label last ∷ [])) in
    let other = times_other l last i (replicate after idle ++ Label last ∷ []) goes in
    let end = times_append l (replicate after idle) (Label last ∷ []) in
    let y = times_idle l after in
    omega arith

pub labels_stand : (before after last : ℕ) (i : Item) → 0 < last → GoesThere last i
    → LabelsStand (spread before after last i)
labels_stand before after last i apart goes n l j e t =
    let P : Item → Type 0 = λ j. target_of j ≡ Some l → (l ≡ 0) ⊎ (l ≡ last) in
    let which = each_get P (spread before after last i) n j
    (each_spread P before after last i (λ h. cc) (λ h. cc) (there goes) (λ h. cc)) e t in
    times_spread l before after last i goes ∙ counts which
  where
    there : GoesThere last i → target_of i ≡ Some l → (l ≡ 0) ⊎ (l ≡ last)
    there (inl a) h = inl (same_Some _ _ (sym h ∙ a))
    there (inr a) h = inr (same_Some _ _ (sym h ∙ a))

    counts : (l ≡ 0) ⊎ (l ≡ last) → times l (Label 0 ∷ []) + times l (Label last ∷ []) ≡ 1
    counts (inl z) =
        ap (λ k. times k (Label 0 ∷ []) + times k (Label last ∷ [])) z
        ∙ ap (λ b. 1 + (if b then 1 else 0)) (ne_eqb last 0 (λ e. omega arith))
    counts (inr o) =
        ap (λ k. times k (Label 0 ∷ []) + times k (Label last ∷ [])) o
        ∙ (λ k. (if ne_eqb 0 last (λ e. omega arith) k then 1 else 0) +
        (if eq-eqb last last refl k then 1 else 0))

pub all_plain : (before after last : ℕ) (i : Item) → GoesThere last i
    → AllPlain (spread before after last i)
all_plain before after last i goes n j e = each_get IsPlain (spread before after last i) n j
    (each_spread IsPlain before after last i tt tt (plain i goes) tt) e
  where
    plain : (i : Item) → GoesThere last i → IsPlain i
    plain (Label k) goes = tt
    plain (Plain i) (inl h) = cc
    plain (Plain i) (inr h) = cc
    plain (Branch c a b t) goes = tt
    plain (Jump k t) goes = tt

-- ---- size

size_idle : (n : ℕ) → size_of (replicate n idle) ≡ n
size_idle zero = refl
size_idle (suc n) = let e = size_idle n in omega arith

size_three : (i : Item) → size i ≤ 3
size_three (Label l) = omega arith
size_three (Plain i) = omega arith
size_three (Branch c a b t) = omega arith
size_three (Jump k t) = omega arith

pub size_spread : (before after last : ℕ) (i : Item)
    → size_of (spread before after last i) ≤ before + after + 3
size_spread before after last i =
    let a = size_append (Label 0 ∷ replicate before idle)
    (i ∷ (replicate after idle ++ Label last ∷ [])) in
    let b = size_append (replicate after idle) (Label last ∷ []) in
    let x = size_idle before in
    let y = size_idle after in
    let s = size_three i in
    omega arith
