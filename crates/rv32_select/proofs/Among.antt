-- Numbers that are in lists.
use Rattle.std.proofs.Common.{◌≡◌, ℕ, zero, suc, true, List, [], ◌∷◌, ◌++◌, inl, inr, Some, ap, ◌∙◌}
use Rattle.std.specs.Prelude.{slice_get}
use Rattle.low_code.specs.Formed.{Site, sites_of, calls_in, all_sites, variables, all_variables}
use Rattle.low_code.specs.Tree.{Procedure}
use Rattle.register_alloc.proofs.Lists.{among_either}
use Rattle.seq.specs.Lists.{is_among}
use Rattle.seq.proofs.Counted.{among_later, among_cases, among_first, among_left, among_right}

-- the first, or among the others

-- all of one list are in another
abbrev pub Within : (xs ys : List ℕ) → Type 0
Within xs ys = (x : ℕ) → is_among x xs ≡ true → is_among x ys ≡ true

pub within_cons : (x : ℕ) (xs ys : List ℕ) → is_among x ys ≡ true → Within xs ys
    → Within (x ∷ xs) ys
within_cons x xs ys h w y k = elim (among_cases y x xs k) [
  | inl e ↦ ap (λ z. is_among z ys) e ∙ h
  | inr m ↦ w y m
]

pub within_append : (a b ys : List ℕ) → Within a ys → Within b ys → Within (a ++ b) ys
within_append a b ys v w y k = elim (among_either y a b k) [ inl m ↦ v y m | inr m ↦ w y m ]

pub within_left : (a b ys : List ℕ) → Within (a ++ b) ys → Within a ys
within_left a b ys w y k = w y (among_left y a b k)

pub within_right : (a b ys : List ℕ) → Within (a ++ b) ys → Within b ys
within_right a b ys w y k = w y (among_right y a b k)

pub within_tail : (x : ℕ) (xs ys : List ℕ) → Within (x ∷ xs) ys → Within xs ys
within_tail x xs ys w y k = w y (among_later y x xs k)

pub within_head : (x : ℕ) (xs ys : List ℕ) → Within (x ∷ xs) ys → is_among x ys ≡ true
within_head x xs ys w = w x (among_first x xs)

-- the variables and the sites of a procedure are those of the program
pub variables_within : (qs : List Procedure) (f : ℕ) (q : Procedure) → slice_get qs f ≡ Some q
    → Within (variables q) (all_variables qs)
variables_within [] f q e = cc
variables_within (p ∷ qs) zero q e =
    let is : p ≡ q = cc in
    λ y k. among_left y (variables p) (all_variables qs) (ap (λ r. is_among y (variables r)) is ∙ k)
variables_within (p ∷ qs) (suc f) q e = λ y k. among_right y (variables p) (all_variables qs)
    (variables_within qs f q e y k)

pub sites_within : (qs : List Procedure) (f : ℕ) (q : Procedure) → slice_get qs f ≡ Some q
    → Within (sites_of (calls_in q.body)) (all_sites qs)
sites_within [] f q e = cc
sites_within (p ∷ qs) zero q e =
    let is : p ≡ q = cc in
    λ y k. among_left y (sites_of (calls_in p.body)) (all_sites qs)
    (ap (λ r. is_among y (sites_of (calls_in r.body))) is ∙ k)
sites_within (p ∷ qs) (suc f) q e = λ y k. among_right y (sites_of (calls_in p.body)) (all_sites qs)
    (sites_within qs f q e y k)

pub site_among : (ss : List Site) (k site called : ℕ) → slice_get ss k ≡ Some (site, called)
    → is_among site (sites_of ss) ≡ true
site_among [] k site called e = cc
site_among (s ∷ ss) zero site called e = let is : s ≡ (site, called) = cc
    in ap (λ t. is_among site (t.0 ∷ sites_of ss)) is ∙ among_first site (sites_of ss)
site_among (s ∷ ss) (suc k) site called e = among_later site s.0 (sites_of ss)
    (site_among ss k site called e)
