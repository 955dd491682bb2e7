-- What is gathered of a program, and the tables made of it, fit.
use Rattle.std.proofs.Common.{◌≡◌, ◌⊎◌, ◌↔◌, ℕ, zero, suc, ◌+◌, ◌≤◌, ◌<◌, true, false, List, [], ◌∷◌, ◌++◌, map, length, Some, slice_get, slice_index_or, inl, inr, refl, sym, ap, ◌∙◌, subst, arith}
use Rattle.std.proofs.lemmas.Bool.Decides.{nat_tests}
use Rattle.std.proofs.lemmas.Option.{same_Some, slice_get_within, get_or_from_slice_get}
use Rattle.std.specs.Int.{bit_at}
use Rattle.std.proofs.lemmas.Nat.Bits.{bit_at-zero}
use Rattle.seq.proofs.Lists.{map_get, length_map}
use Rattle.seq.proofs.Truth.{two_ways}
use Rattle.parallel_move.specs.declared.Spot.{Spot}
use Rattle.parallel_move.specs.declared.Spot.TheVariants.{Reg, Slot, Scratch}
use Rattle.low_code.specs.Tree.{Procedure, Program}
use Rattle.low_code.specs.Formed.{Distinct, binds, variables, all_variables, calls_in, sites_of, all_sites, Site, Formed}
use Rattle.register_alloc.specs.Assignment.{Assignment, place_of, mask_of, may_change, saves_at, words_at}
use Rattle.register_alloc.specs.Live.{IsLive, EachBindingOf}
use Rattle.register_alloc.specs.Written.{Assigned, variable, result, Written, assigned, called}
use Rattle.register_alloc.specs.Fits.{IsPlace, IsSlot, IsRegister, Apart, Full, slots_of, most_saved, words_of_frame, Ascending, IsSaved, ParametersInRegisters, Fits, UsesRegisters}
use Rattle.register_alloc.specs.Reach.{MayChangeRegister, its_own, AreLeastMasks}
use Rattle.register_alloc.specs.Reach as reach
use Rattle.register_alloc.specs.Rounds.{mask_at}
use Rattle.register_alloc.specs.Results.{callees, result_mask}
use Rattle.register_alloc.specs.Holders.{PlacesAgree, variables_of, Good}
use Rattle.register_alloc.specs.Point.{AfterCall, points, RecordsLiveRegisters, RecordsAllLive, NoBoundIsUsedLater}
use Rattle.register_alloc.specs.Gathered.{HaveFewResults, HaveFewParameters, GathersProcedures, AreSpots, SavesMatchCalls, sites_at, calls_of_walks, longest_at, frames_of}
use Rattle.register_alloc.specs.declared.registers.Given.{Given}
use Rattle.register_alloc.specs.declared.registers.CallSite.{CallSite}
use Rattle.register_alloc.specs.declared.registers.Registers.{Registers}
use Rattle.register_alloc.proofs.Lists.{among_first, among_either}
use Rattle.register_alloc.proofs.Counted.{once}
use Rattle.register_alloc.proofs.NotLater.{none_later, scoped_at}
use Rattle.register_alloc.proofs.LiveCalls.{sites_of_points, points_calls, to_point, from_point, each_weaker}
use Rattle.register_alloc.proofs.Tables.{given_among}
use Rattle.register_alloc.proofs.ResultMask.{result_bit, bit_result}
use Rattle.register_alloc.proofs.Pigeons.{no_more}
use Rattle.register_alloc.proofs.Procedures.{numbered_place, registers_of, register_among, numbered_many, numbered_slots, given_place, calls_of, noted, note_at, call_at, sites_are, procs_are, longest_is, live_is_bound, At, gathered_at, procedure_of_own, procedure_of_called, walk_of_call, variables_gathered, sites_gathered, lengths_gathered}
use Rattle.seq.specs.Lists.{numbers_from, is_among}
use Rattle.seq.proofs.Counted.{among_later, among_cases, length_numbers, times_append, among_left}

-- ---- lists

there_or_not : {A : Type 0} (xs : List A) (i : ℕ) (d : A)
    → ((x : A) × ((slice_get xs i ≡ Some x) × (slice_index_or xs i d ≡ x)))
    ⊎ (slice_index_or xs i d ≡ d)
there_or_not [] i d = inr refl
there_or_not (x ∷ xs) zero d = inl (x, (refl, refl))
there_or_not (x ∷ xs) (suc i) d = there_or_not xs i d

stands_among : (xs : List ℕ) (i x : ℕ) → slice_get xs i ≡ Some x → is_among x xs ≡ true
stands_among [] i x e = cc
stands_among (y ∷ xs) zero x e = among_first x y xs (sym (same_Some y x e))
stands_among (y ∷ xs) (suc i) x e = among_later x y xs (stands_among xs i x e)

-- a number at two places of a list without repeats
one_place : (xs : List ℕ) (i j x : ℕ) → Distinct xs → slice_get xs i ≡ Some x
    → slice_get xs j ≡ Some x → i ≡ j
one_place [] i j x d e f = cc
one_place (y ∷ xs) zero zero x d e f = refl
one_place (y ∷ xs) zero (suc j) x d e f =
    let m : is_among y xs ≡ true = subst (λ z. is_among z xs ≡ true) (sym (same_Some y x e))
    (stands_among xs j x f) in
    let z : true ≡ false = sym m ∙ d.0 in cc
one_place (y ∷ xs) (suc i) zero x d e f =
    let m : is_among y xs ≡ true = subst (λ z. is_among z xs ≡ true) (sym (same_Some y x f))
    (stands_among xs i x e) in
    let z : true ≡ false = sym m ∙ d.0 in cc
one_place (y ∷ xs) (suc i) (suc j) x d e f = ap suc (one_place xs i j x d.1 e f)

pub distinct_left : (xs ys : List ℕ) → Distinct (xs ++ ys) → Distinct xs
distinct_left [] ys d = tt
distinct_left (x ∷ xs) ys d = (none, distinct_left xs ys d.1)
  where
    none : is_among x xs ≡ false
    none = elim (two_ways (is_among x xs)) [
      | inr f ↦ f
      | inl t ↦ let z : true ≡ false = sym (among_left x xs ys t) ∙ d.0 in cc
    ]

pub distinct_right : (xs ys : List ℕ) → Distinct (xs ++ ys) → Distinct ys
distinct_right [] ys d = d
distinct_right (x ∷ xs) ys d = distinct_right xs ys d.1

distinct_variables : (qs : List Procedure) → Distinct (all_variables qs) → (f : ℕ) (q : Procedure)
    → slice_get qs f ≡ Some q → Distinct (variables q)
distinct_variables [] d f q e = cc
distinct_variables (r ∷ qs) d zero q e = subst (λ z. Distinct (variables z)) (same_Some r q e)
    (distinct_left (variables r) (all_variables qs) d)
distinct_variables (r ∷ qs) d (suc f) q e = distinct_variables qs
    (distinct_right (variables r) (all_variables qs) d) f q e

distinct_sites : (qs : List Procedure) → Distinct (all_sites qs) → (f : ℕ) (q : Procedure)
    → slice_get qs f ≡ Some q → Distinct (sites_of (calls_in q.body))
distinct_sites [] d f q e = cc
distinct_sites (r ∷ qs) d zero q e = subst (λ z. Distinct (sites_of (calls_in z.body)))
    (same_Some r q e) (distinct_left (sites_of (calls_in r.body)) (all_sites qs) d)
distinct_sites (r ∷ qs) d (suc f) q e = distinct_sites qs
    (distinct_right (sites_of (calls_in r.body)) (all_sites qs) d) f q e

-- where a variable is bound
found : (qs : List Procedure) (x : ℕ) → is_among x (all_variables qs) ≡ true → (f : ℕ)
    × ((q : Procedure) × ((slice_get qs f ≡ Some q) × (is_among x (variables q) ≡ true)))
found [] x m = cc
found (r ∷ qs) x m = elim (among_either x (variables r) (all_variables qs) m) [
  | inl here ↦ (0, (r, (refl, here)))
  | inr there ↦ let t = found qs x there in (suc t.0, (t.1.0, (t.1.1.0, t.1.1.1)))
]

-- a site of a call
site_found : (ks : List CallSite) (s : ℕ) → is_among s (sites_at ks) ≡ true → (i : ℕ)
    × ((k : CallSite) × ((slice_get ks i ≡ Some k) × (k.site ≡ s)))
site_found [] s m = cc
site_found (k ∷ ks) s m = elim (among_cases s k.site (sites_at ks) m) [
  | inl e ↦ (0, (k, (refl, sym e)))
  | inr there ↦ let t = site_found ks s there in (suc t.0, (t.1.0, t.1.1))
]

points_get : (ps : List AfterCall) (i : ℕ) (p : AfterCall) → slice_get ps i ≡ Some p
    → slice_get (sites_of (sites_of_points ps)) i ≡ Some p.site
points_get [] i p e = cc
points_get (r ∷ ps) zero p e = ap (λ z. Some z.site) (same_Some r p e)
points_get (r ∷ ps) (suc i) p e = points_get ps i p e

site_at : (ss : List Site) (k g : ℕ) → slice_get (callees ss) k ≡ Some g → (site : ℕ)
    × (slice_get ss k ≡ Some (site, g))
site_at [] k g e = cc
site_at (t ∷ ss) zero g e = let q : t.1 ≡ g = same_Some t.1 g e in (t.0, ap (λ y. Some (t.0, y)) q)
site_at (t ∷ ss) (suc k) g e = site_at ss k g e

callee_at : (ss : List Site) (k site g : ℕ) → slice_get ss k ≡ Some (site, g)
    → slice_get (callees ss) k ≡ Some g
callee_at [] k site g e = cc
callee_at (t ∷ ss) zero site g e = let q : t ≡ (site, g) = same_Some t (site, g) e
    in ap (λ y. Some y.1) q
callee_at (t ∷ ss) (suc k) site g e = callee_at ss k site g e

-- the numbers of places, 0 where there is no register
abbrev number_of : Spot → ℕ
number_of (Reg r) = r
number_of (Slot k) = 0
number_of Scratch = 0

abbrev numbers_of : (place : ℕ → Spot) → List ℕ → List ℕ
numbers_of place xs = map (λ x. number_of (place x)) xs

number_among : (place : ℕ → Spot) (xs : List ℕ) (y r : ℕ) → is_among y xs ≡ true → place y ≡ Reg r
    → is_among r (numbers_of place xs) ≡ true
number_among place [] y r m e = cc
number_among place (x ∷ xs) y r m e = elim (among_cases y x xs m) [
  | inl same ↦ among_first r (number_of (place x)) (numbers_of place xs)
      (sym (ap (λ z. number_of (place z)) (sym same) ∙ ap number_of e))
  | inr there ↦ among_later r (number_of (place x)) (numbers_of place xs)
      (number_among place xs y r there e)
]

from_to_ascends : (k n : ℕ) → Ascending (numbers_from k n)
from_to_ascends k zero = tt
from_to_ascends k (suc zero) = tt
from_to_ascends k (suc (suc n)) = (omega arith, from_to_ascends (suc k) (suc n))

from_to_within : (k n r : ℕ) → is_among r (numbers_from k n) ≡ true → (k ≤ r) × (r < k + n)
from_to_within k zero r m = cc
from_to_within k (suc n) r m = elim (among_cases r k (numbers_from (suc k) n) m) [
  | inl e ↦ (omega (arith, e), omega (arith, e))
  | inr there ↦ let h = from_to_within (suc k) n r there in let lo = h.0 in let hi = h.1
      in (omega (arith, lo), omega (arith, hi))
]

module _ (p : Program) (a : Assignment) (ws : List Registers) (gs : List Given) (ms : List ℕ)
    (cs : List (List ℕ)) (g : GathersProcedures p.procs ws gs ms cs) (formed : Formed p)
    (few_parameters : HaveFewParameters p.procs) (few_results : HaveFewResults p.procs)
    (spots : AreSpots gs a.spots) (many : length a.masks ≡ length ms)
    (least : AreLeastMasks ms cs a.masks)
    (holds : SavesMatchCalls a.masks (calls_of_walks ws) a.saves)
    (frames : a.frames ≡ frames_of a.saves ws) where
  place : ℕ → Spot
  place = place_of a

  at : (f : ℕ) (q : Procedure) → slice_get p.procs f ≡ Some q → At ws gs ms cs f q
  at f q e = gathered_at p.procs ws gs ms cs g f q e

  -- ---- places

  distinct : Distinct (variables_of gs)
  distinct = subst Distinct (sym (variables_gathered p.procs ws gs ms cs g)) formed.variables_once

  spot_at : (j : ℕ) (h : Given) → slice_get gs j ≡ Some h → place_of a h.variable ≡ h.spot
  spot_at j h e = get_or_from_slice_get a.spots h.variable h.spot Scratch (spots distinct j h e)

  agrees : (f : ℕ) (q : Procedure) (e : slice_get p.procs f ≡ Some q)
      → PlacesAgree (place_of a) (at f q e).walk.given.items
  agrees f q e k h there = let j = (at f q e).given_in k h there in spot_at j.0 h j.1

  -- the place that a variable of a procedure has got
  given_to : (f : ℕ) (q : Procedure) (e : slice_get p.procs f ≡ Some q) (x : ℕ)
      → is_among x (variables q) ≡ true
      → (k : ℕ) ×
      ((h : Given) ×
      ((slice_get (at f q e).walk.given.items k ≡ Some h)
      × ((h.variable ≡ x) × (place_of a x ≡ h.spot))))
  given_to f q e x m =
      let t = at f q e in
      let r = given_place t.walk.given.items x
      (subst (λ l. is_among x l ≡ true) (sym t.is.walked.variables) m) in (
        r.0,
        (
          r.1.0,
          (r.1.1.0, (r.1.1.1, ap (place_of a) (sym r.1.1.1) ∙ agrees f q e r.0 r.1.0 r.1.1.0)),
        ),
      )

  is_place : (f : ℕ) (q : Procedure) → slice_get p.procs f ≡ Some q → (x : ℕ)
      → is_among x (variables q) ≡ true → IsPlace (place_of a x)
  is_place f q e x m =
      let t = at f q e in
      let r = given_to f q e x m in
      subst IsPlace (sym r.1.1.1.1)
      (numbered_place t.walk.given.items t.walk.slots t.is.walked.numbered r.0 r.1.0 r.1.1.0)

  all_placed : (f : ℕ) (q : Procedure) (e : slice_get p.procs f ≡ Some q) (k : ℕ) (h : Given)
      → slice_get (at f q e).walk.given.items k ≡ Some h → IsPlace h.spot
  all_placed f q e k h there = let t = at f q e in numbered_place t.walk.given.items t.walk.slots
      t.is.walked.numbered k h there

  none_is_later : (f : ℕ) (q : Procedure) → slice_get p.procs f ≡ Some q
      → NoBoundIsUsedLater q.params q.body []
  none_is_later f q e =
      none_later (length p.globals) q.params q.body []
      (scoped_at (length p.globals) p.procs f q formed.scoped e) (λ x m. refl)
      (λ x. let o = once (variables q) (distinct_variables p.procs formed.variables_once f q e) x
      in let s = times_append x q.params (binds q.body) in omega (arith, o, s))

  good : (f : ℕ) (q : Procedure) → slice_get p.procs f ≡ Some q
      → EachBindingOf (Good (place_of a)) q
  good f q e = (at f q e).is.walked.each (place_of a) (agrees f q e) (none_is_later f q e)

  notes : (f : ℕ) (q : Procedure) (e : slice_get p.procs f ≡ Some q)
      → RecordsAllLive (place_of a) (at f q e).walk.calls.items (points q.params q.body [])
  notes f q e = (at f q e).is.walked.notes (place_of a) (agrees f q e) (none_is_later f q e)

  calls_are : (f : ℕ) (q : Procedure) (e : slice_get p.procs f ≡ Some q)
      → calls_of (at f q e).walk.calls.items ≡ calls_in q.body
  calls_are f q e = noted (place_of a) (at f q e).walk.calls.items (points q.params q.body [])
      (notes f q e) ∙ points_calls q.params q.body []

  -- ---- masks

  bit_of : (f r : ℕ) → may_change a f r ≡ true → bit_at (mask_of a f) r ≡ 1
  bit_of f r h = grind (arith, nat_tests)

  of_bit : (f r : ℕ) → bit_at (mask_of a f) r ≡ 1 → may_change a f r ≡ true
  of_bit f r h = grind (arith, nat_tests)

  own_bit : (f r : ℕ) → bit_at (slice_index_or ms f 0) r ≡ 1 → (q : Procedure)
      × ((slice_get p.procs f ≡ Some q) × Assigned (place_of a) q r)
  own_bit f r h = elim (there_or_not ms f 0) [
    | inl t ↦
        let q = procedure_of_own p.procs ws gs ms cs g f t.0 t.1.0 in (
          q.0,
          (
            q.1,
            go q.0 q.1
                (subst (λ m. bit_at m r ≡ 1)
                (t.1.1 ∙ same_Some t.0 (at f q.0 q.1).own (sym t.1.0 ∙ (at f q.0 q.1).own_at)) h),
          ),
        )
    | inr e ↦
        let z : bit_at 0 r ≡ 1 = subst (λ m. bit_at m r ≡ 1) e h in
        let y : bit_at 0 r ≡ 0 = bit_at-zero r in
        absurd (omega (arith, z, y))
  ]
    where
      go : (q : Procedure) (e : slice_get p.procs f ≡ Some q) → bit_at (at f q e).own r ≡ 1
          → Assigned (place_of a) q r
      go q e bit = elim (((at f q e).is.own_is (all_placed f q e) r).0 bit) [
        | inl m ↦ let b = result_bit q.results r (few_results f q e) m in result b.0 b.1
        | inr k ↦
            let h = k.1.0 in
            variable h.variable
            (subst (λ l. is_among h.variable l ≡ true) (at f q e).is.walked.variables
            (given_among (at f q e).walk.given.items k.0 h k.1.1.0))
            (agrees f q e k.0 h k.1.1.0 ∙ k.1.1.1)
      ]

  bit_own : (f r : ℕ) (q : Procedure) → slice_get p.procs f ≡ Some q → Assigned (place_of a) q r
      → bit_at (slice_index_or ms f 0) r ≡ 1
  bit_own f r q e s =
      let t = at f q e in
      subst (λ m. bit_at m r ≡ 1) (sym (get_or_from_slice_get ms f t.own 0 t.own_at))
      ((t.is.own_is (all_placed f q e) r).1 (go s))
    where
      go : Assigned (place_of a) q r → (bit_at (result_mask q.results) r ≡ 1)
          ⊎ ((k : ℕ) ×
          ((h : Given) × ((slice_get (at f q e).walk.given.items k ≡ Some h) × (h.spot ≡ Reg r))))
      go (result lo hi) = inl (bit_result q.results r (few_results f q e) lo hi)
      go (variable x m is) = let h = given_to f q e x m
          in inr (h.0, (h.1.0, (h.1.1.0, sym h.1.1.1.1 ∙ is)))

  assigned_small : (f r : ℕ) (q : Procedure) → slice_get p.procs f ≡ Some q
      → Assigned (place_of a) q r → (8 ≤ r) × (r < 32)
  assigned_small f r q e (result lo hi) = let few = few_results f q e
      in (omega (arith, lo), omega (arith, hi, few))
  assigned_small f r q e (variable x m is) = subst IsPlace is (is_place f q e x m)

  reached : (f r : ℕ) → MayChangeRegister ms cs f r → (8 ≤ r) × (r < 32)
  reached _ _ (its_own f r h) = let b = own_bit f r h in assigned_small f r b.0 b.1.0 b.1.1
  reached _ _ (reach.called f h k r hs c e rest) = reached h r rest

  called_are : (f : ℕ) (q : Procedure) (e : slice_get p.procs f ≡ Some q)
      → (at f q e).called ≡ callees (calls_in q.body)
  called_are f q e = (at f q e).is.called_is ∙ procs_are (at f q e).walk.calls.items ∙ ap callees
      (calls_are f q e)

  to_written : (f r : ℕ) → MayChangeRegister ms cs f r → Written (place_of a) p f r
  to_written _ _ (its_own f r h) = let b = own_bit f r h in assigned f r b.0 b.1.0 b.1.1
  to_written _ _ (reach.called f h k r hs c e rest) =
      let q = procedure_of_called p.procs ws gs ms cs g f hs c in
      let t = at f q.0 q.1 in
      let same : hs ≡ callees (calls_in q.0.body) = same_Some hs t.called (sym c ∙ t.called_at) ∙
      called_are f q.0 q.1 in
      let s = site_at (calls_in q.0.body) k h (subst (λ l. slice_get l k ≡ Some h) same e) in
      called f h s.0 r q.0 q.1 k s.1 (to_written h r rest)

  of_written : (f r : ℕ) → Written (place_of a) p f r → MayChangeRegister ms cs f r
  of_written _ _ (assigned f r q e s) = its_own f r (bit_own f r q e s)
  of_written _ _ (called f h site r q e k c rest) =
      let t = at f q e in
      reach.called f h k r (callees (calls_in q.body)) (t.called_at ∙ ap Some (called_are f q e))
      (callee_at (calls_in q.body) k site h c) (of_written h r rest)

  -- ---- saved registers

  walk_sites : (f : ℕ) (q : Procedure) (w : Registers) → slice_get p.procs f ≡ Some q
      → slice_get ws f ≡ Some w → sites_at w.calls.items ≡ sites_of (calls_in q.body)
  walk_sites f q w e there =
      let t = at f q e in
      let same : t.walk ≡ w = same_Some t.walk w (sym t.walk_at ∙ there) in
      subst (λ z. sites_at z.calls.items ≡ sites_of (calls_in q.body)) same
      (sites_are t.walk.calls.items ∙ ap sites_of (calls_are f q e))

  sites_once : Distinct (sites_at (calls_of_walks ws))
  sites_once = subst Distinct (sym (sites_gathered p.procs ws gs ms cs g walk_sites))
      formed.sites_once

  -- the list of a call's site
  saved_list : (f : ℕ) (q : Procedure) (e : slice_get p.procs f ≡ Some q) (i : ℕ) (k : CallSite)
      → slice_get (at f q e).walk.calls.items i ≡ Some k
      → Ascending (saves_at a k.site) ×
      ((r : ℕ) → (is_among r (saves_at a k.site) ≡ true) ↔
      ((is_among r k.live ≡ true) × (bit_at (mask_at a.masks k.proc) r ≡ 1)))
  saved_list f q e i k there =
      let j = (at f q e).calls_in_all i k there in
      let s = holds.each sites_once j.0 k j.1 in
      let n = note_at (place_of a) (at f q e).walk.calls.items (points q.params q.body []) i k
      (notes f q e) there in
      let same : saves_at a k.site ≡ s.0 = get_or_from_slice_get a.saves k.site s.0 [] s.1.0 in
      subst (λ l. Ascending l ×
      ((r : ℕ) → (is_among r l ≡ true) ↔
      ((is_among r k.live ≡ true) × (bit_at (mask_at a.masks k.proc) r ≡ 1)))) (sym same)
      (s.1.1 n.1.1.small n.1.1.ascending)

  ascends : (site : ℕ) → Ascending (saves_at a site)
  ascends site = elim (there_or_not a.saves site []) [
    | inr e ↦ subst Ascending (sym e) tt
    | inl t ↦
        elim (holds.only sites_once site t.0 t.1.0) [
          | inl empty ↦ subst Ascending (sym (t.1.1 ∙ empty)) tt
          | inr i ↦
              let w = walk_of_call p.procs ws gs ms cs g i.0 i.1.0 i.1.1.0 in
              let q = w.1.0 in
              let e = w.1.1.1.1.0 in
              let same : w.1.1.0 ≡ (at w.0 q e).walk
              = same_Some w.1.1.0 (at w.0 q e).walk (sym w.1.1.1.1.1.0 ∙ (at w.0 q e).walk_at)
              in
              let there = subst (λ z. slice_get z.calls.items w.1.1.1.0 ≡ Some i.1.0) same
              w.1.1.1.1.1.1 in
              subst (λ s. Ascending (saves_at a s)) i.1.1.1
              (saved_list w.0 q e w.1.1.1.0 i.1.0 there).0
        ]
  ]

  saved : (f k site to r : ℕ) (q : Procedure) → slice_get p.procs f ≡ Some q
      → slice_get (calls_in q.body) k ≡ Some (site, to)
      → (is_among r (saves_at a site) ≡ true) ↔ IsSaved a q site to r
  saved f k site to r q e c =
      let t = at f q e in
      let call = call_at t.walk.calls.items k (site, to)
      (subst (λ l. slice_get l k ≡ Some (site, to)) (sym (calls_are f q e)) c) in
      let kk = call.0 in
      let n = note_at (place_of a) t.walk.calls.items (points q.params q.body []) k kk (notes f q e)
      call.1.0 in
      let pt = n.0 in
      let s = (saved_list f q e k kk call.1.0).1 r in (
        λ m.
            let h = s.0 (subst (λ z. is_among r (saves_at a z) ≡ true) (sym call.1.1.0) m) in
            let y = (n.1.1.live r).0 h.0 in (
              y.0,
              (
                from_point site q.params q.body [] y.0
                    (record {
                      place = k;
                      point = pt;
                      there = n.1.0;
                      site_is
                          = sym n.1.1.site ∙ call.1.1.0;
                      live = y.1.0;
                    }),
                (y.1.1, of_bit to r (subst (λ z. bit_at (mask_at a.masks z) r ≡ 1) call.1.1.1 h.1)),
              ),
            ),
        λ x.
            let l = to_point site q.params q.body [] x.0 x.1.0 in
            let here : slice_get (sites_of (calls_in q.body)) k ≡ Some site =
            subst (λ ss. slice_get (sites_of ss) k ≡ Some site) (points_calls q.params q.body [])
            (points_get (points q.params q.body []) k pt n.1.0 ∙ ap Some
            (sym n.1.1.site ∙ call.1.1.0)) in
            let there : slice_get (sites_of (calls_in q.body)) l.place ≡ Some site =
            subst (λ ss. slice_get (sites_of ss) l.place ≡ Some site)
            (points_calls q.params q.body [])
            (points_get (points q.params q.body []) l.place l.point l.there ∙ ap Some l.site_is)
            in
            let same : l.place ≡ k = one_place (sites_of (calls_in q.body)) l.place k site
            (distinct_sites p.procs formed.sites_once f q e) there here in
            let point : l.point ≡ pt = same_Some l.point pt
            (sym l.there ∙ ap (slice_get (points q.params q.body [])) same ∙ n.1.0) in
            let live = (n.1.1.live r).1
            (x.0, (subst (λ z. IsLive z.scope z.rest z.later x.0) point l.live, x.1.1.0)) in
            let bit = subst (λ z. bit_at (mask_at a.masks z) r ≡ 1) (sym call.1.1.1)
            (bit_of to r x.1.1.1) in
            subst (λ z. is_among r (saves_at a z) ≡ true) call.1.1.0 (s.1 (live, bit)),
      )

  -- ---- frames

  frame_at : (f : ℕ) (q : Procedure) (e : slice_get p.procs f ≡ Some q)
      → words_at a f ≡ 1 + (at f q e).walk.slots + longest_at a.saves (at f q e).walk.calls.items
  frame_at f q e =
      let t = at f q e in
      get_or_from_slice_get a.frames f (1 + t.walk.slots + longest_at a.saves t.walk.calls.items) 0
      (subst (λ fs. slice_get fs f ≡ Some
      (1 + t.walk.slots + longest_at a.saves t.walk.calls.items)) (sym frames)
      (map_get (λ w. 1 + w.slots + longest_at a.saves w.calls.items) ws f t.walk t.walk_at))

  longest_same : (f : ℕ) (q : Procedure) (e : slice_get p.procs f ≡ Some q)
      → longest_at a.saves (at f q e).walk.calls.items ≡ most_saved (saves_at a) (calls_in q.body)
  longest_same f q e = longest_is a.saves (at f q e).walk.calls.items ∙ ap (most_saved (saves_at a))
      (calls_are f q e)

  slots_same : (f : ℕ) (q : Procedure) (e : slice_get p.procs f ≡ Some q)
      → slots_of (place_of a) (variables q) ≡ (at f q e).walk.slots
  slots_same f q e =
      let t = at f q e in
      ap (slots_of (place_of a)) (sym t.is.walked.variables) ∙ numbered_slots (place_of a)
      t.walk.given.items t.walk.slots t.is.walked.numbered (agrees f q e)

  framed : (f : ℕ) (q : Procedure) → slice_get p.procs f ≡ Some q
      → words_at a f ≡ words_of_frame a q
  framed f q e = let w = frame_at f q e in let l = longest_same f q e in let s = slots_same f q e
      in omega (arith, w, l, s)

  -- a list of saved registers has no more than there are variables in registers
  saved_few : (f : ℕ) (q : Procedure) (e : slice_get p.procs f ≡ Some q) (i : ℕ) (k : CallSite)
      → slice_get (at f q e).walk.calls.items i ≡ Some k
      → length (saves_at a k.site) ≤ length (registers_of (at f q e).walk.given.items)
  saved_few f q e i k there =
      let s = saved_list f q e i k there in
      no_more (saves_at a k.site) (registers_of (at f q e).walk.given.items) s.0
      (λ r m. one r ((s.1 r).0 m).0)
    where
      n : (pt : AfterCall) ×
          ((slice_get (points q.params q.body []) i ≡ Some pt)
          × RecordsLiveRegisters (place_of a) k pt)
      n = note_at (place_of a) (at f q e).walk.calls.items (points q.params q.body []) i k
          (notes f q e) there

      one : (r : ℕ) → is_among r k.live ≡ true → is_among r
          (registers_of (at f q e).walk.given.items) ≡ true
      one r m =
          let y = (n.1.1.live r).0 m in
          let l = from_point n.0.site q.params q.body [] y.0
          (record { place = i; point = n.0; there = n.1.0; site_is = refl; live = y.1.0 }) in
          let h = given_to f q e y.0 (live_is_bound n.0.site q.params q.body [] y.0 l) in
          register_among (at f q e).walk.given.items h.0 h.1.0 r h.1.1.0 (sym h.1.1.1.1 ∙ y.1.1)

  longest_few : (saves : List (List ℕ)) (ks : List CallSite) (n : ℕ)
      → ((i : ℕ) (k : CallSite) → slice_get ks i ≡ Some k
      → length (slice_index_or saves k.site []) ≤ n) → longest_at saves ks ≤ n
  longest_few saves [] n h = omega arith
  longest_few saves (k ∷ ks) n h = let here = h 0 k refl in let rest
      = longest_few saves ks n (λ i j e. h (suc i) j e) in omega (arith, here, rest)

  dense : (f : ℕ) (q : Procedure) → slice_get p.procs f ≡ Some q
      → words_at a f ≤ 1 + length (variables q)
  dense f q e =
      let t = at f q e in
      let w = frame_at f q e in
      let l = longest_few a.saves t.walk.calls.items (length (registers_of t.walk.given.items))
      (λ i k there. saved_few f q e i k there) in
      let n = numbered_many t.walk.given.items t.walk.slots t.is.walked.numbered in
      let v : length (variables_of t.walk.given.items) ≡ length (variables q)
      = ap length t.is.walked.variables in
      omega (arith, w, l, n, v)

  -- ---- parameters

  parameters : ParametersInRegisters p a
  parameters f x q e m = go (place_of a x) refl
      (is_place f q e x (among_left x q.params (binds q.body) m))
    where
      full : IsSlot (place_of a x) → ⊥
      full spot =
          let few = few_parameters f q e in
          let n = no_more (numbers_from 8 24) (numbers_of (place_of a) q.params)
          (from_to_ascends 8 24) (λ r h. one r (from_to_within 8 24 r h)) in
          let c : length (numbers_of (place_of a) q.params) ≡ length q.params
          = length_map (λ y. number_of (place_of a y)) q.params in
          let d : length (numbers_from 8 24) ≡ 24 = length_numbers 8 24 in
          omega (arith, few, n, c, d)
        where
          one : (r : ℕ) → (8 ≤ r) × (r < 8 + 24) → is_among r (numbers_of (place_of a) q.params) ≡
              true
          one r b =
              let h = (good f q e).0.1 x m spot r b.0 b.1 in
              elim h.1 [
                | inl here ↦ number_among (place_of a) q.params h.0 r here h.2
                | inr live ↦ let z : false ≡ true = live.0 in cc
              ]

      go : (s : Spot) → place_of a x ≡ s → IsPlace (place_of a x) → IsRegister (place_of a x)
      go (Reg r) is h = subst IsRegister (sym is) tt
      go (Slot k) is h = absurd (full (subst IsSlot (sym is) tt))
      go Scratch is h = absurd (subst IsPlace is h)

  -- ---- all of it

  pub all_fit : Fits p a
  all_fit = record {
    covers = record {
      variables = λ x m.
          let w = found p.procs x m in
          let r = given_to w.0 w.1.0 w.1.1.0 x w.1.1.1 in
          let j = (at w.0 w.1.0 w.1.1.0).given_in r.0 r.1.0 r.1.1.0 in
          slice_get_within a.spots x r.1.0.spot
          (subst (λ z. slice_get a.spots z ≡ Some r.1.0.spot) r.1.1.1.0
          (spots distinct j.0 r.1.0 j.1));
      masks = many ∙ (lengths_gathered p.procs ws gs ms cs g).0;
      frames = ap length frames ∙ length_map (λ w. 1 + w.slots + longest_at a.saves w.calls.items)
          ws ∙ (lengths_gathered p.procs ws gs ms cs g).1;
      sites = λ s m.
          let i = site_found (calls_of_walks ws) s
          (subst (λ l. is_among s l ≡ true)
          (sym (sites_gathered p.procs ws gs ms cs g walk_sites)) m) in
          let h = holds.each sites_once i.0 i.1.0 i.1.1.0 in
          slice_get_within a.saves s h.0
          (subst (λ z. slice_get a.saves z ≡ Some h.0) i.1.1.1 h.1.0);
    };
    places = λ x m. let w = found p.procs x m in is_place w.0 w.1.0 w.1.1.0 x w.1.1.1;
    apart = λ f q e. let h = good f q e in (
      h.0.0,
      each_weaker (Good (place_of a)) (Apart (place_of a)) (λ _ _ _ _ both. both.0)
          q.params q.body [] h.1,
    );
    changed = λ f r h. reached f r ((least f r).0 (bit_of f r h));
    written = λ f r l. (
      λ h. to_written f r ((least f r).0 (bit_of f r h)),
      λ h. of_bit f r ((least f r).1 (of_written f r h)),
    );
    saved = λ f k site to r q e c. saved f k site to r q e c;
    ascending = ascends;
    frames = framed;
    dense = dense;
    parameters = inr parameters;
  }

  pub all_used : UsesRegisters p a
  all_used = record {
    full = λ f q e. let h = good f q e in (
      h.0.1,
      each_weaker (Good (place_of a)) (Full (place_of a)) (λ _ _ _ _ both. both.1)
          q.params q.body [] h.1,
    );
    parameters = parameters;
  }
