-- The fields of a node that wait for a case: their places rise, and none is a place that is fetched
-- directly after the tag.
use Rattle.std.proofs.Common.{◌≡◌, ℕ, suc, ◌<◌, ◌≤◌, Bool, true, false, cond, nat_eq, List, [], ◌∷◌, refl, ap, ◌∙◌, arith}
use Rattle.seq.proofs.Order.{eq_false}
use Rattle.grin_syntax.specs.declared.program.VarId.{VarId}
use Rattle.grin_syntax.specs.declared.program.Word as W
use Rattle.grin_syntax.specs.declared.program.Val as V
use Rattle.grin_syntax.specs.declared.program.Target.TheVariants as to
use Rattle.grin_syntax.specs.Tree.{Code}
use Rattle.grin_syntax.specs.Formed.{AllOf}
use Rattle.fetch_passes.specs.Windows.{outside}
use Rattle.fetch_passes.specs.Names.{DeferredField}
use Rattle.fetch_passes.specs.Waits.{deferred_fields_of}
use Rattle.seq.specs.Lists.{times}
use Rattle.seq.proofs.Counted.{counts}

-- ---- places
-- the places of these words are i or more, each larger than the one before
abbrev pub Rising : ℕ → List DeferredField → Type 0
Rising i [] = Unit {0}
Rising i (p ∷ ps) = (i ≤ p.place) × Rising (suc p.place) ps

pub rising_from : (i j : ℕ) (ps : List DeferredField) → i ≤ j → Rising j ps → Rising i ps
rising_from i j [] le h = tt
rising_from i j (p ∷ ps) le h = (omega (arith, le, h.0), h.1)

pub waits_rise : (t : ℕ) (b : Code) (i : ℕ) (xs : List VarId)
    → Rising i (deferred_fields_of t b i xs)
waits_rise t b i [] = tt
waits_rise t b i (x ∷ xs) = go (outside t x.0 b) (waits_rise t b (suc i) xs)
  where
    go : (o : Bool) → Rising (suc i) (deferred_fields_of t b (suc i) xs)
        → Rising i
        (cond o (deferred_fields_of t b (suc i) xs)
        (record { var = x; place = i } ∷ deferred_fields_of t b (suc i) xs))
    go true h = rising_from i (suc i) (deferred_fields_of t b (suc i) xs) (omega arith) h
    go false h = (omega arith, h)

-- none of these words is one of those
abbrev pub Apart : List ℕ → List DeferredField → Type 0
Apart is = AllOf (λ p. times p.place is ≡ 0)

pub other_place : (i j : ℕ) → i < j → counts (nat_eq j i) ≡ 0
other_place i j lt = ap counts (eq_false j i (λ q. omega (arith, q, lt)))

pub apart_more : (i : ℕ) (is : List ℕ) (ps : List DeferredField) → Rising (suc i) ps → Apart is ps
    → Apart (i ∷ is) ps
apart_more i is [] r h = tt
apart_more i is (p ∷ ps) r h = (
  let c : counts (nat_eq p.place i) ≡ 0 = other_place i p.place (omega (arith, r.0)) in let k
      : times p.place is ≡ 0 = h.0 in omega (arith, c, k),
  apart_more i is ps (rising_from (suc i) (suc p.place) ps (omega (arith, r.0)) r.1) h.1,
)

-- the words of a node that are fetched directly after its tag, beside these
abbrev pub kept : (t : ℕ) → Code → ℕ → List VarId → List ℕ → List ℕ
kept t b i [] is = is
kept t b i (x ∷ xs) is = kept t b (suc i) xs (cond (outside t x.0 b) (i ∷ is) is)

pub kept_before : (t : ℕ) (b : Code) (i : ℕ) (xs : List VarId) (is : List ℕ) (j : ℕ) → j < i
    → times j (kept t b i xs is) ≡ times j is
kept_before t b i [] is j lt = refl
kept_before t b i (x ∷ xs) is j lt = kept_before t b (suc i) xs (cond (outside t x.0 b) (i ∷ is) is)
    j (omega (arith, lt)) ∙ go (outside t x.0 b)
  where
    go : (o : Bool) → times j (cond o (i ∷ is) is) ≡ times j is
    go true = let c : counts (nat_eq j i) ≡ 0 = ap counts (eq_false j i (λ q. omega (arith, q, lt)))
        in omega (arith, c)
    go false = refl

pub waits_apart : (t : ℕ) (b : Code) (i : ℕ) (xs : List VarId) (is : List ℕ)
    → ((j : ℕ) → i ≤ j → times j is ≡ 0) → Apart (kept t b i xs is) (deferred_fields_of t b i xs)
waits_apart t b i [] is f = tt
waits_apart t b i (x ∷ xs) is f = go (outside t x.0 b) (λ js h. waits_apart t b (suc i) xs js h)
  where
    more : (j : ℕ) → suc i ≤ j → times j (i ∷ is) ≡ 0
    more j le = let c : counts (nat_eq j i) ≡ 0 = other_place i j (omega (arith, le)) in let k
        : times j is ≡ 0 = f j (omega (arith, le)) in omega (arith, c, k)

    go : (o : Bool) →
        ((js : List ℕ) → ((j : ℕ) → suc i ≤ j → times j js ≡ 0)
        → Apart (kept t b (suc i) xs js) (deferred_fields_of t b (suc i) xs))
        → Apart (kept t b (suc i) xs (cond o (i ∷ is) is))
        (cond o (deferred_fields_of t b (suc i) xs)
        (record { var = x; place = i } ∷ deferred_fields_of t b (suc i) xs))
    go true k = k (i ∷ is) more
    go false k = (
      kept_before t b (suc i) xs is i (omega arith) ∙ f i (omega arith),
      k is (λ j le. f j (omega (arith, le))),
    )
