-- Constraints have at most one first one without a solution, and none where they are solved.
use Rattle.std.proofs.Common.{◌≡◌, ℕ, zero, suc, ◌<◌, List, [], ◌∷◌, sym, ap, ◌∙◌, arith, Option, Some, None, inl, inr}
use Rattle.std.specs.Prelude.{take, slice_get}
use Rattle.seq.proofs.Order.{compared}
use Rattle.core_types.specs.Source.{Source}
use Rattle.core_types.specs.Typing.{Constraint, Substitution, Solves, IsFirstUnsolved, constraints}
use Rattle.core_types.specs.Found.{IsFirstMismatch}

front_solves : (σ : Substitution) (cs : List Constraint) (n : ℕ) → Solves σ cs
    → Solves σ (take n cs)
front_solves σ cs zero h = tt
front_solves σ [] (suc n) h = tt
front_solves σ (c ∷ cs) (suc n) h = (h.0, front_solves σ cs n h.1)

earlier_solves : (σ : Substitution) (cs : List Constraint) (i j : ℕ) → i < j → Solves σ (take j cs)
    → Solves σ (take (suc i) cs)
earlier_solves σ cs i zero l h = absurd (omega (arith, l))
earlier_solves σ [] i (suc j) l h = tt
earlier_solves σ (c ∷ cs) zero (suc j) l h = (h.0, tt)
earlier_solves σ (c ∷ cs) (suc i) (suc j) l h =
    (h.0, earlier_solves σ cs i j (omega (arith, l)) h.1)

module _ (cs : List Constraint) where
  not_earlier : (i j : ℕ) (c d : Constraint) → IsFirstUnsolved cs i c → IsFirstUnsolved cs j d
      → i < j → ⊥
  not_earlier i j c d g h l = g.none h.before (earlier_solves h.before cs i j l h.solves)

  one_number : (i j : ℕ) (c d : Constraint) → IsFirstUnsolved cs i c → IsFirstUnsolved cs j d
      → i ≡ j
  one_number i j c d g h = elim (compared i j) [
    | inl l ↦ absurd (not_earlier i j c d g h l)
    | inr m ↦ elim m [ inl e ↦ e | inr l ↦ absurd (not_earlier j i d c h g l) ]
  ]

  abbrev place_in : Option Constraint → ℕ
  place_in (Some c) = c.at
  place_in None = zero

  one_place : (i j : ℕ) (c d : Constraint) → IsFirstUnsolved cs i c → IsFirstUnsolved cs j d
      → c.at ≡ d.at
  one_place i j c d g h = ap place_in (sym g.is ∙ ap (slice_get cs) (one_number i j c d g h) ∙ h.is)

pub one_mismatch : (s : Source) (a b : ℕ) → IsFirstMismatch s (Some a) → IsFirstMismatch s (Some b)
    → a ≡ b
one_mismatch s a b g h = sym g.3 ∙ one_place (constraints s) g.0 h.0 g.1 h.1 g.2 h.2 ∙ h.3

pub no_mismatch : (s : Source) (at : ℕ) → IsFirstMismatch s None → IsFirstMismatch s (Some at) → ⊥
no_mismatch s at fits h = h.2.none fits.0 (front_solves fits.0 (constraints s) (suc h.0) fits.1)
