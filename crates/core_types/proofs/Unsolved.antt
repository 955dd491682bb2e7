-- What the equations between terms say of the constraints that they stand for.
use Rattle.std.proofs.Common.{◌≡◌, ℕ, zero, suc, ◌<◌, List, [], ◌∷◌, length, refl, sym, ap, subst, ◌∙◌, arith, Option, Some, None}
use Rattle.std.specs.Prelude.{MatchOption, slice_get}
use Rattle.seq.specs.Lists.{here, there}
use Rattle.seq.proofs.Lists.{none_is_some}
use Rattle.unification.specs.Terms.{AreEarlier, PairsAreBelow, equations}
use Rattle.unification.specs.Solutions as equal
use Rattle.core_types.specs.declared.nodes.Nodes.{Nodes}
use Rattle.core_types.specs.declared.building.ConstraintBuilder.{ConstraintBuilder}
use Rattle.core_types.specs.Typing.{Constraint, Substitution, Solves, IsFirstUnsolved}
use Rattle.core_types.specs.Nodes.{IsSound, PairsDenote}
use Rattle.core_types.specs.Building.{Stands, IsFirstIn, places_of}
use Rattle.core_types.proofs.Denoting.{denotes_below}
use Rattle.core_types.proofs.Solving.{types_solve, first_is, first_there}

none_below : (n : ℕ) → PairsAreBelow n []
none_below n p h = elim h [ ]

one_below : (n : ℕ) (p : ℕ × ℕ) (ps : List (ℕ × ℕ)) → (p.0 < n) × (p.1 < n) → PairsAreBelow n ps
    → PairsAreBelow n (p ∷ ps)
one_below n p ps l rest q here = l
one_below n p ps l rest q (there h) = rest q h

all_below : (n : Nodes) (cs : List Constraint) (ps : List (ℕ × ℕ)) → PairsDenote n cs ps
    → PairsAreBelow (length n.terms.items) ps
all_below n [] ps s = subst (PairsAreBelow (length n.terms.items)) (sym s)
    (none_below (length n.terms.items))
all_below n (c ∷ cs) ps s = subst (PairsAreBelow (length n.terms.items)) (sym s.2)
    (one_below (length n.terms.items) s.0 s.1
    (denotes_below n c.left s.0.0 s.3, denotes_below n c.right s.0.1 s.4)
    (all_below n cs s.1 s.5))

place_at : (cs : List Constraint) (i : ℕ) (c : Constraint) → slice_get cs i ≡ Some c
    → slice_get (places_of cs) i ≡ Some c.at
place_at [] i c e = absurd cc
place_at (d ∷ cs) zero c e = ap
    (λ (o : Option Constraint). elim o [ Some c ↦ Some c.at | None ↦ None ]) e
place_at (d ∷ cs) (suc i) c e = place_at cs i c e

-- ---- what unification asks for

pub pairs_earlier : (b : ConstraintBuilder) → IsSound b.nodes → AreEarlier b.nodes.terms.items
pairs_earlier b h = h.earlier

pub pairs_below : (b : ConstraintBuilder) (cs : List Constraint) → Stands b cs
    → PairsAreBelow (length b.nodes.terms.items) b.pairs.items
pairs_below b cs s = all_below b.nodes cs b.pairs.items s.pairs

-- ---- what it answers

all_solved : (b : ConstraintBuilder) (cs : List Constraint) → IsSound b.nodes → Stands b cs
    → (σ : equal.Substitution) × equal.Solves σ (equations b.nodes.terms.items b.pairs.items)
    → (σ : Substitution) × Solves σ cs
all_solved b cs h s u = (_, types_solve b.nodes h cs b.pairs.items s.pairs u.0 u.1)

one_unsolved : (b : ConstraintBuilder) (cs : List Constraint) → IsSound b.nodes → Stands b cs
    → (i : ℕ) → equal.IsFirstUnsolved (equations b.nodes.terms.items b.pairs.items) i
    → (c : Constraint) × IsFirstUnsolved cs i c × (slice_get b.places.items i ≡ Some c.at)
one_unsolved b cs h s i u = go (slice_get cs i) refl
  where
    go : (o : Option Constraint) → slice_get cs i ≡ o → (c : Constraint) × IsFirstUnsolved cs i c
        × (slice_get b.places.items i ≡ Some c.at)
    go None e = absurd (first_there b.nodes h cs b.pairs.items s.pairs i e u)
    go (Some c) e = (
      c,
      first_is b.nodes h cs b.pairs.items s.pairs i c e u,
      ap (λ ps. slice_get ps i) (sym s.places) ∙ place_at cs i c e,
    )

pub first_in : (b : ConstraintBuilder) (cs : List Constraint) → IsSound b.nodes → Stands b cs
    → (o : Option ℕ)
    → MatchOption o
    ((σ : equal.Substitution) × equal.Solves σ (equations b.nodes.terms.items b.pairs.items))
    (equal.IsFirstUnsolved (equations b.nodes.terms.items b.pairs.items))
    → IsFirstIn b cs o
first_in b cs h s None u = all_solved b cs h s u
first_in b cs h s (Some i) u = one_unsolved b cs h s i u

-- ---- the pair of a constraint

pub pair_there : (n : Nodes) (cs : List Constraint) (ps : List (ℕ × ℕ)) (i : ℕ) (c : Constraint)
    → PairsDenote n cs ps → slice_get cs i ≡ Some c → i < length ps
pair_there n [] ps i c s e = none_is_some e
pair_there n (d ∷ cs) ps zero c s e = let l = ap length s.2 in omega (arith, l)
pair_there n (d ∷ cs) ps (suc i) c s e = let l = ap length s.2 in let m
    = pair_there n cs s.1 i c s.5 e in omega (arith, l, m)
