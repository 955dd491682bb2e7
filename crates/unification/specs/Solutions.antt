-- Solutions of equations between trees.
use Rattle.std.specs.Prelude.{◌≡◌, ℕ, suc, List, [], ◌∷◌, take}
use Rattle.unification.specs.Trees.{Tree, substituted}

-- what variables stand for
abbrev pub Substitution : Type 0
Substitution = ℕ → Tree

abbrev pub Solves : Substitution → List (Tree × Tree) → Type 0
Solves σ [] = Unit {0}
Solves σ (e ∷ es) = (substituted σ e.0 ≡ substituted σ e.1) × Solves σ es

-- Each other solution is had from this one.
pub record IsMostGeneral (σ : Substitution) (es : List (Tree × Tree)) : Type 0 where
  pub solves : Solves σ es
  pub general : (τ : Substitution) → Solves τ es
      → (ρ : Substitution) × ((n : ℕ) → τ n ≡ substituted ρ (σ n))

-- no substitution solves them
abbrev pub AreUnsolvable : List (Tree × Tree) → Type 0
AreUnsolvable es = (τ : Substitution) → Solves τ es → ⊥

-- The equation of this number is the first that has no solution with those before it.
pub record IsFirstUnsolved (es : List (Tree × Tree)) (i : ℕ) : Type 0 where
  pub before : Substitution
  pub solves : Solves before (take i es)
  pub none : AreUnsolvable (take (suc i) es)
