-- Finite terms, and what is put for their variables.
use Rattle.std.specs.Prelude.{ℕ, List, [], ◌∷◌}
use Rattle.unification.specs.declared.term.Symbol.{Symbol}

mutual
  -- a variable by its number, or a symbol with its arguments
  pub data Tree : Type 0 where
    Open : ℕ → Tree
    Made : Symbol → Trees → Tree

  pub data Trees : Type 0 where
    NoTrees : Trees
    AndTree : Tree → Trees → Trees

abbrev mutual
  -- what is had by putting trees for variables
  pub substituted : (ℕ → Tree) → Tree → Tree
  substituted σ (Open n) = σ n
  substituted σ (Made s ts) = Made s (all_substituted σ ts)

  pub all_substituted : (ℕ → Tree) → Trees → Trees
  all_substituted σ NoTrees = NoTrees
  all_substituted σ (AndTree t ts) = AndTree (substituted σ t) (all_substituted σ ts)

-- the trees at these places
abbrev pub trees : (ℕ → Tree) → List ℕ → Trees
trees v [] = NoTrees
trees v (x ∷ xs) = AndTree (v x) (trees v xs)
