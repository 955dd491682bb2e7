-- Which programs are accepted, and which broken rule of the others is named.
use Rattle.std.specs.Prelude.{ℕ}
use Rattle.core_reader.specs.Tree as tree
use Rattle.core_reader.specs.Readable.{IsReadable}
use Rattle.arity_check.specs.Order.{Ranks, HasRank, IsBeforeIfRanked, all_ranked}
use Rattle.arity_check.specs.Broken.{Broken}
use Rattle.arity_check.specs.Normal.{IsNormalForm}
use Rattle.arity_check.specs.Program.{Program}

-- no rule is broken
abbrev pub BreaksNoRule : tree.Program → Type 0
BreaksNoRule p = (k at : ℕ) → Broken p k at → ⊥

-- no rule that counts is broken
abbrev pub BreaksNoRankedRule : Ranks → tree.Program → Type 0
BreaksNoRankedRule ranks p = (k at : ℕ) → Broken p k at → HasRank (ranks k at) → ⊥

-- rule k is broken at a place and counts, and no broken rule that counts comes before it
pub record IsFirstRankedFault (ranks : Ranks) (p : tree.Program) (k at : ℕ) : Type 0 where
  pub broken : Broken p k at
  pub counts : HasRank (ranks k at)
  pub first : (k' at' : ℕ) → Broken p k' at' → IsBeforeIfRanked (ranks k at) (ranks k' at')

-- rule k is broken at a place, and no broken rule comes before it
abbrev pub IsFirstBroken : tree.Program → (k at : ℕ) → Type 0
IsFirstBroken = IsFirstRankedFault all_ranked

-- the normal form of a program that reading could give and that breaks no rule
pub record IsValid (q : Program) : Type 0 where
  pub program : tree.Program
  pub readable : IsReadable program
  pub unbroken : BreaksNoRule program
  pub normal : IsNormalForm program q
