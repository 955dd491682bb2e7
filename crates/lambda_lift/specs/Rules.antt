-- The rules that a text with lambdas has to keep, and which broken rule is named.
use Rattle.std.specs.Prelude.{◌≡◌, ℕ, ◌+◌, ◌<◌, ◌≤◌, ◌⊎◌, List, length, Some, slice_get}
use Rattle.core_reader.specs.declared.dialect.Dialect.TheVariants.{Lambdas}
use Rattle.lambda_reader.specs.Tree.{Program}
use Rattle.core_reader.specs.TokensOf.{Piece, IsTokens}
use Rattle.lambda_reader.specs.Programs.{IsSourceText, IsFirstReadingFault, BreaksNoReadingRule}
use Rattle.lambda_reader.specs.Reserved.{IsReserved}
use Rattle.lambda_lift.specs.Free.{free}
use Rattle.lambda_lift.specs.Abstractions.{Abstraction, abstractions}

-- rule k is broken at a place of a text that keeps the rules 1 to 5
pub data Broken (text : List ℕ) : (k at : ℕ) → Type 0 where
  TooManyParameters : {c : Program} {a : Abstraction} (i : ℕ) → IsSourceText text c
      → slice_get (abstractions c) i ≡ Some a
      → 12 < length (free c a.scope a.params a.body) + length a.params → Broken text 61 a.at
  ReservedLift : {pieces : List Piece} {piece : Piece} (i : ℕ) → IsTokens Lambdas text pieces
      → slice_get pieces i ≡ Some piece → IsReserved piece.bytes → Broken text 62 piece.at

-- one is not after the other: the first place, and at one place the smaller number
abbrev pub IsBefore : (k at k' at' : ℕ) → Type 0
IsBefore k at k' at' = (at < at') ⊎ ((at ≡ at') × (k ≤ k'))

-- Rule k is broken at this place, and no rule is broken before it: what cannot be read comes first.
pub data IsFirstBroken (text : List ℕ) : (k at : ℕ) → Type 0 where
  Unread : {k at : ℕ} → IsFirstReadingFault text k at → IsFirstBroken text k at
  Unlifted : {k at : ℕ} → BreaksNoReadingRule text → Broken text k at
      → ((k' at' : ℕ) → Broken text k' at' → IsBefore k at k' at') → IsFirstBroken text k at

-- No rule is broken.
pub record IsUnbroken (text : List ℕ) : Type 0 where
  pub read : BreaksNoReadingRule text
  pub lifted : (k at : ℕ) → Broken text k at → ⊥

-- rule 61 is broken at a place of a tree
pub data IsTooBroad (c : Program) : (at : ℕ) → Type 0 where
  TooBroad : {a : Abstraction} (i : ℕ) → slice_get (abstractions c) i ≡ Some a
      → 12 < length (free c a.scope a.params a.body) + length a.params → IsTooBroad c a.at
