-- The patterns of a case, and their kinds.
use Rattle.std.specs.Prelude.{◌≡◌, ℕ, zero, suc, ◌<◌, Option, Some, None}
use Rattle.core_reader.specs.declared.syntax.Pattern.{Pattern}
use Rattle.core_reader.specs.declared.syntax.Pattern.TheVariants as pattern
use Rattle.core_reader.specs.Tree.{Alts, NoAlts, AndAlt}

-- the pattern of alternative i
abbrev pub alt_at : Alts → ℕ → Option Pattern
alt_at NoAlts i = None
alt_at (AndAlt pat body rest) zero = Some pat
alt_at (AndAlt pat body rest) (suc i) = alt_at rest i

abbrev pub pattern_place : Pattern → ℕ
pattern_place (pattern.Con c fields) = c.at
pattern_place (pattern.Int k at) = at
pattern_place (pattern.Default x) = x.at

-- a constructor beside an integer
abbrev pub KindsDiffer : Pattern → Pattern → Type 0
KindsDiffer (pattern.Con c xs) (pattern.Int k at) = Unit {0}
KindsDiffer (pattern.Int k at) (pattern.Con c xs) = Unit {0}
KindsDiffer _ _ = ⊥

abbrev pub IsDefault : Pattern → Type 0
IsDefault (pattern.Con c xs) = ⊥
IsDefault (pattern.Int k at) = ⊥
IsDefault (pattern.Default x) = Unit {0}

-- pattern i is the first that is no default
pub record IsFirstNonDefault (alts : Alts) (i : ℕ) (q : Pattern) : Type 0 where
  pub here : alt_at alts i ≡ Some q
  pub plain : IsDefault q → ⊥
  pub before : (j : ℕ) (r : Pattern) → j < i → alt_at alts j ≡ Some r → IsDefault r
