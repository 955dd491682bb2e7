-- When a fault may be answered.
use Rattle.std.specs.Prelude.{ℕ, ◌+◌, ◌-◌, ◌^◌, ◌≤◌, min, OnErr, Result}

-- the count rose during the call; at the largest u64 it can't, and standing there is enough
abbrev pub CountGrew : ℕ → ℕ → Type 0
CountGrew before now = min (before + 1) (2 ^ 64 - 1) ≤ now

-- a count never falls, and a fault is answered only where it rose
pub record FaultsAreCounted {T E : Type 0} (before now : ℕ) (result : Result T E) : Type 0 where
  pub later : before ≤ now
  pub failed : OnErr result (CountGrew before now)
