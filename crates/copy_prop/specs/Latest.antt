-- A table of latest uses.
use Rattle.std.specs.Prelude.{ℕ, ◌≡◌, nat_lt, List, drop, get_or}
use Rattle.seq.specs.Lists.{is_among}

-- entry x is the place after the latest x in a list, or 0 where there is none
pub record Latest (seen latest : List ℕ) : Type 0 where
  pub by : (x from : ℕ) → is_among x (drop from seen) ≡ nat_lt from (get_or latest x 0)
