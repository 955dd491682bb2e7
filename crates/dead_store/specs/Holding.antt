-- Sets of numbers, as they are kept by their numbers in order.
use Rattle.std.specs.Prelude.{ℕ, Bool, List}
use Rattle.std.specs.BTreeMap.{is_at}
use Rattle.std.specs.List.{list_any}
use Rattle.std.specs.Ordering.{nat_cmp}

-- whether a set has a number
abbrev pub set_holds : List ℕ → ℕ → Bool
set_holds keys n = list_any (is_at (nat_cmp n)) keys
