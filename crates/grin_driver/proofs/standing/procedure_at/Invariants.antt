use Rattle.std.proofs.Common.{◌≡◌, ℕ, ◌<◌, ◌≤◌, List, Option, Some, None, slice_get}
use Rattle.grin_driver.proofs.standing.procedure_at.Given as goal

-- of the first n procedures, the last one that starts at or before an address, and where; zero
-- where
-- all start behind it
abbrev Latest : (starts : List ℕ) → (at n : ℕ) → Option ℕ → (found : ℕ) → Type 0
Latest starts at n None found = (found ≡ 0) ×
    ((k start : ℕ) → k < n → slice_get starts k ≡ Some start → at < start)
Latest starts at n (Some f) found =
    (slice_get starts f ≡ Some found) ×
    ((found ≤ at) ×
    ((k other : ℕ) → k < n → slice_get starts k ≡ Some other → other ≤ at → other ≤ found))

abbrev pub invariant-loop-f : goal.invariant-loop-f
invariant-loop-f l = Latest l.starts l.at l.f l.last l.found
