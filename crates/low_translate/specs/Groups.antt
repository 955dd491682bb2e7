-- Numbers that are joined: each has a parent, a smaller one of its group or itself.
use Rattle.std.specs.Prelude.{◌≡◌, ℕ, ◌≤◌, ◌<◌, List, length, slice_index}

-- no parent is larger
abbrev pub ParentsAreSmaller : List ℕ → Type 0
ParentsAreSmaller parents = (x : ℕ) → x < length parents → slice_index parents x ≤ x

-- c is one for each number and its parent, and so for each group
abbrev pub IsConstantOnGroups : (ℕ → ℕ) → List ℕ → Type 0
IsConstantOnGroups c parents = (x : ℕ) → x < length parents → c (slice_index parents x) ≡ c x
