-- The tags of a program.
use Rattle.std.specs.Prelude.{ℕ, Bool, is_some, slice_get}
use Rattle.grin_syntax.specs.Tree.{Program}

-- whether a program has a tag of this number
abbrev pub is_tag : Program → ℕ → Bool
is_tag p t = is_some (slice_get p.tags t)
