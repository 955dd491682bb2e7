-- Where the tags of functions that lack arguments begin.
use Rattle.std.specs.Prelude.{◌≡◌, ℕ, List, Some, slice_get, drop}
use Rattle.grin_syntax.specs.declared.program.Tag.{Tag}
use Rattle.grin_syntax.specs.Tags.{part_from}

-- in lists of places by procedure: from a tag on, no tag of the procedure that lacks arguments
-- stands before its place
abbrev pub NoPartTagBeforeStart : List Tag → List ℕ → ℕ → Type 0
NoPartTagBeforeStart tags starts at =
    (f r s : ℕ) → slice_get starts f ≡ Some s
    → part_from at (drop at tags) f r ≡ part_from s (drop s tags) f r
