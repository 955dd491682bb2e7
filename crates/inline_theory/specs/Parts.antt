-- The tags of functions that lack arguments.
use Rattle.std.specs.Prelude.{◌≡◌, ℕ, suc, true, List, Some, slice_get}
use Rattle.grin_syntax.specs.declared.program.Tag.{Tag}
use Rattle.grin_syntax.specs.declared.program.ProcId.{ProcId}
use Rattle.grin_meaning.specs.Run.{is_part_kind, part_from}
use Rattle.seq.specs.Lists.{is_present}

-- each function that lacks two or more arguments has a tag for one argument more
abbrev pub PartialTagsAreClosed : List Tag → Type 0
PartialTagsAreClosed tags =
    (t : ℕ) (i : Tag) (f : ProcId) (r : ℕ) → slice_get tags t ≡ Some i → is_part_kind i.kind ≡ true
    → i.proc ≡ Some f → i.missing ≡ suc (suc r) → is_present (part_from 0 tags f.0 (suc r)) ≡ true
