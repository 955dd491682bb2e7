-- One read of a source, into room for one byte.
use Rattle.std.specs.Prelude.{◌≡◌, ◌<◌, ℕ, Option, Some, None, IfSome, option_to_list, slice_get, drop}
use Rattle.grin_io.specs.Changes.{KnownContent, SourceChange}

-- the source gave this byte, or met its end
pub record ReadsOneByte {I : Type 0} (i : SourceChange I) (answer : Option ℕ) : Type 0 where
  pub exactly : i.gives i.old 1 (Some (option_to_list answer)) i.new
  pub content : KnownContent (i.left i.old) (λ before. (answer ≡ slice_get before 0)
      × (i.left i.new ≡ Some (drop 1 before)))
  pub small : IfSome answer (λ byte. byte < 256)
  pub met : answer ≡ None → i.is_over i.new
  pub over : i.is_over i.old → (answer ≡ None) × i.is_over i.new
