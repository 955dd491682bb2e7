-- What is kept of a text's image.
use Rattle.std.specs.Prelude.{◌≡◌, ℕ, ◌*◌, ◌≤◌, List}
use Rattle.grin_syntax.specs.SameOutside.{names_of}
use Rattle.grin_compile.specs.declared.image.Built.{Built}
use Rattle.grin_compile.specs.Limits.{heap_bytes}
use Rattle.grin_driver.specs.Outcome.{IsImageOf}

-- an image of the text, its code, the words of a cell, and of each procedure the address at which
-- it starts, the name, and the words of its frame
pub record IsBuiltImage (text : List ℕ) (cells stack : ℕ) (built : Built) : Type 0 where
  pub from : IsImageOf text cells stack built.image.items
  pub code : built.code.items ≡ from.made.code
  pub some_width : 1 ≤ built.width
  pub width : heap_bytes from.made.g 1 ≡ 4 * built.width
  pub starts : built.starts.items ≡ from.made.addresses
  pub names : built.names.items ≡ names_of from.made.g.procs
  pub frames : built.frames.items ≡ from.made.frames
