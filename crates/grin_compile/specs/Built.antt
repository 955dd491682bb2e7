-- What is kept of an image.
use Rattle.std.specs.Prelude.{◌≡◌, ℕ, ◌*◌}
use Rattle.arity_check.specs.Program as core
use Rattle.grin_syntax.specs.SameOutside.{names_of}
use Rattle.register_alloc.specs.Assignment.{Assignment}
use Rattle.grin_compile.specs.declared.image.Built.{Built}
use Rattle.grin_compile.specs.Limits.{heap_bytes}
use Rattle.grin_compile.specs.Made.{Made}
use Rattle.grin_compile.specs.Provenance.{IsMadeThrough}

-- an image that is made of the last slim stage of p: its code, which is made of low code with its
-- variables at some places, the words of a cell of that stage, and of each of its procedures the
-- address at which it starts, the name, and the words of its frame
pub record IsBuilt (p : core.Program) (cells stack : ℕ) (b : Built) : Type 0 where
  pub made : Made p cells stack b.image.items
  pub code : b.code.items ≡ made.code
  pub starts : b.starts.items ≡ made.addresses
  pub width : heap_bytes made.g 1 ≡ 4 * b.width
  pub names : b.names.items ≡ names_of made.g.procs
  pub frames : b.frames.items ≡ made.frames
  pub places : Assignment
  pub placed_frames : made.frames ≡ places.frames
  pub through :
      IsMadeThrough p made.solution made.g made.low places cells stack made.code made.addresses
