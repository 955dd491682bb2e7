-- Where the code of an image comes from.
use Rattle.std.specs.Prelude.{◌≡◌, ◌*◌, ◌≤◌, ℕ, List}
use Rattle.arity_check.specs.Program as core
use Rattle.grin_syntax.specs.Tree as grin
use Rattle.grin_syntax.specs.Formed.{Formed}
use Rattle.flow_system.specs.Solution.{Solution}
use Rattle.low_code.specs.Tree as low
use Rattle.low_code.specs.Formed as low_formed
use Rattle.register_alloc.specs.Assignment.{Assignment, words_at}
use Rattle.register_alloc.specs.Fits.{UsesRegisters}
use Rattle.rv32_items.specs.declared.Item.{Item}
use Rattle.rv32_items.specs.Laws.{addresses_of}
use Rattle.rv32_layout.specs.Places.{AllDecode}
use Rattle.grin_compile.specs.Limits.{frame_bound, heap_bytes}
use Rattle.grin_compile.specs.Code.{image_start_state, HasStops}
use Rattle.grin_compile.specs.Layers.{AreLayers}

-- Code of a stage g of p that is made of low code l, with the variables at the places a: l is well
-- formed and small beside g; the places fit it, hold variables in registers as far as there are
-- any, and have small frames; items do what l does in the frames of these places, each jump going
-- to a label that stands among them; the code is these items as they are placed, of words that
-- decode, the procedures at the addresses where their labels stand; and at its end are the stops.
pub record IsMadeThrough (p : core.Program) (A : Solution) (g : grin.Program) (l : low.Program)
    (a : Assignment) (cells stack : ℕ) (code addresses : List ℕ) : Type 0 where
  pub formed_stage : Formed g
  pub formed : low_formed.Formed l
  pub items : List Item
  pub layers : AreLayers g l a cells stack items code
  pub decode : AllDecode code
  pub uses : UsesRegisters l a
  pub small_frames : (f : ℕ) → 4 * words_at a f ≤ frame_bound p A
  pub starts : addresses ≡ addresses_of layers.placed.lay items layers.selects.begins
  pub stops : HasStops code (image_start_state code (heap_bytes g cells) stack) addresses
