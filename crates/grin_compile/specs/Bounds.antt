-- Bounds on the stack and the steps of an image that are known of its program alone.
use Rattle.std.specs.Prelude.{ℕ, List}
use Rattle.headline.specs.Carries.{MeaningResult, KeepsPace}
use Rattle.arity_check.specs.Program as core
use Rattle.core_meaning.specs.Told.{core_program_meaning}
use Rattle.grin_syntax.specs.Tree.{Program}
use Rattle.flow_system.specs.Solution.{Solution}
use Rattle.low_code.specs.Tree as low
use Rattle.rv32_steps.specs.Seen.{observed_machine}
use Rattle.grin_compile.specs.Limits.{StackIsExceeded, largest_frame, frame_bound, heap_bytes, steps_per_unit}
use Rattle.grin_compile.specs.Code.{image_start_state}
use Rattle.grin_compile.specs.Made.{IsImageOf}

-- where the largest frame for each level of nesting is more than the stack, so is the bound of a
-- frame, and so many steps for the start and for each unit are enough
abbrev pub ImageIsWithinBounds : Type 0
ImageIsWithinBounds =
    (p : core.Program) (A : Solution) (g : Program) (l : low.Program) (frames : List ℕ)
    (cells stack : ℕ) (code addresses file : List ℕ)
    → IsImageOf p A g l frames cells stack code addresses file
    → ((t : MeaningResult) → StackIsExceeded (largest_frame frames) stack t
    → StackIsExceeded (frame_bound p A) stack t)
    × KeepsPace (steps_per_unit p A) (core_program_meaning p)
    (observed_machine (image_start_state code (heap_bytes g cells) stack))
