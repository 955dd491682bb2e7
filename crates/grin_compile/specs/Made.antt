-- An image that is made of the last slim stage of a program: it carries the program, and enters the
-- procedures of that stage.
use Rattle.std.specs.Prelude.{◌≡◌, ◌≤◌, ℕ, List, length}
use Rattle.headline.specs.Carries.{MeaningResult, Meaning, KeepsPace}
use Rattle.arity_check.specs.Program as core
use Rattle.core_meaning.specs.Told.{core_program_meaning}
use Rattle.elf32.specs.File.{file_of, program}
use Rattle.elf32.specs.Rules.{Loads}
use Rattle.grin_syntax.specs.Tree.{Program}
use Rattle.grin_meaning.specs.Told.{meaning_of_grin, entered_by_grin}
use Rattle.flow_system.specs.Solution.{Solution}
use Rattle.inline_theory.specs.Applications.{inlined}
use Rattle.grin_translate.specs.Translation.{tr}
use Rattle.grin_stages.specs.Stage.{IsLeastOfTranslation}
use Rattle.low_code.specs.Tree as low
use Rattle.low_code.specs.Told.{meaning_of_low, entered_by_low}
use Rattle.low_translate.specs.Lowers.{Lowers}
use Rattle.rv32_steps.specs.Seen.{observed_machine}
use Rattle.grin_compile.specs.Limits.{HeapIsExceeded, FramesAreExceeded, StackIsExceeded, frame_words, largest_frame, frame_bound, heap_bytes, steps_per_unit}
use Rattle.grin_compile.specs.Code.{image_start_state, IsCodeFor, HasStops, TellsCellsBound}
use Rattle.grin_compile.specs.Words.{start_words, code_words, StepsAreWithinWords, KeepsPaceByWords, most_steps}
use Rattle.grin_compile.specs.Stages.{passes, AreStages, IsLastSlim}
use Rattle.limits.specs.Limits.{most_code}

-- words of an image with so many cells and so many bytes of stack that are code for a meaning, and
-- enter procedures of g at these addresses; exit 5 comes only where the stack is full
abbrev pub IsCodeOfStage : (g : Program) → (cells stack : ℕ) → (code addresses : List ℕ)
    → (StackFull : MeaningResult → Type 0) → Meaning → (List ℕ → ℕ → List ℕ) → Type 0
IsCodeOfStage g cells stack code addresses StackFull told entered =
    IsCodeFor (HeapIsExceeded cells) StackFull told entered (length g.procs) code
    (image_start_state code (heap_bytes g cells) stack) addresses

-- The file of an image with so many cells and so many bytes of stack. Its words are code for p that
-- enters the procedures of the stage g, each at its address, and keeps pace with p. `frames` are
-- the words of the frame of each procedure.
pub record IsImageOf (p : core.Program) (A : Solution) (g : Program) (l : low.Program)
    (frames : List ℕ) (cells stack : ℕ) (code addresses file : List ℕ) : Type 0 where
  pub few_words : length code ≤ most_code
  pub is_file : file ≡ file_of code (heap_bytes g cells) stack
  pub loads : Loads file (program code (heap_bytes g cells) stack)
  pub one_frame_each : length frames ≡ length g.procs
  pub small_frame : largest_frame frames ≤ frame_bound p A
  pub lowers : Lowers g l
  -- the heap is full only where p binds more cells, and the stack only where the largest frame for
  -- each level of p's nesting, the outermost one counted, is more;
  pub code_for :
      IsCodeOfStage g cells stack code addresses (StackIsExceeded (largest_frame frames) stack)
      (core_program_meaning p) (entered_by_grin g)
  -- only where the stage g binds more cells, and nests so deep;
  pub of_stage :
      IsCodeOfStage g cells stack code addresses (StackIsExceeded (largest_frame frames) stack)
      (meaning_of_grin g) (entered_by_grin g)
  -- and only where the frames that are open, each of its own words, are more
  pub within_frames :
      IsCodeOfStage g cells stack code addresses (FramesAreExceeded stack)
      (meaning_of_low l (frame_words frames)) (entered_by_low l (frame_words frames))
  -- where it exits otherwise, x3 is behind the cells that the low code bound
  pub tells_cells_bound :
      TellsCellsBound l (frame_words frames) cells stack addresses
      (image_start_state code (heap_bytes g cells) stack)
  -- after any number of steps no more are done than there are words at the start, in each procedure
  -- that was entered, each time, and nine behind;
  pub steps_within :
      StepsAreWithinWords code addresses (image_start_state code (heap_bytes g cells) stack)
  -- so many are enough for what p does with the units that enter these procedures of g,
  pub paced_by_words :
      KeepsPaceByWords (start_words code addresses) (code_words code addresses)
      (core_program_meaning p) (entered_by_grin g)
      (observed_machine (image_start_state code (heap_bytes g cells) stack))
  -- and for the start and for each unit the most of these
  pub paced :
      KeepsPace (most_steps code addresses) (core_program_meaning p)
      (observed_machine (image_start_state code (heap_bytes g cells) stack))
  pub few_steps : most_steps code addresses ≤ steps_per_unit p A

-- all of this is chosen before the input
pub record Made (p : core.Program) (cells stack : ℕ) (file : List ℕ) : Type 0 where
  pub solution : Solution
  pub least : IsLeastOfTranslation p solution
  pub stages : List Program
  pub stages_are : AreStages p passes (inlined solution (tr p)) stages
  pub g : Program
  pub last : IsLastSlim p solution stages g
  pub low : low.Program
  pub frames : List ℕ
  pub code : List ℕ
  pub addresses : List ℕ
  pub image : IsImageOf p solution g low frames cells stack code addresses file

-- the code of such an image ends with the stops
abbrev pub EndsWithStops : {p : core.Program} {cells stack : ℕ} {file : List ℕ}
    → Made p cells stack file → Type 0
EndsWithStops {p} {cells} {stack} made =
    HasStops made.code (image_start_state made.code (heap_bytes made.g cells) stack) made.addresses
