-- How much room an image has, and when that is too little.
use Rattle.std.specs.Prelude.{ℕ, ◌+◌, ◌*◌, ◌/◌, ◌≤◌, ◌<◌, max, List, [], ◌∷◌, slice_index_or}
use Rattle.headline.specs.Carries.{MeaningResult}
use Rattle.arity_check.specs.Program as core
use Rattle.grin_syntax.specs.Tree.{Program}
use Rattle.grin_meaning.specs.Ready.{most_fields}
use Rattle.flow_system.specs.Solution.{Solution}
use Rattle.inline_theory.specs.Applications.{inlined, inlined_size}
use Rattle.inline_theory.specs.Size.{largest_procedure}
use Rattle.grin_translate.specs.Translation.{tr}
use Rattle.limits.specs.Limits.{most_cells, least_stack, most_stack}

-- more cells are told of than were given
abbrev pub HeapIsExceeded : (cells : ℕ) → MeaningResult → Type 0
HeapIsExceeded cells t = cells < t.cells

-- more words of frames are told of than the bytes of the stack have
abbrev pub FramesAreExceeded : (stack : ℕ) → MeaningResult → Type 0
FramesAreExceeded stack t = stack < 4 * t.depth

-- the nesting, the outermost level counted, times the bound of a frame is more than the stack
abbrev pub StackIsExceeded : (frame stack : ℕ) → MeaningResult → Type 0
StackIsExceeded frame stack t = stack < frame * (t.depth + 1)

-- the greatest of these numbers, and zero where there is none
abbrev pub greatest : List ℕ → ℕ
greatest [] = 0
greatest (n ∷ ns) = max n (greatest ns)

-- the words of the frame of a procedure, where these are the words of each one's
abbrev pub frame_words : (frames : List ℕ) → (proc : ℕ) → ℕ
frame_words frames f = slice_index_or frames f 0

-- the bytes of the largest of frames of so many words
abbrev pub largest_frame : (frames : List ℕ) → ℕ
largest_frame frames = 4 * greatest frames

-- no frame has more bytes than this: a word for the return address, and at most twenty for each
-- unit of the size of the largest procedure, once evaluations and applications are inlined
abbrev pub frame_bound : core.Program → Solution → ℕ
frame_bound p A = 4 * (1 + 20 * largest_procedure (inlined A (tr p)))

-- so many steps are enough for the start of an image, and for each unit
abbrev pub steps_per_unit : core.Program → Solution → ℕ
steps_per_unit p A = 2048 * inlined_size A (tr p)

-- a cell has a word for its tag and one for each field
abbrev pub heap_bytes : Program → (cells : ℕ) → ℕ
heap_bytes g cells = 4 * (1 + most_fields g.tags) * cells

-- the bytes of a stack that words fill
abbrev pub whole_words : (bytes : ℕ) → ℕ
whole_words bytes = bytes / 4 * 4

-- the cells and the bytes of stack that may be asked for
pub record SizesAreInRange (cells stack : ℕ) : Type 0 where
  pub some_cells : 1 ≤ cells
  pub few_cells : cells ≤ most_cells
  pub some_stack : least_stack ≤ stack
  pub small_stack : stack ≤ most_stack
