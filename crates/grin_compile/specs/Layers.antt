-- How the contracts of the layers below the stages compose.
use Rattle.std.specs.Prelude.{◌≡◌, ℕ, ◌+◌, ◌*◌, ◌≤◌, List, length}
use Rattle.headline.specs.Carries.{IsBytes, Meaning, Comes, Carries, MeaningRefines}
use Rattle.arity_check.specs.Accepted.{IsValid}
use Rattle.arity_check.specs.Program as core
use Rattle.elf32.specs.File.{file_of, program}
use Rattle.elf32.specs.Rules.{Loads}
use Rattle.grin_syntax.specs.Tree as grin
use Rattle.flow_system.specs.Solution.{Solution}
use Rattle.inline_theory.specs.Applications.{inlined, inlined_size}
use Rattle.grin_translate.specs.Translation.{tr}
use Rattle.grin_stages.specs.Stage.{IsLeastOfTranslation}
use Rattle.low_code.specs.Tree.{Program}
use Rattle.low_code.specs.Run.{NeverMissing}
use Rattle.low_code.specs.Told.{meaning_of_low, entered_by_low}
use Rattle.low_translate.specs.Lowers.{Lowers, LoweredIsSmall}
use Rattle.register_alloc.specs.Assignment.{Assignment, words_at}
use Rattle.register_alloc.specs.Fits.{Fits}
use Rattle.rv32_items.specs.declared.Item.{Item}
use Rattle.rv32_items.specs.Course.{Layout, course}
use Rattle.rv32_items.specs.Placed.{AddressesRise, Placed}
use Rattle.rv32_items.specs.Told.{observed_items}
use Rattle.rv32_items.specs.Laws.{addresses_of}
use Rattle.rv32_steps.specs.Seen.{observed_machine}
use Rattle.rv32_steps.specs.Trace.{procedures_at}
use Rattle.rv32_select.specs.Selects.{Selects, BelowHeap, start_point}
use Rattle.grin_compile.specs.Limits.{HeapIsExceeded, FramesAreExceeded, StackIsExceeded, heap_bytes}
use Rattle.grin_compile.specs.Code.{image_start_state, IsCodeFor, HasStops, TellsCellsBound}
use Rattle.grin_compile.specs.Words.{start_words, code_words, StepsAreWithinWords, KeepsPaceByWords}
use Rattle.grin_compile.specs.Stages.{passes, AreStages, IsLastSlim}
use Rattle.grin_compile.specs.Made.{IsImageOf}
use Rattle.limits.specs.Limits.{largest_program, most_code}

-- what was selected carries low code that is never missing, and the units of what it shows are the
-- procedures that it passed
abbrev pub SelectionCarriesLowCode : Type 0
SelectionCarriesLowCode =
    (l : Program) (a : Assignment) (cells stack : ℕ) (items : List Item)
    → NeverMissing l → (s : Selects l a cells stack items)
    → (lay : Layout) → AddressesRise items lay → BelowHeap lay →
    let start = start_point l.width cells stack lay in
    Carries (HeapIsExceeded cells) (FramesAreExceeded stack)
    (meaning_of_low l (words_at a)) (observed_items lay items start)
    × ((i : List ℕ) → IsBytes i → (k : ℕ) →
    let n = length (procedures_at s.begins (course lay items k i start).passed) in
    Comes (HeapIsExceeded cells) (FramesAreExceeded stack) (meaning_of_low l (words_at a) i) n
    (observed_items lay items start i k))

-- Words that are placed for items that are selected for low code, at most 2^28, are code for what
-- the low code tells. Its procedures are at the addresses of the labels at which theirs begin, and
-- the stack is full only where the words of its frames are more
abbrev pub LowCodeIsCarried : Type 0
LowCodeIsCarried =
    (l : Program) (a : Assignment) (cells stack : ℕ) (items : List Item) (words : List ℕ)
    → NeverMissing l → (s : Selects l a cells stack items) → (placed : Placed items words)
    → length words ≤ most_code
    → IsCodeFor (HeapIsExceeded cells) (FramesAreExceeded stack) (meaning_of_low l (words_at a))
    (entered_by_low l (words_at a)) (length l.procs) words
    (image_start_state words (4 * l.width * cells) stack) (addresses_of placed.lay items s.begins)

-- they end with the stops, by which an image ends early,
abbrev pub CodeHasStops : Type 0
CodeHasStops =
    (l : Program) (a : Assignment) (cells stack : ℕ) (items : List Item) (words : List ℕ)
    → (s : Selects l a cells stack items) → (placed : Placed items words)
    → length words ≤ most_code
    → HasStops words (image_start_state words (4 * l.width * cells) stack)
    (addresses_of placed.lay items s.begins)

-- and where they exit, but not with the heap full, x3 tells the cells of the low code,
abbrev pub CodeTellsCellsBound : Type 0
CodeTellsCellsBound =
    (l : Program) (a : Assignment) (cells stack : ℕ) (items : List Item) (words : List ℕ)
    → (s : Selects l a cells stack items) → (placed : Placed items words)
    → length words ≤ most_code
    → TellsCellsBound l (words_at a) cells stack (addresses_of placed.lay items s.begins)
    (image_start_state words (4 * l.width * cells) stack)

-- and for what tells the same and enters the same, where the frames are within a bound for each
-- level of nesting
abbrev pub LayersCompose : Type 0
LayersCompose =
    (told : Meaning) (entered : List ℕ → ℕ → List ℕ) (l : Program) (a : Assignment)
    (frame cells stack : ℕ) (items : List Item) (words : List ℕ)
    → ((i : List ℕ) → IsBytes i → (n : ℕ)
    → MeaningRefines (told i n) (meaning_of_low l (words_at a) i n))
    → ((i : List ℕ) → IsBytes i → (n : ℕ) → entered_by_low l (words_at a) i n ≡ entered i n)
    → ((i : List ℕ) → IsBytes i → (n : ℕ) →
    4 * (meaning_of_low l (words_at a) i n).depth ≤ frame * ((told i n).depth + 1))
    → NeverMissing l → (s : Selects l a cells stack items) → (placed : Placed items words)
    → length words ≤ most_code
    → IsCodeFor (HeapIsExceeded cells) (StackIsExceeded frame stack)
    told entered (length l.procs) words
    (image_start_state words (4 * l.width * cells) stack) (addresses_of placed.lay items s.begins)

-- the machine does no more steps than there are words, those of each procedure as often as it is
-- entered,
abbrev pub LayersBoundSteps : Type 0
LayersBoundSteps =
    (l : Program) (a : Assignment) (cells stack : ℕ) (items : List Item) (words : List ℕ)
    → (s : Selects l a cells stack items) → (placed : Placed items words)
    → length words ≤ most_code
    → StepsAreWithinWords words (addresses_of placed.lay items s.begins)
    (image_start_state words (4 * l.width * cells) stack)

-- and keeps pace to the word with what tells the same and enters the same
abbrev pub LayersKeepPace : Type 0
LayersKeepPace =
    (told : Meaning) (entered : List ℕ → ℕ → List ℕ) (l : Program) (a : Assignment)
    (cells stack : ℕ) (items : List Item) (words : List ℕ)
    → ((i : List ℕ) → IsBytes i → (n : ℕ)
    → MeaningRefines (told i n) (meaning_of_low l (words_at a) i n))
    → ((i : List ℕ) → IsBytes i → (n : ℕ) → entered_by_low l (words_at a) i n ≡ entered i n)
    → NeverMissing l → (s : Selects l a cells stack items) → (placed : Placed items words)
    → length words ≤ most_code →
    let addresses = addresses_of placed.lay items s.begins in
    KeepsPaceByWords (start_words words addresses) (code_words words addresses) told entered
    (observed_machine (image_start_state words (4 * l.width * cells) stack))

-- what the layers below GRIN make of a program of GRIN: low code, places for its variables, items,
-- and words
pub record AreLayers (g : grin.Program) (l : Program) (a : Assignment) (cells stack : ℕ)
    (items : List Item) (words : List ℕ) : Type 0 where
  pub lowers : Lowers g l
  pub small : LoweredIsSmall g l
  pub fits : Fits l a
  pub selects : Selects l a cells stack items
  pub placed : Placed items words

-- code that is made of the last slim stage is an image of the program, in each file that stands for
-- it
abbrev pub MadeFromLayers : Type 0
MadeFromLayers =
    (p : core.Program) (A : Solution) (stages : List grin.Program) (g : grin.Program) (l : Program)
    (a : Assignment) (cells stack : ℕ) (items : List Item) (words file : List ℕ)
    → IsValid p → IsLeastOfTranslation p A → inlined_size A (tr p) ≤ largest_program
    → AreStages p passes (inlined A (tr p)) stages → IsLastSlim p A stages g
    → (made : AreLayers g l a cells stack items words)
    → file ≡ file_of words (heap_bytes g cells) stack
    → Loads file (program words (heap_bytes g cells) stack)
    → IsImageOf p A g l a.frames cells stack words
    (addresses_of made.placed.lay items made.selects.begins) file
