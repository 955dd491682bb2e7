-- The layers below the stages make an image of the program.
use Rattle.std.proofs.Common.{◌≡◌, ℕ, ◌+◌, ◌*◌, ◌≤◌, None, List, length, refl, ap, ◌∙◌, subst, arith}
use Rattle.headline.specs.Carries.{IsBytes, MeaningResult, Meaning, MeaningRefines}
use Rattle.arity_check.specs.Accepted.{IsValid}
use Rattle.arity_check.specs.Program as core
use Rattle.core_meaning.specs.Told.{core_program_meaning}
use Rattle.elf32.specs.File.{file_of, program}
use Rattle.elf32.specs.Rules.{Loads}
use Rattle.grin_syntax.specs.Tree as grin
use Rattle.grin_meaning.specs.Keeps.{Keeps}
use Rattle.grin_meaning.specs.Told.{meaning_of_grin, entered_by_grin}
use Rattle.flow_system.specs.Solution.{Solution}
use Rattle.inline_theory.specs.Applications.{inlined, inlined_size}
use Rattle.inline_theory.specs.Size.{largest_procedure}
use Rattle.grin_translate.specs.Same.{ValidTranslationPreservesRuns}
use Rattle.grin_translate.specs.Translation.{tr}
use Rattle.low_code.specs.Tree.{Program}
use Rattle.low_code.specs.Run.{NeverMissing}
use Rattle.low_code.specs.Size.{program_size, calls_of}
use Rattle.low_code.specs.Told.{meaning_of_low, entered_by_low}
use Rattle.low_code.proofs.MoreUnits.{one_entry_a_unit}
use Rattle.register_alloc.specs.Assignment.{Assignment, words_at}
use Rattle.rv32_machine.specs.Steps.{State}
use Rattle.rv32_items.specs.declared.Item.{Item}
use Rattle.rv32_items.specs.Placed.{size_of}
use Rattle.rv32_items.specs.Laws.{addresses_of}
use Rattle.rv32_steps.specs.Seen.{observed_machine}
use Rattle.grin_compile.specs.Limits.{HeapIsExceeded, FramesAreExceeded, StackIsExceeded, greatest, largest_frame, frame_bound, heap_bytes, steps_per_unit}
use Rattle.grin_compile.specs.Code.{image_start_state, IsCodeFor, HasStops, TellsCellsBound}
use Rattle.grin_compile.specs.Words.{start_words, code_words, StepsAreWithinWords, KeepsPaceByWords}
use Rattle.grin_compile.specs.Stages.{passes, AreStages, IsLastSlim}
use Rattle.grin_compile.specs.Made.{IsCodeOfStage, IsImageOf}
use Rattle.grin_compile.specs.Layers.{AreLayers, MadeFromLayers}
use Rattle.grin_compile.proofs.Tells.{tells_both, stages_keep, stage_tells, stage_never_missing, stage_no_deeper, low_never_missing}
use Rattle.grin_compile.proofs.Frames.{over, few_frame_words, at_most_greatest, greatest_within}
use Rattle.grin_compile.proofs.Sizes.{stages_outside, FewParts, few_parts, functions_inlined, few_words, few_steps}
use Rattle.translated_form.proofs.Limits.{valid_is_limited}
use Rattle.grin_compile.proofs.Layered.{code_for, low_code_is_carried, code_has_stops, code_tells_cells_bound}
use Rattle.grin_compile.proofs.Paced.{keeps_pace, few_code_steps, steps_within, layers_keep_pace}

module _ (does : ValidTranslationPreservesRuns) (p : core.Program) (A : Solution)
    (stages : List grin.Program)
    (g : grin.Program) (l : Program)
    (a : Assignment) (cells stack : ℕ) (items : List Item) (words file : List ℕ)
    (valid : IsValid p) (fits : inlined_size A (tr p) ≤ 131072)
    (are : AreStages p passes (inlined A (tr p)) stages) (last : IsLastSlim p A stages g)
    (made : AreLayers g l a cells stack items words)
    (is_file : file ≡ file_of words (heap_bytes g cells) stack)
    (loads : Loads file (program words (heap_bytes g cells) stack)) where
  keeps : Keeps (tr p) g
  keeps = stages_keep p passes (inlined A (tr p)) stages are last.at g last.there

  pub never_missing : NeverMissing l
  never_missing = low_never_missing g l made.lowers (stage_never_missing does p valid g keeps)

  parts : FewParts (inlined A (tr p)) (length p.funs) l
  parts = few_parts p (inlined A (tr p)) g l _ refl
      (stages_outside p passes (inlined A (tr p)) stages are last.at g last.there) last.slim
      made.lowers made.small

  pub few : length words ≤ 268435456
  few =
      let globals : length l.globals ≤ 4096 = omega
      (arith, parts.globals, (valid_is_limited p valid).few_functions) in
      few_words _ _ _ _ _ _ _ fits parts.procs globals parts.light parts.calls
      (made.selects.few made.small.few_tests) made.placed.few

  few_items : size_of items ≤ steps_per_unit p A
  few_items =
      let functions = functions_inlined p A in
      let most = few_steps (length l.procs) (length l.globals) (program_size l) (calls_of l)
      (inlined_size A (tr p))
      (size_of items) parts.procs (omega (arith, parts.globals, functions)) parts.light parts.calls
      (made.selects.few made.small.few_tests) in
      omega (arith, most)

  small_frame : largest_frame a.frames ≤ frame_bound p A
  small_frame = omega (
    arith,
    greatest_within a.frames (1 + 20 * largest_procedure (inlined A (tr p)))
        (few_frame_words _ _ g l a last.slim made.small made.fits),
  )

  -- where the frames are more than the stack, the largest one for each level of nesting is
  full_stage : (i : List ℕ) → IsBytes i → (n : ℕ) → FramesAreExceeded stack
      (meaning_of_low l (words_at a) i n)
      → StackIsExceeded (largest_frame a.frames) stack (meaning_of_grin g i n)
  full_stage i bytes n h =
      let f = made.lowers.frames (words_at a) (greatest a.frames) (at_most_greatest a.frames) i
      bytes n in
      over stack (meaning_of_low l (words_at a) i n).depth ((meaning_of_grin g i n).depth + 1)
      ((meaning_of_grin g i n).depth + 1) (greatest a.frames) h f (omega arith)

  full : (i : List ℕ) → IsBytes i → (n : ℕ) → FramesAreExceeded stack
      (meaning_of_low l (words_at a) i n)
      → StackIsExceeded (largest_frame a.frames) stack (core_program_meaning p i n)
  full i bytes n h =
      let f = made.lowers.frames (words_at a) (greatest a.frames) (at_most_greatest a.frames) i
      bytes n in
      over stack (meaning_of_low l (words_at a) i n).depth ((meaning_of_grin g i n).depth + 1)
      ((core_program_meaning p i n).depth + 1) (greatest a.frames) h f
      (omega (arith, stage_no_deeper does p valid g keeps i n))

  abbrev addresses : List ℕ
  addresses = addresses_of made.placed.lay items made.selects.begins

  abbrev start : State
  start = image_start_state words (heap_bytes g cells) stack

  heap_is : 4 * l.width * cells ≡ heap_bytes g cells
  heap_is = ap (λ w. 4 * w * cells) made.lowers.width

  begun : image_start_state words (4 * l.width * cells) stack ≡ start
  begun = ap (λ h. image_start_state words h stack) heap_is

  tells : (i : List ℕ) → IsBytes i → (n : ℕ)
      → MeaningRefines (core_program_meaning p i n) (meaning_of_low l (words_at a) i n)
  tells i bytes n = tells_both (core_program_meaning p i n) (meaning_of_grin g i n)
      (meaning_of_low l (words_at a) i n)
      (stage_tells does p valid g keeps i n) (made.lowers.tells (words_at a) i bytes n)

  -- code that enters as many procedures as low code has is code of the stage
  of_stage : (StackFull : MeaningResult → Type 0) (told : Meaning) (entered : List ℕ → ℕ → List ℕ)
      → IsCodeFor (HeapIsExceeded cells) StackFull told entered (length l.procs) words
      (image_start_state words (4 * l.width * cells) stack) addresses
      → IsCodeOfStage g cells stack words addresses StackFull told entered
  of_stage StackFull told entered h =
      subst (λ m. IsCodeFor (HeapIsExceeded cells) StackFull told entered m words start addresses)
      made.lowers.procs
      (subst (λ s. IsCodeFor (HeapIsExceeded cells) StackFull told entered (length l.procs) words s
      addresses) begun h)

  pub has_stops : HasStops words start addresses
  has_stops = subst (λ s. HasStops words s addresses) begun
      (code_has_stops l a cells stack items words made.selects made.placed few)

  enters : (i : List ℕ) → IsBytes i → (n : ℕ) → entered_by_low l (words_at a) i n ≡ entered_by_grin
      g i n
  enters i bytes n = made.lowers.enters (words_at a) i bytes n

  -- each entry is a unit
  one_each : (i : List ℕ) → IsBytes i → (n : ℕ) → length (entered_by_grin g i n) ≤ n
  one_each i bytes n = omega (
    arith,
    one_entry_a_unit l (words_at a)
        (record { cells = None; stack = None }) i n,
    ap length (enters i bytes n),
  )

  by_words : KeepsPaceByWords (start_words words addresses) (code_words words addresses)
      (core_program_meaning p)
      (entered_by_grin g) (observed_machine start)
  by_words = subst (λ s. KeepsPaceByWords (start_words words addresses) (code_words words addresses)
      (core_program_meaning p) (entered_by_grin g) (observed_machine s)) begun
      (layers_keep_pace (core_program_meaning p)
      (entered_by_grin g) l a cells stack items words tells enters never_missing made.selects
      made.placed few)

  pub image : IsImageOf p A g l a.frames cells stack words addresses file
  image = record {
    few_words = few;
    is_file = is_file;
    loads = loads;
    one_frame_each = made.fits.covers.frames ∙ made.lowers.procs;
    small_frame = small_frame;
    lowers = made.lowers;
    code_for = of_stage (StackIsExceeded (largest_frame a.frames) stack) (core_program_meaning p)
        (entered_by_grin g)
        (code_for l a cells stack items words made.selects made.placed few (core_program_meaning p)
        (entered_by_grin g)
        (StackIsExceeded (largest_frame a.frames) stack)
        tells enters full never_missing);
    of_stage = of_stage (StackIsExceeded (largest_frame a.frames) stack) (meaning_of_grin g)
        (entered_by_grin g)
        (code_for l a cells stack items words made.selects made.placed few (meaning_of_grin g)
        (entered_by_grin g)
        (StackIsExceeded (largest_frame a.frames) stack)
        (λ i bytes n. made.lowers.tells (words_at a) i bytes n) enters full_stage never_missing);
    within_frames = of_stage (FramesAreExceeded stack) (meaning_of_low l (words_at a))
        (entered_by_low l (words_at a))
        (low_code_is_carried l a cells stack items words never_missing made.selects made.placed
        few);
    tells_cells_bound = subst
        (λ s. TellsCellsBound l (words_at a) cells stack addresses s) begun
        (code_tells_cells_bound l a cells stack items words made.selects made.placed few);
    steps_within = subst (λ s. StepsAreWithinWords words addresses s) begun
        (steps_within l a cells stack items words made.selects made.placed few);
    few_steps = omega (
      arith,
      few_code_steps l a cells stack items words made.selects made.placed few,
      made.placed.few,
      few_items,
    );
    paced_by_words = by_words;
    paced = keeps_pace (start_words words addresses) (code_words words addresses)
        (core_program_meaning p)
        (entered_by_grin g) (observed_machine start) one_each by_words;
  }

pub made_from_layers : ValidTranslationPreservesRuns → MadeFromLayers
made_from_layers does p A stages g l a cells stack items words file valid least fits are last made
    is_file loads =
    image does p A stages g l a cells stack items words file valid fits are last made is_file loads
