-- What each status says of a text that is run.
use Rattle.std.specs.Prelude.{◌≡◌, ◌≤◌, ◌⊎◌, ℕ, zero, suc, ◌+◌, ◌*◌, Bool, List, ◌++◌, length, Some}
use Rattle.core_reader.specs.Tree as tree
use Rattle.arity_check.specs.Program.{Program}
use Rattle.core_meaning.specs.Evaluation.{params}
use Rattle.core_meaning.specs.Told.{core_program_meaning}
use Rattle.elf32.specs.Image.{Image}
use Rattle.elf32.specs.Rules.{Loads}
use Rattle.grin_io.specs.Changes.{KnownContent, SourceChange, SinkChange, BeginsWith}
use Rattle.grin_io.specs.declared.outside.Fault.TheVariants.{Read, Write}
use Rattle.headline.specs.Carries.{End, going, done, no_alternative, MeaningResult as Telling, IsBytes, IsPrefixOf, ExtendsShorterRun}
use Rattle.rv32_machine.specs.declared.machine.Stop.TheVariants.{Steps, Exit}
use Rattle.grin_stages.specs.Stage.{Fits}
use Rattle.grin_compile.specs.Limits.{HeapIsExceeded, StackIsExceeded, largest_frame, whole_words}
use Rattle.grin_compile.specs.Words.{most_steps}
use Rattle.grin_compile.specs.Made.{Made, EndsWithStops}
use Rattle.text_commands.specs.declared.status.Status.{Status}
use Rattle.text_commands.specs.declared.status.Status.TheVariants.{Done, Refused, NoAlternative, HeapFull, StackFull, StepLimit, Exited, OutOfMemory, ReadFault, WriteFault}
use Rattle.text_commands.specs.Text.{IsRefusedBy, IsAccepted}
use Rattle.text_commands.specs.Writing.{IsTransformFailure}
use Rattle.grin_driver.specs.Listing.{IsLargeText}
use Rattle.grin_driver.specs.Execution.{Stops, Fails, IsUntouched}

-- ---- the image of a text

-- which rule refuses a run: the first one that the text breaks, else rule 36, at the size of its
-- program once it is inlined
abbrev pub IsRunRefusal : (text : List ℕ) → (rule number : ℕ) → Type 0
IsRunRefusal text rule number =
    IsRefusedBy text rule number ⊎ ((rule ≡ 36) × IsLargeText text number)

-- The text breaks no rule, and this is the file of an image that is made of its program, with so
-- many cells and so many bytes of stack, of which whole words are used. Its code ends with the
-- stops.
pub record IsImageOf (text : List ℕ) (cells stack : ℕ) (file : List ℕ) : Type 0 where
  pub source : tree.Program
  pub program : Program
  pub accepted : IsAccepted text source program
  pub fits : Fits program
  pub made : Made program cells (whole_words stack) file
  pub stops : EndsWithStops made

-- why no image is made of a text
abbrev pub IsBuildFailure : (text : List ℕ) → Status → Type 0
IsBuildFailure text status = IsTransformFailure IsRunRefusal text status

-- the status of a run by that of its image: three exits have names of their own
abbrev pub status_of_exit : Status → Status
status_of_exit (Exited (suc (suc (suc zero)))) = NoAlternative
status_of_exit (Exited (suc (suc (suc (suc zero))))) = HeapFull
status_of_exit (Exited (suc (suc (suc (suc (suc zero)))))) = StackFull
status_of_exit status = status

-- ---- its run from a source to a sink

module _ {I K : Type 0} (i : SourceChange I) (o : SinkChange K) where
  -- the status names the end of the run, in which the source gave these bytes
  abbrev pub RunsTo : Image → (steps : ℕ) → Status → (given : List ℕ) → (ended : Bool) → Type 0
  RunsTo image steps Done given ended = Stops i o image steps (Exit 0) given ended
  RunsTo image steps NoAlternative given ended = Stops i o image steps (Exit 3) given ended
  RunsTo image steps HeapFull given ended = Stops i o image steps (Exit 4) given ended
  RunsTo image steps StackFull given ended = Stops i o image steps (Exit 5) given ended
  RunsTo image steps StepLimit given ended = Stops i o image steps Steps given ended
  RunsTo image steps ReadFault given ended = Fails i o image steps Read given ended
  RunsTo image steps WriteFault given ended = Fails i o image steps Write given ended
  RunsTo image steps _ given ended = ⊥

  -- the sink took bytes of which this holds, where it tells what it takes
  abbrev pub Took : (List ℕ → Type 0) → Type 0
  Took Holds = KnownContent (o.taken o.old) (λ before.
      (out : List ℕ) × (o.taken o.new ≡ Some (before ++ out)) × Holds out)

  -- What a program tells within each number of units on an input that begins with the bytes that
  -- the source gave; and when that needs more heap or stack than there is.
  module _ (OutOfHeap OutOfStack : Telling → Type 0) (told : ℕ → Telling) (given : List ℕ) where
    -- within some units the program has this end: just its output was taken, and just as many bytes
    -- as it used were given
    pub record Ends (end : End) : Type 0 where
      pub units : ℕ
      pub ended : (told units).end ≡ end
      pub took : Took (λ out. out ≡ (told units).out)
      pub gave : length given ≡ (told units).used

    -- within some units the program needs more than it was given: what was taken lies between its
    -- output within one unit less and within these, and no more was given than it used
    pub record Lacks (Needs : Telling → Type 0) : Type 0 where
      pub units : ℕ
      pub needs : Needs (told units)
      pub took : Took (λ out. ExtendsShorterRun told units out × IsPrefixOf out (told units).out)
      pub gave : length given ≤ (told units).used

    -- What was taken begins the program's output within some units, and no more was given than it
    -- used. For whatever number of units the steps are enough, at so many steps for the start and
    -- for each unit, the program has no end within these units, and its output within them begins
    -- what was taken.
    pub record Pauses (each steps : ℕ) : Type 0 where
      pub units : ℕ
      pub took : Took (λ out. IsPrefixOf out (told units).out)
      pub gave : length given ≤ (told units).used
      pub keeps_pace : (n : ℕ) → each * (n + 1) ≤ steps
          → ((told n).end ≡ going) × Took (λ out. IsPrefixOf (told n).out out)

    -- what was taken begins the program's output within some units, and no more was given than it
    -- used
    pub record Breaks : Type 0 where
      pub units : ℕ
      pub took : Took (λ out. IsPrefixOf out (told units).out)
      pub gave : length given ≤ (told units).used

    -- what the program says of the end of a run; there is no other end
    abbrev pub Says : (each steps : ℕ) → Status → Type 0
    Says each steps Done = Ends done
    Says each steps NoAlternative = Ends no_alternative
    Says each steps HeapFull = Lacks OutOfHeap
    Says each steps StackFull = Lacks OutOfStack
    Says each steps StepLimit = Pauses each steps
    Says each steps ReadFault = Breaks
    Says each steps WriteFault = Breaks
    Says each steps _ = ⊥

  -- ---- the statuses of a text

  -- There is an image of the text that loads. The source gave some bytes, one by one as they were
  -- asked for, and its end was met or not. The status is the end of the image's run, and it is what
  -- the program says: on these bytes, and on whatever input begins with them, if its end wasn't
  -- met.
  pub record Runs (text : List ℕ) (cells stack steps : ℕ) (status : Status) : Type 0 where
    pub file : List ℕ
    pub from : IsImageOf text cells stack file
    pub image : Image
    pub loads : Loads file image
    pub given : List ℕ
    pub ended : Bool
    pub are_bytes : IsBytes given
    -- where `main` has no parameter, nothing was asked of the source
    pub unread : params from.program from.program.main ≡ 0 → i.new ≡ i.old
    pub ran : RunsTo image steps status given ended
    pub says : (bytes : List ℕ) → BeginsWith given ended bytes → IsBytes bytes
        → Says (HeapIsExceeded cells) (StackIsExceeded (largest_frame from.made.frames)
        (whole_words stack)) (core_program_meaning from.program bytes) given
        (most_steps from.made.code from.made.addresses) steps status

  -- The status of a text, with so many cells, bytes of stack and steps. At a refusal and for want
  -- of memory nothing was touched.
  abbrev pub Outcome : (text : List ℕ) → (cells stack steps : ℕ) → Status → Type 0
  Outcome text cells stack steps (Refused rule number) =
      IsRunRefusal text rule number × IsUntouched i o
  Outcome text cells stack steps OutOfMemory = IsUntouched i o
  Outcome text cells stack steps status = Runs text cells stack steps status
