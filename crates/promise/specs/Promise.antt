-- What `run FILE` does in every world that tells its files, its input and its output. What is put
-- out, and how it ends, is what the relation of evaluation by need derives. The evaluator tells
-- only why a run stopped early: of cells, of nesting, and of units, which are its time.
use Rattle.std.specs.Prelude.{◌≡◌, ◌≢◌, ◌≤◌, ◌⊎◌, ℕ, ◌+◌, ◌*◌, List, [], ◌++◌, Option, Some}
use Rattle.core_meaning.specs.Printing as printing
use Rattle.core_meaning.specs.Printing.{PrintingEnd, Unaccepted, Going}
use Rattle.core_meaning.specs.Told.{core_program_meaning}
use Rattle.natural_semantics.specs.Prints.{ProgramPrints}
use Rattle.headline.specs.Carries.{going, MeaningResult as Telling, IsBytes, IsPrefixOf}
use Rattle.grin_io.specs.Causes.{CountGrew}
use Rattle.grin_io.specs.Content.{Files, file_named}
use Rattle.grin_io.specs.Changes.{ShelfChange, SourceChange, SinkChange}
use Rattle.command_line.specs.Commands.{CommandLine, RunFile}
use Rattle.grin_compile.specs.Limits.{HeapIsExceeded, StackIsExceeded, largest_frame, whole_words}
use Rattle.grin_compile.specs.Words.{most_steps}
use Rattle.text_commands.specs.declared.status.Status.{Status}
use Rattle.text_commands.specs.declared.status.Status.TheVariants.{Done, Refused, NoAlternative, HeapFull, StackFull, StepLimit, OutOfMemory, ReadFault, WriteFault}
use Rattle.text_commands.specs.Reading.{IsUnread}
use Rattle.grin_driver.specs.Outcome.{IsRunRefusal, IsImageOf}

-- how the printing stands by the status of a run: its list has ended, or a value that nothing
-- accepts was met, or it goes on behind what was put out
abbrev pub printing_end : Status → PrintingEnd
printing_end Done = printing.Done
printing_end NoAlternative = Unaccepted
printing_end status = Going

module _ {F I K : Type 0} (f : ShelfChange F) (i : SourceChange I) (o : SinkChange K) where
  -- Why a run stopped early. What the evaluator tells within so many units is `told`: within some,
  -- more cells or a deeper nesting than there is room for; or no end within those that the steps
  -- are enough for.
  module _ (told : ℕ → Telling) (OutOfHeap OutOfStack : Telling → Type 0) (each steps : ℕ) where
    abbrev pub HasCause : Status → Type 0
    HasCause Done = Unit {0}
    HasCause NoAlternative = Unit {0}
    HasCause HeapFull = (n : ℕ) × OutOfHeap (told n)
    HasCause StackFull = (n : ℕ) × OutOfStack (told n)
    HasCause StepLimit = (n : ℕ) → each * (n + 1) ≤ steps → (told n).end ≡ going
    HasCause ReadFault = CountGrew (i.faults i.old) (i.faults i.new)
    HasCause WriteFault = CountGrew (o.faults o.old) (o.faults o.new)
    HasCause _ = ⊥

  -- An image of the text was run on the input. Its program's printing is derived to put out just
  -- what the run put out, and to stand as the status says. Whatever end of it is derived, the run
  -- put out a beginning of that, and all of it with the same end, unless it stopped early. Where it
  -- did, the status has its cause.
  pub record ShowsPrinting (text input : List ℕ) (cells stack steps : ℕ) (out : List ℕ)
      (status : Status) : Type 0 where
    pub file : List ℕ
    pub from : IsImageOf text cells stack file
    pub printed : ProgramPrints from.program input out (printing_end status)
    pub no_other_end : (all : List ℕ) (end : PrintingEnd) → end ≢ Going
        → ProgramPrints from.program input all end → IsPrefixOf out all
        × ((printing_end status ≡ Going) ⊎ ((out ≡ all) × (printing_end status ≡ end)))
    pub cause : HasCause (core_program_meaning from.program input) (HeapIsExceeded cells)
        (StackIsExceeded (largest_frame from.made.frames) (whole_words stack))
        (most_steps from.made.code from.made.addresses) steps status

  -- the status of the text; where it is refused, and for want of memory, nothing is put out
  abbrev pub IsPromised : (text input : List ℕ) → (cells stack steps : ℕ) → (out : List ℕ) → Status
      → Type 0
  IsPromised text input cells stack steps out (Refused rule number) =
      IsRunRefusal text rule number × (out ≡ [])
  IsPromised text input cells stack steps out OutOfMemory = out ≡ []
  IsPromised text input cells stack steps out status =
      ShowsPrinting text input cells stack steps out status

  -- a world that tells what it has: these files, this input, and this on the output
  pub record Tells (files : Files) (input before : List ℕ) : Type 0 where
    pub has_files : f.content f.old ≡ Some files
    pub has_input : i.left i.old ≡ Some input
    pub are_bytes : IsBytes input
    pub has_output : o.taken o.old ≡ Some before

  -- In every such world the run put something out behind what stood there, maybe nothing. The file
  -- was not read, and the status says why, and nothing was put out; or the status is that of its
  -- text.
  abbrev pub RunKeepsPromise : (file : List ℕ) → (cells stack steps : ℕ) → Status → Type 0
  RunKeepsPromise file cells stack steps status =
      (files : Files) (input before : List ℕ) → Tells files input before
      → (out : List ℕ) × (o.taken o.new ≡ Some (before ++ out))
      × ((IsUnread f status × (out ≡ []))
      ⊎ ((text : List ℕ) × (file_named file files.named ≡ Some text)
      × IsPromised text input cells stack steps out status))

  -- the same by the words of a command line
  abbrev pub KeepsPromise : Option CommandLine → Status → Type 0
  KeepsPromise (Some (RunFile file cells stack steps stats)) status =
      RunKeepsPromise file cells stack steps status
  KeepsPromise command status = Unit {0}
