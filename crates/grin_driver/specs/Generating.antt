-- What each status says of a generated text that is compiled and run, on no input and into a sink
-- of 4,096 bytes.
use Rattle.std.specs.Prelude.{◌≡◌, ◌⊎◌, ℕ, ◌<◌, ◌≤◌, ◌+◌, ◌*◌, List, [], ◌∷◌, ◌++◌, length, codes, decimal, Option, Some, None, zero, suc}
use Rattle.core_reader.specs.Size.{program_size}
use Rattle.core_meaning.specs.Told.{core_program_meaning}
use Rattle.elf32.specs.Image.{Image}
use Rattle.elf32.specs.Rules.{Loads}
use Rattle.headline.specs.Carries.{MachineStatus, runs, exits, MachineObservation, Comes, ReachesResult}
use Rattle.rv32_steps.specs.Seen.{observed_image}
use Rattle.grin_io.specs.Changes.{SinkChange, TookExactly, PutFailed}
use Rattle.grin_compile.specs.Limits.{HeapIsExceeded, StackIsExceeded, largest_frame}
use Rattle.grin_compile.specs.Words.{most_steps}
use Rattle.text_commands.specs.declared.status.Status.{Status}
use Rattle.text_commands.specs.declared.status.Status.TheVariants.{Done, Refused, NoAlternative, HeapFull, StackFull, StepLimit, OutOfMemory, WriteFault}
use Rattle.grin_driver.specs.Outcome.{IsRunRefusal, IsImageOf}
use Rattle.seq.specs.Lists.{sum_of}
use Rattle.limits.specs.Limits.{default_cells, default_stack, default_steps}

-- ---- a run with the defaults

-- what is seen of an image on no input after the number of steps that `run` takes by default
abbrev pub seen_of : Image → MachineObservation
seen_of image = observed_image image [] default_steps

-- the status that names how a run stands, if one does
abbrev pub status_by : MachineStatus → Option Status
status_by runs = Some StepLimit
status_by (exits zero) = Some Done
status_by (exits (suc (suc (suc zero)))) = Some NoAlternative
status_by (exits (suc (suc (suc (suc zero))))) = Some HeapFull
status_by (exits (suc (suc (suc (suc (suc zero)))))) = Some StackFull
status_by _ = None

-- an image that is made of the text with the heap and the stack that `run` gives by default
abbrev pub IsDefaultImageOf : (text file : List ℕ) → Type 0
IsDefaultImageOf text file = IsImageOf text default_cells default_stack file

-- the run of the image wrote at most 4,096 bytes, its end has this status, and so many units of the
-- program tell what is seen
pub record EndsWithStatus {text file : List ℕ} (from : IsDefaultImageOf text file)
    (status : Status) : Type 0 where
  pub image : Image
  pub loads : Loads file image
  pub few : length (seen_of image).out ≤ 4096
  pub ended : status_by (seen_of image).finish ≡ Some status
  pub units : ℕ
  pub comes :
      Comes (HeapIsExceeded default_cells)
      (StackIsExceeded (largest_frame from.made.frames) default_stack)
      (core_program_meaning from.program []) units (seen_of image)
  -- for whatever number of units the steps are enough, the run has come as far as the program
  -- does within them
  pub keeps_pace :
      (n : ℕ) → most_steps from.made.code from.made.addresses * (n + 1) ≤ default_steps
      → ReachesResult (core_program_meaning from.program [] n) (seen_of image)

-- the run of the image wrote more
pub record WritesTooMuch {text file : List ℕ} (from : IsDefaultImageOf text file) : Type 0 where
  pub image : Image
  pub loads : Loads file image
  pub many : 4096 < length (seen_of image).out

-- ---- the summary

-- the bytes of a text, the functions and the size of its program, the bytes of its output and
-- their sum
unfoldable pub summary : (bytes functions size output sum : ℕ) → List ℕ
summary bytes functions size output sum =
    codes "text " ++ (decimal bytes ++ (codes " functions " ++ (decimal functions
    ++ (codes " size " ++ (decimal size ++ (codes " output " ++ (decimal output
    ++ (codes " sum " ++ (decimal sum ++ codes "\n")))))))))

-- the summary of a text whose program tells this output
abbrev pub summary_of : {text file : List ℕ} → IsDefaultImageOf text file → (out : List ℕ) → List ℕ
summary_of {text} from out =
    summary (length text) (length from.program.funs) (program_size from.source)
    (length out) (sum_of out)

-- the program of the image is done, and within the units that end it it tells these bytes
pub record IsOutput {text file : List ℕ} (from : IsDefaultImageOf text file)
    (out : List ℕ) : Type 0 where
  pub ended : EndsWithStatus from Done
  pub is_output : out ≡ (core_program_meaning from.program [] ended.units).out

-- these bytes are the summary of the text, of which an image is made whose program is done
pub record IsSummary (text bytes : List ℕ) : Type 0 where
  pub file : List ℕ
  pub from : IsDefaultImageOf text file
  pub out : List ℕ
  pub is_output : IsOutput from out
  pub is_summary : bytes ≡ summary_of from out

-- ---- the statuses

-- the text has an image of which this holds
abbrev pub HoldsOfImage :
    (text : List ℕ) → ((file : List ℕ) → IsDefaultImageOf text file → Type 0) → Type 0
HoldsOfImage text Holds = (file : List ℕ) × ((from : IsDefaultImageOf text file) × Holds file from)

-- why the program of an image isn't done
abbrev pub IsUndone : {text file : List ℕ} → IsDefaultImageOf text file → Status → Type 0
IsUndone from (Refused rule number) = (rule ≡ 50) × (number ≡ 4096) × WritesTooMuch from
IsUndone from OutOfMemory = Unit {0}
IsUndone from NoAlternative = EndsWithStatus from NoAlternative
IsUndone from HeapFull = EndsWithStatus from HeapFull
IsUndone from StackFull = EndsWithStatus from StackFull
IsUndone from StepLimit = EndsWithStatus from StepLimit
IsUndone from _ = ⊥

-- which rule refuses the text: one of those that refuse a run, or rule 50, at the bytes that the
-- sink has room for
abbrev pub IsNotGenerated : (text : List ℕ) → (rule number : ℕ) → Type 0
IsNotGenerated text rule number =
    IsRunRefusal text rule number
    ⊎ HoldsOfImage text (λ file from. IsUndone from (Refused rule number))

-- why a text has no summary
abbrev pub IsGenerateFailure : (text : List ℕ) → Status → Type 0
IsGenerateFailure text (Refused rule number) = IsNotGenerated text rule number
IsGenerateFailure text OutOfMemory = Unit {0}
IsGenerateFailure text status = HoldsOfImage text (λ file from. IsUndone from status)

-- The status of the text, and what became of the sink: one put of the summary where the program is
-- done, and else none.
abbrev pub Generates : {K : Type 0} → SinkChange K → (text : List ℕ) → Status → Type 0
Generates o text Done = (bytes : List ℕ) × IsSummary text bytes × TookExactly o (bytes ∷ [])
Generates o text WriteFault = (bytes : List ℕ) × IsSummary text bytes × PutFailed o (bytes ∷ [])
Generates o text status = IsGenerateFailure text status × (o.new ≡ o.old)
