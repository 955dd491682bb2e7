-- The procedures that the image of a text enters on no input, told as a text, and what each status
-- says of it.
use Rattle.std.specs.Prelude.{◌≡◌, ℕ, List, [], length, take}
use Rattle.elf32.specs.Image.{Image}
use Rattle.elf32.specs.Rules.{Loads}
use Rattle.grin_syntax.specs.SameOutside.{names_of}
use Rattle.grin_meaning.specs.Told.{entered_by_grin}
use Rattle.grin_io.specs.Changes.{SinkChange}
use Rattle.rv32_machine.specs.Steps.{start_of}
use Rattle.image_trace.specs.declared.entries.Entry.{Entry}
use Rattle.image_trace.specs.Entries.{states, entries_at, procedures_of}
use Rattle.image_trace.specs.Lines.{trace_text}
use Rattle.text_commands.specs.declared.status.Status.{Status}
use Rattle.text_commands.specs.Writing.{Writes}
use Rattle.grin_driver.specs.Outcome.{IsRunRefusal, IsImageOf}
use Rattle.limits.specs.Limits.{default_cells, default_stack, default_steps}

-- These bytes are the trace of the first entries, so many at most, of the run of an image that is
-- made of the text, with the heap, the stack and the steps that `run` gives by default. The
-- procedures are those that the last stage, of which the image's code is made, enters first.
pub record IsTraceText (text : List ℕ) (units : ℕ) (bytes : List ℕ) : Type 0 where
  pub file : List ℕ
  pub from : IsImageOf text default_cells default_stack file
  pub image : Image
  pub loads : Loads file image
  pub entries : List Entry
  pub are_first :
      entries
      ≡ take units (entries_at from.made.addresses (states default_steps [] (start_of image)))
  pub entered : procedures_of entries ≡ entered_by_grin from.made.g [] (length entries)
  pub is_text : bytes ≡ trace_text (names_of from.made.g.procs) entries

-- The status of a text whose trace is put, and what became of the sink: puts of the pieces of the
-- trace, and none at a refusal or for want of memory.
abbrev pub IsTraceOutcome : {K : Type 0} → SinkChange K → (text : List ℕ) → (units : ℕ)
    → Status → Type 0
IsTraceOutcome o text units status =
    Writes (λ text. IsTraceText text units) IsRunRefusal o text status
