-- The profile of the run of a text's image on no input, told as a text, and what each status says of
-- it.
use Rattle.std.specs.Prelude.{◌≡◌, ℕ, ◌+◌, List, [], map, length, Some, slice_get}
use Rattle.seq.specs.Lists.{times, sum_of}
use Rattle.elf32.specs.Image.{Image}
use Rattle.elf32.specs.Rules.{Loads}
use Rattle.grin_syntax.specs.SameOutside.{names_of}
use Rattle.grin_meaning.specs.Told.{entered_by_grin}
use Rattle.grin_io.specs.Changes.{SinkChange}
use Rattle.rv32_machine.specs.Steps.{start_of}
use Rattle.rv32_machine.specs.Runs.{IsCount}
use Rattle.rv32_steps.specs.Trace.{trace, procedures_at}
use Rattle.image_trace.specs.declared.profile.Count.{Count}
use Rattle.image_trace.specs.Profile.{counts_in, outside, profile_text}
use Rattle.grin_compile.specs.Words.{code_words}
use Rattle.text_commands.specs.declared.status.Status.{Status}
use Rattle.text_commands.specs.Writing.{Writes}
use Rattle.grin_driver.specs.Outcome.{IsRunRefusal, IsImageOf}
use Rattle.limits.specs.Limits.{default_cells, default_stack, default_steps}

-- These bytes are the profile of the run of an image that is made of the text, with the heap, the
-- stack and the steps that `run` gives by default. Its procedures have the names of the last stage,
-- of which the image's code is made, and the words of code that `costs` tells.
pub record IsProfileText (text bytes : List ℕ) : Type 0 where
  pub file : List ℕ
  pub from : IsImageOf text default_cells default_stack file
  pub image : Image
  pub loads : Loads file image
  pub way : List ℕ
  pub is_way : way ≡ trace default_steps [] (start_of image)
  -- it has the place of each instruction that is done
  pub is_count : IsCount (length way) default_steps [] (start_of image)
  pub counts : List Count
  pub are_counts :
      counts
      ≡ counts_in way from.made.addresses (code_words from.made.code from.made.addresses)
  -- each procedure is entered as often as the stage enters it
  pub entries : (f : ℕ) (c : Count) → slice_get counts f ≡ Some c →
      let units = length (procedures_at from.made.addresses way) in
      c.entries ≡ times f (entered_by_grin from.made.g [] units)
  pub sums_up : outside (length way) counts + sum_of (map (λ c. c.instructions) counts) ≡ length way
  pub is_text : bytes ≡ profile_text (names_of from.made.g.procs) (length way) counts

-- The status of a text whose profile is put, and what became of the sink: puts of the pieces of the
-- profile, and none at a refusal or for want of memory.
abbrev pub IsProfileOutcome : {K : Type 0} → SinkChange K → (text : List ℕ) → Status → Type 0
IsProfileOutcome o text status = Writes IsProfileText IsRunRefusal o text status
