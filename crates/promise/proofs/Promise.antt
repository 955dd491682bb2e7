-- What `run FILE` answers is what it promises.
use Rattle.std.proofs.Common.{◌≡◌, ℕ, List, [], ◌++◌, Bool, Option, Some, None, refl, sym, ap, ◌∙◌, subst, append-nil}
use mathlib.Core.Logic.{inl, inr}
use Rattle.core_meaning.specs.Told.{core_program_meaning}
use Rattle.core_meaning.specs.Printing as printing
use Rattle.natural_semantics.specs.Laws.{ToldIsDerived, WhatIsToldIsDerived}
use Rattle.natural_semantics.specs.Prints.{ProgramPrints}
use Rattle.grin_io.specs.Content.{Files}
use Rattle.grin_io.specs.Changes.{ShelfChange, SourceChange, SinkChange, BeginsWith, ReadExactly}
use Rattle.command_line.specs.Commands.{CommandLine, RunFile, CheckFile, ListFile, BuildFile, CostsFile, TraceFile, ProfileFile, ExecImage, GenRun, LinkFiles, LiftFile, MatchFile, TypesFile, SidesFile, PointsFile}
use Rattle.grin_compile.specs.Limits.{HeapIsExceeded, StackIsExceeded, largest_frame, whole_words}
use Rattle.grin_compile.specs.Words.{most_steps}
use Rattle.text_commands.proofs.Texts.{accepted_is_valid}
use Rattle.text_commands.specs.Operands.{HoldsOfOperandFile, text_read_limit}
use Rattle.text_commands.specs.declared.status.Status.{Status}
use Rattle.text_commands.specs.declared.status.Status.TheVariants.{Done, Refused, Usage, NoAlternative, HeapFull, StackFull, StepLimit, Exited, Trapped, OutOfMemory, ReadFault, WriteFault}
use Rattle.grin_driver.specs.Execution.{IsUntouched}
use Rattle.grin_driver.specs.Outcome.{IsImageOf, Outcome}
use Rattle.grin_driver.specs.Answer.{Answers}
use Rattle.promise.specs.Promise.{printing_end, HasCause, ShowsPrinting, Tells, IsPromised, RunKeepsPromise, KeepsPromise}

module _ {F I K : Type 0} (law : WhatIsToldIsDerived) (f : ShelfChange F) (i : SourceChange I)
    (o : SinkChange K) (files : Files) (input before : List ℕ)
    (world : Tells f i o files input before) where
  -- nothing was put out
  same : IsUntouched i o → o.taken o.new ≡ Some (before ++ [])
  same untouched =
      ap o.taken untouched.1 ∙ world.has_output ∙ ap Some (sym (append-nil before))

  module _ (text : List ℕ) (cells stack steps : ℕ) where
    -- something was put out, of which this holds
    abbrev Puts : (List ℕ → Type 0) → Type 0
    Puts Holds = (out : List ℕ) × (o.taken o.new ≡ Some (before ++ out)) × Holds out

    abbrev Gives : Status → Type 0
    Gives status = Puts (λ out. IsPromised f i o text input cells stack steps out status)

    begins : {given : List ℕ} {ended : Bool} → ReadExactly i given ended
        → BeginsWith given ended input
    begins gave = (gave.content input world.has_input).0

    -- an image of the text is that of a valid program
    module _ (file : List ℕ) (from : IsImageOf text cells stack file) where
      derived : ToldIsDerived from.program input
      derived =
          law from.program (accepted_is_valid text from.source from.program from.accepted) input

      shown : (out : List ℕ) (status : Status)
          → ProgramPrints from.program input out (printing_end status)
          → HasCause f i o (core_program_meaning from.program input) (HeapIsExceeded cells)
          (StackIsExceeded (largest_frame from.made.frames) (whole_words stack))
          (most_steps from.made.code from.made.addresses) steps status
          → ShowsPrinting f i o text input cells stack steps out status
      shown out status d cause = record {
        file = file;
        from = from;
        printed = d;
        no_other_end = λ all end. derived.no_other_end out all (printing_end status) end d;
        cause = cause;
      }

      -- it has this end, with all of the output that is told within so many units
      all_is_derived : (out told : List ℕ) (end : printing.PrintingEnd) → out ≡ told
          → ProgramPrints from.program input told end → ProgramPrints from.program input out end
      all_is_derived out told end is d =
          subst (λ bytes. ProgramPrints from.program input bytes end) (sym is) d

    promised : (status : Status) → Outcome i o text cells stack steps status → Gives status
    promised Done runs =
        let says = runs.says input (begins runs.ran.gave) world.are_bytes in
        let took = says.took before world.has_output in
        let all = (derived _ runs.from).ended says.units says.ended in (
          took.0,
          took.1,
          shown _ runs.from took.0 Done (all_is_derived _ runs.from took.0 _ _ took.2 all) tt,
        )
    promised NoAlternative runs =
        let says = runs.says input (begins runs.ran.gave) world.are_bytes in
        let took = says.took before world.has_output in
        let all = (derived _ runs.from).unaccepted says.units says.ended in (
          took.0,
          took.1,
          shown _ runs.from took.0 NoAlternative
              (all_is_derived _ runs.from took.0 _ _ took.2 all) tt,
        )
    promised HeapFull runs =
        let says = runs.says input (begins runs.ran.gave) world.are_bytes in
        let took = says.took before world.has_output in
        let part = (derived _ runs.from).begun took.0 says.units took.2.1 in
        (took.0, took.1, shown _ runs.from took.0 HeapFull part (says.units, says.needs))
    promised StackFull runs =
        let says = runs.says input (begins runs.ran.gave) world.are_bytes in
        let took = says.took before world.has_output in
        let part = (derived _ runs.from).begun took.0 says.units took.2.1 in
        (took.0, took.1, shown _ runs.from took.0 StackFull part (says.units, says.needs))
    promised StepLimit runs =
        let says = runs.says input (begins runs.ran.gave) world.are_bytes in
        let took = says.took before world.has_output in
        let part = (derived _ runs.from).begun took.0 says.units took.2 in (
          took.0,
          took.1,
          shown _ runs.from took.0 StepLimit part (λ n within. (says.keeps_pace n within).0),
        )
    promised ReadFault runs =
        let input_is = (runs.ran.gave.gave.content input world.has_input).0 in
        let says = runs.says input input_is world.are_bytes in
        let took = says.took before world.has_output in
        let part = (derived _ runs.from).begun took.0 says.units took.2 in
        (took.0, took.1, shown _ runs.from took.0 ReadFault part runs.ran.raised)
    promised WriteFault runs =
        let says = runs.says input (begins runs.ran.gave) world.are_bytes in
        let took = says.took before world.has_output in
        let part = (derived _ runs.from).begun took.0 says.units took.2 in
        (took.0, took.1, shown _ runs.from took.0 WriteFault part runs.ran.raised)
    promised (Refused rule number) refused = ([], same refused.1, (refused.0, refl))
    promised OutOfMemory untouched = ([], same untouched, refl)
    promised Usage runs = absurd runs.ran
    promised (Exited code) runs = absurd runs.ran
    promised (Trapped kind pc) runs = absurd runs.ran

module _ {F I K : Type 0} (law : WhatIsToldIsDerived) (f : ShelfChange F) (i : SourceChange I)
    (o : SinkChange K) where
  run_keeps : (file : List ℕ) (cells stack steps : ℕ) (status : Status)
      → HoldsOfOperandFile f text_read_limit (IsUntouched i o) file
      (λ text status. Outcome i o text cells stack steps status) status
      → RunKeepsPromise f i o file cells stack steps status
  run_keeps file cells stack steps status (inl unread) files input before world =
      ([], same law f i o files input before world unread.1, inl (unread.0, refl))
  run_keeps file cells stack steps status (inr (text, taken, ran)) files input before world =
      let gives = promised law f i o files input before world text cells stack steps status ran in
      (gives.0, gives.1, inr (text, (taken files world.has_files).0, gives.2))

  pub keeps_promise : (command : Option CommandLine) (status : Status)
      → Answers f i o command status → KeepsPromise f i o command status
  keeps_promise None status answer = tt
  keeps_promise (Some (RunFile file cells stack steps stats)) status answer =
      run_keeps file cells stack steps status answer
  keeps_promise (Some (CheckFile file)) status answer = tt
  keeps_promise (Some (ListFile file after)) status answer = tt
  keeps_promise (Some (BuildFile file cells stack)) status answer = tt
  keeps_promise (Some (CostsFile file cells stack)) status answer = tt
  keeps_promise (Some (TraceFile file units)) status answer = tt
  keeps_promise (Some (ProfileFile file)) status answer = tt
  keeps_promise (Some (ExecImage image steps stats)) status answer = tt
  keeps_promise (Some (GenRun seed size)) status answer = tt
  keeps_promise (Some (LinkFiles names)) status answer = tt
  keeps_promise (Some (LiftFile file)) status answer = tt
  keeps_promise (Some (MatchFile file)) status answer = tt
  keeps_promise (Some (TypesFile file)) status answer = tt
  keeps_promise (Some (SidesFile file)) status answer = tt
  keeps_promise (Some (PointsFile file)) status answer = tt
