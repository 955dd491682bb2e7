-- What each status says of a text that is listed after what the command line says.
use Rattle.std.specs.Prelude.{ℕ, List}
use Rattle.command_line.specs.declared.command.Listing.{Listing}
use Rattle.command_line.specs.declared.command.Listing.TheVariants.{Read, Stage, Code}
use Rattle.grin_io.specs.Changes.{SinkChange}
use Rattle.text_commands.specs.declared.status.Status.{Status}
use Rattle.grin_driver.specs.Listing.{IsListOutcome}
use Rattle.text_commands.specs.Printing.{IsPrintOutcome}
use Rattle.grin_driver.specs.CodeListing.{IsCodeListOutcome}
use Rattle.limits.specs.Limits.{default_cells, default_stack}

-- The canonical text, a stage, or the code, which is that of the image with the heap and the stack
-- that `build` gives it by default.
abbrev pub IsListAfterOutcome : {K : Type 0} → SinkChange K → (text : List ℕ)
    → Listing → Status → Type 0
IsListAfterOutcome o text Read status = IsPrintOutcome o text status
IsListAfterOutcome o text (Stage stage) status = IsListOutcome o text stage status
IsListAfterOutcome o text Code status = IsCodeListOutcome o text default_cells default_stack status
