-- What the error output takes of a status.
use Rattle.std.specs.Prelude.{◌≡◌, ◌⊎◌, ℕ, ◌≤◌, List, ◌++◌, Bool, Some}
use Rattle.grin_io.specs.Causes.{CountGrew}
use Rattle.grin_io.specs.Changes.{KnownContent, SinkChange}
use Rattle.text_commands.specs.declared.status.Status.{Status}
use Rattle.text_commands.specs.declared.status.Status.TheVariants.{Done}
use Rattle.text_commands.specs.Statuses.{error_line_of}

-- one put of these bytes, and nothing else
abbrev pub IsSinglePut : {K : Type 0} → SinkChange K → List ℕ → Type 0
IsSinglePut o piece = (whole : Bool) × o.gives o.old piece whole o.new

-- no put at Done, and else one put of the line
abbrev pub PutsLineUnlessDone : {K : Type 0} → SinkChange K → Status → Type 0
PutsLineUnlessDone o Done = o.new ≡ o.old
PutsLineUnlessDone o status = IsSinglePut o (error_line_of status)

-- The line of a status is told: by at most one put, and where the sink's count did not rise it took
-- just the line.
pub record StatusIsPrinted {K : Type 0} (o : SinkChange K) (status : Status) : Type 0 where
  pub puts : PutsLineUnlessDone o status
  pub later : o.faults o.old ≤ o.faults o.new
  pub line : CountGrew (o.faults o.old) (o.faults o.new)
      ⊎ KnownContent (o.taken o.old) (λ before.
      o.taken o.new ≡ Some (before ++ error_line_of status))
