-- The run that looks: something is missing in it, beside where it is in a run, where a procedure, a
-- bound case or a bound nested block gives a delayed call or a number without its zeros, where a
-- delayed call goes into a node variable that no fetch fills, and where a vector that a unit, a
-- store or an update takes has more than zeros past its tag's fields.
use Rattle.std.specs.Prelude.{ℕ, ◌≡◌, ◌≢◌, List, true}
use Rattle.grin_syntax.specs.Tree.{Program}
use Rattle.grin_meaning.specs.Values.{Answer, missing}
use Rattle.grin_meaning.specs.Run.{run, run_by}
use Rattle.grin_meaning.specs.Keeps.{ended, end_of}
use Rattle.grin_meaning.specs.Ready.{IsInlined, RunsWell}

abbrev pub checked_run : Program → List ℕ → ℕ → Answer
checked_run g = run_by g true

-- no run of the program is missing
abbrev pub NeverMissing : Program → Type 0
NeverMissing g = (i : List ℕ) (n : ℕ) → end_of (run g i n) ≢ ended missing

-- no looking run of the program is missing
abbrev pub CheckedRunsNeverMissing : Program → Type 0
CheckedRunsNeverMissing g = (i : List ℕ) (n : ℕ) → end_of (checked_run g i n) ≢ ended missing

-- a looking run of an inlined program is never missing exactly where its runs are well and never
-- missing, and then it is the run
pub record ChecksAreExact (g : Program) : Type 0 where
  pub sees : NeverMissing g → ((i : List ℕ) (n : ℕ) → RunsWell g i n) → CheckedRunsNeverMissing g
  pub never_missing : CheckedRunsNeverMissing g → NeverMissing g
  pub runs_well : CheckedRunsNeverMissing g → (i : List ℕ) (n : ℕ) → RunsWell g i n
  pub same : CheckedRunsNeverMissing g → (i : List ℕ) (n : ℕ) → checked_run g i n ≡ run g i n

abbrev pub ChecksDecideGoodRuns : Type 0
ChecksDecideGoodRuns = (g : Program) → IsInlined g → ChecksAreExact g
