-- The translated program does what the program means.
use Rattle.std.specs.Prelude.{◌≡◌, ℕ, ◌≤◌, List, length}
use Rattle.arity_check.specs.Accepted.{IsValid}
use Rattle.arity_check.specs.Program.{Program}
use Rattle.core_meaning.specs.Printing as core
use Rattle.core_meaning.specs.Printing.{PrintedRun, Done, Unaccepted, Going, printed}
use Rattle.grin_meaning.specs.Values.{no_alternative, out_of_units}
use Rattle.grin_meaning.specs.Run.{run}
use Rattle.grin_meaning.specs.Keeps.{RunEnd, done, ended, end_of, world_of}
use Rattle.grin_translate.specs.Translation.{tr}
use Rattle.grin_translate.specs.WellFormed.{WellFormed}

-- how a run of GRIN ends where evaluation ends so; it is never missing
abbrev pub grin_end_of : core.PrintingEnd → RunEnd
grin_end_of Done = done
grin_end_of Unaccepted = ended no_alternative
grin_end_of Going = ended out_of_units

-- the same output, end and bytes taken, with no more cells and no deeper
pub record BehavesAsProgram (p : Program) (i : List ℕ) (n : ℕ) : Type 0 where
  pub same_out : (world_of (run (tr p) i n)).out ≡ (printed p i n).out
  pub same_end : end_of (run (tr p) i n) ≡ grin_end_of (printed p i n).end
  pub same_used : (world_of (run (tr p) i n)).used ≡ (printed p i n).used
  pub no_more_cells : length (world_of (run (tr p) i n)).cells ≤ (printed p i n).cells
  pub no_deeper : (world_of (run (tr p) i n)).depth ≤ (printed p i n).depth

abbrev pub TranslationPreservesRuns : Type 0
TranslationPreservesRuns =
    (p : Program) → WellFormed p → (i : List ℕ) (n : ℕ) → BehavesAsProgram p i n

abbrev pub ValidTranslationPreservesRuns : Type 0
ValidTranslationPreservesRuns =
    (p : Program) → IsValid p → (i : List ℕ) (n : ℕ) → BehavesAsProgram p i n
