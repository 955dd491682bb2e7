-- What holds of programs for the passes after the inlining.
use Rattle.std.specs.Prelude.{◌<◌, ◌^◌}
use Rattle.arity_check.specs.Accepted.{IsValid}
use Rattle.arity_check.specs.Program as core
use Rattle.grin_syntax.specs.Formed.{Formed}
use Rattle.grin_meaning.specs.Ready.{Ready}
use Rattle.flow_system.specs.Covers.{CanBeStarted}
use Rattle.flow_system.specs.Solution.{Solution, Solves}
use Rattle.inline_theory.specs.Applications.{inlined, inlined_size}
use Rattle.flow_system.specs.System.{system}
use Rattle.flow_system.specs.Tables.{tables}
use Rattle.grin_translate.specs.Translation.{tr}

-- A translated program whose evaluations and applications are inlined by a solution of its flow
-- system is well formed, can be started, and is ready for the passes after.
abbrev pub InlinedProgramsAreReady : Type 0
InlinedProgramsAreReady =
    (p : core.Program) → IsValid p → (A : Solution) → Solves (tables (tr p)) (system (tr p)) A
    → Formed (inlined A (tr p)) × CanBeStarted (inlined A (tr p)) × Ready (inlined A (tr p))

-- Whichever tags a solution has, the size of the inlined program is a number of 64 bits.
abbrev pub InlinedSizesFit : Type 0
InlinedSizesFit = (p : core.Program) → IsValid p → (A : Solution) → inlined_size A (tr p) < 2 ^ 64
