-- The programs that vectorising takes.
use Rattle.arity_check.specs.Accepted.{IsValid}
use Rattle.arity_check.specs.Program as core
use Rattle.grin_syntax.specs.Formed.{Formed}
use Rattle.grin_meaning.specs.Ready.{Ready}
use Rattle.flow_system.specs.Solution.{Solution, Solves}
use Rattle.flow_system.specs.System.{system}
use Rattle.flow_system.specs.Tables.{tables}
use Rattle.inline_theory.specs.Applications.{inlined}
use Rattle.grin_translate.specs.Translation.{tr}
use Rattle.vectorise.specs.Whole.{UsesWholeNodes}

-- a translated program whose evaluations and applications are inlined is well formed, ready, and
-- gives whole nodes
abbrev pub VectoriseTakesInlined : Type 0
VectoriseTakesInlined =
    (p : core.Program) → IsValid p → (A : Solution) → Solves (tables (tr p)) (system (tr p)) A
    → Formed (inlined A (tr p)) × Ready (inlined A (tr p)) × UsesWholeNodes (inlined A (tr p))
