-- Inlining of evaluations and applications keeps what a program does.
use Rattle.std.specs.Prelude.{◌<◌}
use Rattle.grin_syntax.specs.Tree.{Program}
use Rattle.grin_syntax.specs.Fresh.{past_procs}
use Rattle.grin_meaning.specs.Keeps.{Keeps}
use Rattle.grin_meaning.specs.Looking.{NeverMissing}
use Rattle.grin_meaning.specs.Names.{ProcsOk}
use Rattle.flow_system.specs.Tables.{tables}
use Rattle.flow_system.specs.System.{system}
use Rattle.flow_system.specs.Solution.{Solution, Solves}
use Rattle.flow_system.specs.Covers.{CanBeStarted}
use Rattle.inline_theory.specs.Evaluations.{eval_inlined}
use Rattle.inline_theory.specs.Applications.{inlined}

-- every variable that is used is bound somewhere, so the variables past those that are bound are
-- fresh
abbrev pub UsedVariablesAreBound : Program → Type 0
UsedVariablesAreBound p = ProcsOk (λ y. y < past_procs p.procs) p.procs

abbrev pub EvalInliningKeeps : Type 0
EvalInliningKeeps =
    (p : Program) (A : Solution) → CanBeStarted p → UsedVariablesAreBound p
    → Solves (tables p) (system p) A → Keeps p (eval_inlined A p)

abbrev pub InliningKeeps : Type 0
InliningKeeps =
    (p : Program) (A : Solution) → CanBeStarted p → UsedVariablesAreBound p
    → Solves (tables p) (system p) A → Keeps p (inlined A p)

-- inlining of applications, once evaluations are inlined by the same solution of the program before
abbrev pub ApplyInliningKeeps : Type 0
ApplyInliningKeeps =
    (p : Program) (A : Solution) → CanBeStarted p → UsedVariablesAreBound p
    → Solves (tables p) (system p) A
    → NeverMissing p → Keeps (eval_inlined A p) (inlined A p)
