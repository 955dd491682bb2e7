-- Programs whose evaluations were inlined.
use Rattle.std.specs.Prelude.{◌≡◌}
use Rattle.grin_syntax.specs.Tree.{Program}
use Rattle.flow_system.specs.Solution.{Solution}
use Rattle.inline_theory.specs.Evaluations.{eval_inlined}
use Rattle.inline_theory.specs.Analysed.{IsAnalysed}
use Rattle.grin_meaning.specs.Looking.{NeverMissing}

-- what became of an analysed program, no run of which is missing, by the same solution
pub record IsEvalInlined (A : Solution) (q : Program) : Type 0 where
  pub before : Program
  pub analysed : IsAnalysed A before
  pub never_missing : NeverMissing before
  pub inlined : q ≡ eval_inlined A before
