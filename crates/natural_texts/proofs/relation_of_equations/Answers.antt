use Rattle.std.proofs.Common.{subst}
use Rattle.natural_semantics.proofs.any.OneAnswer.{says_what_runs_do}
use Rattle.natural_semantics.specs.any.Laws.{SaysWhatRunsDo}
use Rattle.natural_texts.specs.Equations.{equation_program}
use Rattle.natural_texts.proofs.Equations.{runs_performed}
use Rattle.natural_texts.proofs.relation_of_equations.Goals as goal

pub returns : goal.returns
returns c = λ q. subst (λ run. SaysWhatRunsDo (equation_program q) run) (runs_performed q)
    (says_what_runs_do (equation_program q))
