use Rattle.std.proofs.Common.{subst}
use Rattle.natural_semantics.proofs.any.OneAnswer.{says_what_runs_do}
use Rattle.natural_semantics.specs.any.Laws.{SaysWhatRunsDo}
use Rattle.natural_texts.specs.Lambdas.{lambda_program}
use Rattle.natural_texts.proofs.Lambdas.{runs_performed}
use Rattle.natural_texts.proofs.relation_of_lambdas.Goals as goal

pub returns : goal.returns
returns c = λ q. subst (λ run. SaysWhatRunsDo (lambda_program q) run) (runs_performed q)
    (says_what_runs_do (lambda_program q))
