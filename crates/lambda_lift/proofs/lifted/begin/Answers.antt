use Rattle.std.proofs.Common.{ap, ◌∙◌}
use Rattle.core_reader.specs.Grammar.{name_id}
use Rattle.lambda_lift.specs.Lifted.{arguments, parameters, lifted_name}
use Rattle.lambda_lift.specs.Gathered.{program_of_names}
use Rattle.lambda_lift.proofs.lifted.begin.Goals as goal

pub returns-clause-made : goal.returns-clause-made
returns-clause-made c = (_, c.in_ok-push.ensures.ok)

pub returns-clause-name : goal.returns-clause-name
returns-clause-name c = c.in_ok-name.ensures
    ∙ ap (λ n. name_id (lifted_name (program_of_names c.args.words.now) n)) c.len.ensures

pub returns-clause-args : goal.returns-clause-args
returns-clause-args c =
    c.in_ok-args.ensures ∙ ap (arguments c.args.at) (c.as_slice.ensures ∙ c.in_ok-free.ensures)

pub returns-clause-params : goal.returns-clause-params
returns-clause-params c =
    c.in_ok-all.ensures ∙ ap (parameters c.args.at) (c.as_slice-2.ensures ∙ c.in_ok-free.ensures)
