use Rattle.arity_raise.proofs.Contract.{by_least}
use Rattle.arity_raise.proofs.pass.with_raised_params.Goals as goal

pub with_fields-requires : goal.with_fields-requires
with_fields-requires c = c.in_ok-plan.ensures.as_many

pub returns : goal.returns
returns c = by_least c.in_ok-flow.ensures c.in_ok-plan.ensures.decided c.in_ok-h.ensures
