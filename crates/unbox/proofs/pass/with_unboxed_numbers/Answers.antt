use Rattle.unbox.proofs.Contract.{by_least}
use Rattle.unbox.proofs.pass.with_unboxed_numbers.Goals as goal

pub returns : goal.returns
returns c = by_least c.in_ok-flow.ensures c.in_ok-members.ensures c.in_ok-h.ensures
