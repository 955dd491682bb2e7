use Rattle.std.proofs.Common.{arith}
use Rattle.arity_raise.proofs.Each.{in_place}
use Rattle.arity_raise.proofs.cells.first_tag.Goals as goal

pub returns : goal.returns
returns c = in_place (λ t. t.0) c.args.tags.now 0 (record { 0 = 0 }) (omega arith)
