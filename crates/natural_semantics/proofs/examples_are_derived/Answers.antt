use Rattle.natural_semantics.proofs.Derived.{take, twice, sum_is_shared, self_demand}
use Rattle.natural_semantics.proofs.examples_are_derived.Goals as goal

pub returns : goal.returns
returns c = record {
  take = take;
  twice = twice;
  sum_is_shared = sum_is_shared;
  self_demand = self_demand;
}
