use Rattle.std.proofs.Common.{◌≡◌, ◌-◌, ◌+◌, ◌^◌, false, cond}
use Rattle.flow_system.specs.Shown.{tables_of, inclusions_of}
use Rattle.points_to.specs.Known.{held}
use Rattle.points_to.specs.Rounds.{InEvery, AllSatisfied}
use Rattle.points_to.proofs.rounds.least_facts.Given as goal

abbrev pub invariant-rounds : goal.invariant-rounds
invariant-rounds l = record {
  sound : InEvery (tables_of l.system) (inclusions_of l.system) (held l.facts);
  done : l.more ≡ false → AllSatisfied (tables_of l.system) (inclusions_of l.system) (held l.facts);
}

abbrev pub decreases-rounds : goal.decreases-rounds
decreases-rounds l = (2 ^ 64 - l.facts.count) + cond l.more 1 0
