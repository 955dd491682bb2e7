use Rattle.std.proofs.Common.{◌≡◌, ◌-◌, ◌+◌, ◌*◌, ◌^◌, false, [], length, cond}
use Rattle.flow_system.specs.Shown.{tables_of, inclusions_of}
use Rattle.points_to.specs.Waiting.{waiting}
use Rattle.points_to.specs.Worklist.{WorklistInvariant}
use Rattle.points_to.proofs.worklist.least_facts.Given as goal

abbrev pub invariant-turns : goal.invariant-turns
invariant-turns l = record {
  stands : WorklistInvariant (tables_of l.system) (inclusions_of l.system) l.list;
  done : l.more ≡ false → waiting l.list.pending ≡ [];
}

abbrev pub decreases-turns : goal.decreases-turns
decreases-turns l = ((2 ^ 64 - l.list.facts.count) * 2 ^ 71 + length (waiting l.list.pending)) +
    cond l.more 1 0
