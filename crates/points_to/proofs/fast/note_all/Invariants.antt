use Rattle.std.proofs.Common.{◌≡◌}
use Rattle.flow_system.specs.Shown.{tables_of, inclusions_of}
use Rattle.points_to.specs.Copies.{IsReached}
use Rattle.points_to.proofs.fast.note_all.Given as goal

abbrev pub invariant-loop-inclusion : goal.invariant-loop-inclusion
invariant-loop-inclusion l = record {
  reached : IsReached (tables_of l.system) (inclusions_of l.system) l.initial.state
      → IsReached (tables_of l.system) (inclusions_of l.system) l.state;
  number : l.n ≡ l.inclusion-index;
}
