use Rattle.std.proofs.Common.{◌≡◌, take}
use Rattle.flow_system.specs.Written.{shown}
use Rattle.flow_system.specs.Readers.{readers_from}
use Rattle.flow_system.specs.Rows.{RowBelongsToSet}
use Rattle.flow_system.proofs.rows.rows.Given as goal

abbrev pub invariant-loop-inclusion : goal.invariant-loop-inclusion
invariant-loop-inclusion l = record {
  counted : l.number ≡ l.inclusion-index;
  noted
      : RowBelongsToSet l.sets (λ q. readers_from 0 q (shown (take l.inclusion-index l.inclusions)))
      l.rows.items;
}
