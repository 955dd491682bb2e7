use Rattle.std.proofs.Common.{◌≡◌, ◌≤◌, ◌+◌, ◌*◌, length}
use Rattle.core_types.specs.Source.{WrittenTypes, NoTypes}
use Rattle.core_types.specs.SourceOf.{types_in}
use Rattle.core_types.specs.Reading.{Frame, Own, nests, CollectsTypes}
use Rattle.core_types.specs.Reading as reading
use Rattle.core_types.proofs.reader.+types.Given as goal

abbrev pub decreases-one_type : goal.decreases-one_type
decreases-one_type l = 4 * length l.parser.now.rest.now

abbrev pub decreases-types : goal.decreases-types
decreases-types l = 4 * length l.parser.now.rest.now + 1

abbrev pub decreases-applied : goal.decreases-applied
decreases-applied l = 4 * length l.parser.now.rest.now + 2

abbrev pub decreases-behind_first : goal.decreases-behind_first
decreases-behind_first l = 4 * length l.parser.now.rest.now

abbrev pub decreases-in_brackets : goal.decreases-in_brackets
decreases-in_brackets l = 4 * length l.parser.now.rest.now + 3

abbrev pub invariant-types-loop-parser : goal.invariant-types-loop-parser
invariant-types-loop-parser l = record {
  reads : (state : WrittenTypes → Own) (frame : WrittenTypes → Frame) → CollectsTypes state frame
      → ((ts : WrittenTypes) → nests (frame ts) ≡ l.fn.parser.depth)
      → reading.at (state NoTypes) l.fn.parser.rest.now ≡ reading.at
      (state (types_in l.types.items)) l.parser.rest.now;
  shorter : length l.parser.rest.now ≤ length l.fn.parser.rest.now;
  depth : l.parser.depth ≡ l.fn.parser.depth;
}

abbrev pub decreases-types-loop-parser : goal.decreases-types-loop-parser
decreases-types-loop-parser l = length l.parser.rest.now
