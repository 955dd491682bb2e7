use Rattle.std.proofs.Common.{◌≡◌, ◌≤◌, length, ◌+◌, ◌*◌, map}
use Rattle.core_reader.specs.AroundOf.{Outside}
use Rattle.match_compile.specs.Source.{NoPats}
use Rattle.match_compile.specs.SourceOf.{pat_of, pats_of}
use Rattle.match_compile.specs.Reading.{EquationStart, Place, opens, Matching, run}
use Rattle.match_compile.proofs.patterns.+patterns.Given as goal

abbrev pub decreases-patterns : goal.decreases-patterns
decreases-patterns l = 3 * length l.parser.now.rest.now + 2

abbrev pub decreases-pattern : goal.decreases-pattern
decreases-pattern l = 3 * length l.parser.now.rest.now + 1

abbrev pub decreases-bracket : goal.decreases-bracket
decreases-bracket l = 3 * length l.parser.now.rest.now

abbrev pub invariant-patterns-loop-pats : goal.invariant-patterns-loop-pats
invariant-patterns-loop-pats l =
    record {
      reads : (b : EquationStart) (k : Place) → opens k ≡ l.fn.parser.depth
          → run (Outside (Matching b k NoPats)) l.fn.parser.rest.now ≡ run
          (Outside (Matching b k (pats_of (map pat_of l.pats.items)))) l.parser.rest.now;
      shorter : length l.parser.rest.now ≤ length l.fn.parser.rest.now;
      depth : l.parser.depth ≡ l.fn.parser.depth;
    }

abbrev pub decreases-patterns-loop-pats : goal.decreases-patterns-loop-pats
decreases-patterns-loop-pats l = length l.parser.rest.now
