use Rattle.std.proofs.Common.{◌≡◌, map, length}
use Rattle.core_reader.specs.Tree.{expr}
use Rattle.match_compile.specs.DecisionOf.{clause_of}
use Rattle.match_compile.specs.ApartOf.{equations_with_bodies}
use Rattle.match_compile.proofs.compile.clauses.Given as goal

abbrev pub invariant-loop-body : goal.invariant-loop-body
invariant-loop-body l = record {
  count : l.k ≡ length l.yielded;
  clauses : map clause_of l.made ≡ equations_with_bodies l.headings (map expr l.yielded);
}
