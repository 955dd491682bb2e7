use Rattle.std.proofs.Common.{◌≡◌, map, length}
use Rattle.core_reader.specs.Tree.{expr}
use Rattle.match_compile.specs.SourceOf.{equation_of}
use Rattle.match_compile.specs.ApartOf.{equations_with_bodies}
use Rattle.match_compile.proofs.compile.taken_apart.Given as goal

abbrev pub invariant-loop-equation : goal.invariant-loop-equation
invariant-loop-equation l = record {
  same : length l.headings ≡ length l.bodies;
  equations : equations_with_bodies l.headings (map expr l.bodies) ≡ map equation_of l.yielded;
}
