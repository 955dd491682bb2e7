use Rattle.std.proofs.Common.{◌≡◌, map}
use Rattle.core_reader.specs.Tree.{function}
use Rattle.match_compile.specs.Translated.{firsts, others}
use Rattle.match_compile.specs.DecisionOf.{decisions_of}
use Rattle.match_compile.proofs.compile.functions.Given as goal

abbrev pub invariant-loop-group : goal.invariant-loop-group
invariant-loop-group l = record {
  firsts : map function l.firsts ≡ firsts l.words (map decisions_of l.yielded);
  others : map function l.others ≡ others l.words (map decisions_of l.yielded);
}
