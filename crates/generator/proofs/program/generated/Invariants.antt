-- The text has the lines of the rounds that are done.
use Rattle.std.proofs.Common.{◌≡◌, ◌≤◌, ◌++◌}
use Rattle.generator.specs.Generated.{state_at, rounds, first_lines}
use Rattle.generator.proofs.program.generated.Given as goal

abbrev pub invariant-loop-before : goal.invariant-loop-before
invariant-loop-before l = record {
  done : l.before ≤ l.size;
  state : l.draws.state ≡ state_at l.seed l.before;
  lines : l.text ≡ first_lines ++ rounds l.seed l.before;
}
