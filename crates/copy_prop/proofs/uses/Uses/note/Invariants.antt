use Rattle.std.proofs.Common.{◌≡◌, length}
use Rattle.copy_prop.specs.Latest.{Latest}
use Rattle.copy_prop.proofs.uses.Uses.note.Given as goal

abbrev pub invariant-loop : goal.invariant-loop
invariant-loop l = record {
  many : length l.self-inside.latest.items ≡ l.counter;
  same
      : l.self-inside.seen ≡ l.initial.self-inside.seen;
  table
      : Latest l.self-inside.seen.items l.self-inside.latest.items;
}
