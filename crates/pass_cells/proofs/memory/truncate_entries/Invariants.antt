use Rattle.std.proofs.Common.{◌≡◌, ◌≤◌, take, length}
use Rattle.pass_cells.proofs.memory.truncate_entries.Given as goal

abbrev pub invariant-loop-entries : goal.invariant-loop-entries
invariant-loop-entries l = record {
  count : l.count ≡ l.initial.count;
  long : l.count ≤ length l.entries;
  first
      : take l.count l.entries ≡ take l.count l.initial.entries;
}

abbrev pub decreases-loop-entries : goal.decreases-loop-entries
decreases-loop-entries l = length l.entries
