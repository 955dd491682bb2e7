-- The entries of the steps that are left complete the list.
use Rattle.std.proofs.Common.{◌≡◌, ◌≤◌, [], ◌++◌, length}
use Rattle.rv32_machine.specs.Steps.{IsRunning, start_of, state_of}
use Rattle.limits.specs.Limits.{default_steps}
use Rattle.image_trace.specs.Entries.{states, entries_at}
use Rattle.image_trace.proofs.entries.entries.Given as goal

abbrev pub invariant-loop-left : goal.invariant-loop-left
invariant-loop-left l = record {
  running : IsRunning l.machine;
  kept : l.entries.items ++ entries_at l.starts (states l.left [] (state_of l.machine))
      ≡ entries_at l.starts (states default_steps [] (start_of l.program));
  few : length l.entries.items ≤ l.most;
}

abbrev pub decreases-loop-left : goal.decreases-loop-left
decreases-loop-left l = l.left
