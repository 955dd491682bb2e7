use Rattle.std.proofs.Common.{◌≤◌, ◌-◌}
use Rattle.rv32_machine.specs.Steps.{IsRunning, state_of}
use Rattle.rv32_machine.proofs.Loops.{Kept}
use Rattle.rv32_machine.proofs.machine.Machine.run_counted.Given as goal

abbrev pub invariant-loop-left : goal.invariant-loop-left
invariant-loop-left g l = record {
  within : l.left ≤ l.fn.steps;
  running : IsRunning l.self;
  kept : Kept g.I.Source.read_gives g.I.Source.left g.I.Source.is_over g.I.Source.faults
      g.K.Sink.put_gives g.K.Sink.taken g.K.Sink.faults (state_of l.fn.self) l.fn.input l.fn.out
      (l.fn.steps - l.left) l.self l.input l.out;
  input_later : g.I.Source.faults l.fn.input ≤ g.I.Source.faults l.input;
  out_later : g.K.Sink.faults l.fn.out ≤ g.K.Sink.faults l.out;
}

abbrev pub decreases-loop-left : goal.decreases-loop-left
decreases-loop-left g l = l.left
