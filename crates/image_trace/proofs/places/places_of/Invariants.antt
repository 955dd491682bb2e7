-- The places of the steps that are left complete those that are noted.
use Rattle.std.proofs.Common.{◌≡◌, ◌+◌, ℕ, [], length}
use Rattle.limits.specs.Limits.{default_steps}
use Rattle.seq.specs.Lists.{times}
use Rattle.rv32_machine.specs.Steps.{IsRunning, start_of, state_of}
use Rattle.rv32_steps.specs.Trace.{trace}
use Rattle.image_trace.specs.Places.{times_noted}
use Rattle.image_trace.proofs.places.places_of.Given as goal

abbrev pub invariant-loop-left : goal.invariant-loop-left
invariant-loop-left l = record {
  running : IsRunning l.machine;
  noted : (a : ℕ) → times_noted l.places a + times a (trace l.left [] (state_of l.machine))
      ≡ times a (trace default_steps [] (start_of l.program));
  all : l.places.all + length (trace l.left [] (state_of l.machine))
      ≡ length (trace default_steps [] (start_of l.program));
}

abbrev pub decreases-loop-left : goal.decreases-loop-left
decreases-loop-left l = l.left
