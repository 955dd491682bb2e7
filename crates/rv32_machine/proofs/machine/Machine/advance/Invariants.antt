use Rattle.rv32_machine.specs.Steps.{IsRunning}
use Rattle.rv32_machine.specs.Plain.{StepsWithoutEvent}
use Rattle.rv32_machine.proofs.machine.Machine.advance.Given as goal

abbrev pub invariant-loop-plain : goal.invariant-loop-plain
invariant-loop-plain l = record
    { running : IsRunning l.self; goes : StepsWithoutEvent l.plain l.fn.self l.self }
