-- What is seen of a machine that runs by the rules of RV32IM.
use Rattle.elf32.specs.Image.{Image}
use Rattle.headline.specs.Carries.{MachineStatus, runs, exits, traps, Machine}
use Rattle.rv32_machine.specs.Steps.{State, start_of}
use Rattle.rv32_machine.specs.Runs.{MachineEnd, Going, Exited, Stopped, run, used}

abbrev pub finish_of : MachineEnd → MachineStatus
finish_of (Going s) = runs
finish_of (Exited code s) = exits code
finish_of (Stopped kind s) = traps

-- what is seen from a state on
abbrev pub observed_machine : State → Machine
observed_machine s i m =
    let r = run m i s in record { out = r.out; used = used i r; finish = finish_of r.end }

-- what is seen of an image from its start on
abbrev pub observed_image : Image → Machine
observed_image b = observed_machine (start_of b)
