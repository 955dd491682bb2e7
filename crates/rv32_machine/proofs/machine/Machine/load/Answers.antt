use Rattle.std.proofs.Common.{◌≡◌, ℕ, List, refl, ap, replicate}
use Rattle.std.specs.Prelude.{slice_index, map}
use Rattle.elf32.specs.Image.{Image}
use Rattle.rv32_machine.specs.Memory.{Stretch, stretch_of}
use Rattle.rv32_machine.specs.Steps.{State, start_of}
use Rattle.rv32_machine.proofs.Zeroed.{zero_at}
use Rattle.rv32_machine.proofs.machine.Machine.load.Goals as goal

-- the registers, the entry and the segments of the start
starts : (i : Image) (pc : ℕ) (m : List Stretch) → pc ≡ i.entry → m ≡ map stretch_of i.segments
    → (let s : State = record { regs = λ r. slice_index (replicate 32 0) r; pc = pc; memory = m }
    in s) ≡ start_of i
starts i pc m p e = λ j. record { regs = λ r. zero_at 32 r j; pc = p j; memory = e j }

pub returns : goal.returns
returns c =
    let i = c.args.image.now in
    let entry : c.image.inside.entry ≡ i.entry = ap (λ v. v.entry) c.image.view_is in
    let memory : c.in_ok-memory.memory ≡ map stretch_of i.segments = c.in_ok-memory.ensures in
    (starts i _ _ entry memory, refl, refl)
