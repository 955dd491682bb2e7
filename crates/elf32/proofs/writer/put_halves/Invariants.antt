use Rattle.std.proofs.Common.{◌≡◌, ◌++◌, take}
use Rattle.elf32.specs.File.{halfword_bytes}
use Rattle.elf32.proofs.writer.put_halves.Given as goal

abbrev pub invariant-loop-number : goal.invariant-loop-number
invariant-loop-number l = l.file.items ≡ l.initial.file.items
    ++ halfword_bytes (take l.number-index l.numbers)
