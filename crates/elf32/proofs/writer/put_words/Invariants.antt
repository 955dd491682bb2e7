use Rattle.std.proofs.Common.{◌≡◌, ◌++◌, take}
use Rattle.elf32.specs.File.{words}
use Rattle.elf32.proofs.writer.put_words.Given as goal

abbrev pub invariant-loop-number : goal.invariant-loop-number
invariant-loop-number l = l.file.items ≡ l.initial.file.items
    ++ words (take l.number-index l.numbers)
