use Rattle.std.proofs.Common.{◌≡◌, ◌≤◌, ◌*◌, ◌^◌, take}
use Rattle.elf32.specs.Rules.{loaded_size}
use Rattle.elf32.proofs.reader.total_size.Given as goal

abbrev pub invariant-loop-header : goal.invariant-loop-header
invariant-loop-header l = (l.total ≡ loaded_size (take l.header-index l.headers))
    × (l.total ≤ 2 ^ 32 * l.header-index)
