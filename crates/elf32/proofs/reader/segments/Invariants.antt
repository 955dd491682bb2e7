use Rattle.std.proofs.Common.{◌≡◌, take, map, filter}
use Rattle.elf32.specs.Headers.{part_of, is_loadable}
use Rattle.elf32.proofs.reader.segments.Given as goal

abbrev pub invariant-loop-header : goal.invariant-loop-header
invariant-loop-header l = l.segments ≡ map (part_of l.file)
    (filter is_loadable (take l.header-index l.headers))
