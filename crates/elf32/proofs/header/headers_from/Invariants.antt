use Rattle.std.proofs.Common.{◌≡◌, vec_len}
use Rattle.elf32.specs.Headers.{headers_from}
use Rattle.elf32.proofs.header.headers_from.Given as goal

abbrev pub invariant-loop-i : goal.invariant-loop-i
invariant-loop-i l = (l.headers.items ≡ headers_from l.file l.offset l.i)
    × (vec_len l.headers ≡ l.i)
