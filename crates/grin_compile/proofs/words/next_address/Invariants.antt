-- What is left, behind the least so far, has the next address.
use Rattle.std.proofs.Common.{◌≡◌, drop}
use Rattle.grin_compile.specs.Words.{next_address}
use Rattle.grin_compile.proofs.words.next_address.Given as goal

abbrev pub invariant-loop-address : goal.invariant-loop-address
invariant-loop-address l =
    next_address (drop l.address-index l.addresses) l.next l.from ≡ next_address l.addresses l.end
    l.from
