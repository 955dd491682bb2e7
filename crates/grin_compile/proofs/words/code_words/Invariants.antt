use Rattle.std.proofs.Common.{◌≡◌, map, take}
use Rattle.grin_compile.specs.Words.{words_from}
use Rattle.grin_compile.proofs.words.code_words.Given as goal

abbrev pub invariant-loop-address : goal.invariant-loop-address
invariant-loop-address l =
    l.words.items ≡ map (words_from l.code l.addresses) (take l.address-index l.addresses)
