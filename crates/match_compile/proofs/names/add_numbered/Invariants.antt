use Rattle.std.proofs.Common.{◌≡◌, ◌-◌, ◌++◌, map}
use Rattle.std.specs.Prelude.{decimal}
use Rattle.std.specs.List.{range_with_len}
use Rattle.match_compile.specs.Translated.{numbered_texts}
use Rattle.match_compile.proofs.names.add_numbered.Given as goal

abbrev pub invariant-loop-number : goal.invariant-loop-number
invariant-loop-number l = l.entries.items ++ map (λ k. l.start ++ decimal k)
    (range_with_len l.number (l.count - l.number)) ≡ l.fn.entries.items
    ++ numbered_texts l.count (λ k. l.start ++ decimal k)
