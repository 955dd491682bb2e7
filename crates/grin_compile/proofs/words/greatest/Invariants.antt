use Rattle.std.proofs.Common.{◌≡◌, max, drop}
use Rattle.grin_compile.specs.Limits.{greatest}
use Rattle.grin_compile.proofs.words.greatest.Given as goal

abbrev pub invariant-loop-number : goal.invariant-loop-number
invariant-loop-number l = max l.most (greatest (drop l.number-index l.numbers)) ≡ greatest l.numbers
