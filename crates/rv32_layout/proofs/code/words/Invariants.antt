use Rattle.std.proofs.Common.{◌≡◌}
use Rattle.rv32_layout.specs.Places.{place, code, Encode}
use Rattle.rv32_layout.proofs.code.words.Given as goal

abbrev pub invariant-loop-n : goal.invariant-loop-n
invariant-loop-n l = record {
  at_is : l.at ≡ place l.plan.ways.items l.items l.n;
  words_are : Encode (code l.plan.ways.items l.items l.n) l.words.items;
}
