use Rattle.std.proofs.Common.{◌≡◌, length}
use Rattle.rv32_layout.specs.Places.{place}
use Rattle.rv32_layout.proofs.Shorter.{ShortensFirst}
use Rattle.rv32_layout.proofs.plan.shortest.Given as goal

abbrev pub invariant-loop-n : goal.invariant-loop-n
invariant-loop-n l = record {
  at_is : l.at ≡ place l.ways l.items l.n;
  count : length l.shortest.items ≡ l.n;
  shortens : ShortensFirst l.items l.ways l.shortest.items l.n;
}
