use Rattle.std.proofs.Common.{◌≡◌, map, take}
use Rattle.points_to.proofs.vectors.same_blocks.Given as goal

abbrev pub invariant-loop-k : goal.invariant-loop-k
invariant-loop-k l = record {
  numbers : map (λ b. b.0) (take l.k l.a) ≡ map (λ b. b.0) (take l.k l.b);
  bits : map (λ b. b.1) (take l.k l.a) ≡ map (λ b. b.1) (take l.k l.b);
}
