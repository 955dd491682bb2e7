use Rattle.std.proofs.Common.{◌≡◌, ◌<◌, ℕ, length, get_or}
use Rattle.low_translate.proofs.groups.Groups.new.Given as goal

abbrev pub invariant-loop-x : goal.invariant-loop-x
invariant-loop-x l = record {
  many : length l.parents.items ≡ l.x;
  own : (y : ℕ) → y < l.x
      → get_or l.parents.items y 0 ≡ y;
}
