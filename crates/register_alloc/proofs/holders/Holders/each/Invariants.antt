use Rattle.std.proofs.Common.{◌≡◌, length}
use Rattle.register_alloc.proofs.Pairs.{UpTo}
use Rattle.register_alloc.proofs.holders.Holders.each.Given as goal

abbrev pub invariant-loop-held : goal.invariant-loop-held
invariant-loop-held g l = record {
  many : length l.of.items ≡ l.held-index;
  pairs : UpTo (goal.F-post g l.becomes) l.held-index l.self.of.items l.of.items;
}
