use Rattle.std.proofs.Common.{◌≡◌, length}
use Rattle.register_alloc.specs.Rounds.{Grows, room}
use Rattle.register_alloc.proofs.written.least.Given as goal

abbrev pub invariant-loop : goal.invariant-loop
invariant-loop l = record {
  grows : Grows l.calls l.fn.own.items l.masks.items;
  many : length l.masks.items ≡ length l.calls;
  calls : l.calls ≡ l.fn.calls;
}

abbrev pub decreases-loop : goal.decreases-loop
decreases-loop l = room l.masks.items
