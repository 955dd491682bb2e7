use Rattle.std.proofs.Common.{ℕ, take}
use Rattle.points_to.specs.Held.{In}
use Rattle.points_to.specs.Waiting.{waiting}
use Rattle.points_to.proofs.pending.Pending.put_all.Given as goal

abbrev pub invariant-loop-n : goal.invariant-loop-n
invariant-loop-n l = record {
  kept : (m : ℕ) → In m (waiting l.initial.self) → In m (waiting l.self);
  put : (m : ℕ) → In m (take l.n-index l.numbers) → In m (waiting l.self);
}
