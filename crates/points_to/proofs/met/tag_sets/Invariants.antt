use Rattle.std.proofs.Common.{◌≡◌, ◌<◌, ℕ, length}
use Rattle.points_to.specs.Met.{tags_at}
use Rattle.points_to.specs.Rows.{SameMembers}
use Rattle.points_to.specs.Stored.{sets_at}
use Rattle.points_to.proofs.met.tag_sets.Given as goal

abbrev pub invariant-loop-s : goal.invariant-loop-s
invariant-loop-s l = record {
  many : length l.sets.items ≡ l.s;
  same : (n : ℕ) → n < l.s
      → SameMembers (sets_at l.sets.items n) (tags_at l.site_tags n);
}
