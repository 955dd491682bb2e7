use Rattle.std.proofs.Common.{◌≡◌, ℕ, take}
use Rattle.std.specs.Ordering.{nat_cmp}
use Rattle.std.specs.BTreeMap as tree
use Rattle.grin_syntax.specs.Listing.{place}
use Rattle.grin_syntax.proofs.ranks.places.Given as goal

abbrev pub invariant-loop-at : goal.invariant-loop-at
invariant-loop-at l = (x : ℕ) → tree.get nat_cmp l.ranks x ≡ place x (take l.at l.vars)
