use Rattle.std.proofs.Common.{◌≡◌, ℕ, take}
use Rattle.std.specs.Ordering.{nat_cmp}
use Rattle.std.specs.BTreeMap as tree
use Rattle.flow_listing.specs.Text.{name_of_site}
use Rattle.flow_listing.proofs.names.by_sites.Given as goal

abbrev pub invariant-loop-cell : goal.invariant-loop-cell
invariant-loop-cell l = (s : ℕ) → tree.get nat_cmp l.names s ≡ name_of_site
    (take l.cell-index l.named) s
