use Rattle.std.proofs.Common.{◌≡◌, ◌++◌, take}
use Rattle.std.specs.Ordering.{nat_cmp}
use Rattle.std.specs.BTreeMap as tree
use Rattle.grin_syntax.specs.Tree.{program_of}
use Rattle.points_to.specs.Found.{found}
use Rattle.flow_listing.specs.Ascending.{flat_map_indexed}
use Rattle.flow_listing.specs.Text.{binder_line}
use Rattle.flow_listing.proofs.points.put_binders.Given as goal

abbrev pub invariant-loop-binder : goal.invariant-loop-binder
invariant-loop-binder l = record {
  counted : l.at ≡ l.binder-index;
  so_far : l.text ≡ l.initial.text
      ++ flat_map_indexed (binder_line (program_of l.g) (tree.get nat_cmp l.names) (found l.flow)) 0
      (take l.binder-index l.binders);
}
