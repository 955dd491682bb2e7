use Rattle.std.proofs.Common.{◌≡◌, ◌++◌, take}
use Rattle.std.specs.Ordering.{nat_cmp}
use Rattle.std.specs.BTreeMap as tree
use Rattle.grin_syntax.specs.Tree.{program_of}
use Rattle.grin_syntax.specs.Listing.{spaced}
use Rattle.points_to.specs.Found.{found}
use Rattle.flow_listing.specs.Text.{node_text}
use Rattle.flow_listing.proofs.points.put_nodes.Given as goal

abbrev pub invariant-loop-tag : goal.invariant-loop-tag
invariant-loop-tag l = l.text ≡ l.initial.text ++ spaced
    (λ t. node_text (program_of l.g) (tree.get nat_cmp l.names) (found l.flow) l.place t.0)
    (take l.tag-index l.tags)
