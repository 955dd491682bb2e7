use Rattle.std.proofs.Common.{◌≡◌, ◌++◌}
use Rattle.std.specs.Ordering.{nat_cmp}
use Rattle.std.specs.BTreeMap as tree
use Rattle.seq.specs.Lists.{numbers_from}
use Rattle.grin_syntax.specs.Tree.{program_of}
use Rattle.grin_syntax.specs.Listing.{spaced}
use Rattle.points_to.specs.Found.{found}
use Rattle.flow_listing.specs.Text.{field_text}
use Rattle.flow_listing.proofs.points.put_fields.Given as goal

abbrev pub invariant-loop-field : goal.invariant-loop-field
invariant-loop-field l = l.text ≡ l.initial.text ++ spaced
    (field_text (program_of l.g) (tree.get nat_cmp l.names) (found l.flow) l.place l.tag)
    (numbers_from 0 l.field)
