use Rattle.std.specs.Ordering.{nat_cmp}
use Rattle.std.specs.BTreeMap as tree
use Rattle.grin_syntax.specs.Tree.{program_of}
use Rattle.points_to.specs.Found.{found}
use Rattle.flow_listing.specs.Text.{field_text}
use Rattle.flow_listing.proofs.Numbered.{spaced_more}
use Rattle.flow_listing.proofs.points.put_fields.Goals as goal

pub loop-field-preserved : goal.loop-field-preserved
loop-field-preserved c = spaced_more
    (field_text (program_of c.args.g.now) (tree.get nat_cmp c.args.names.now)
    (found c.args.flow.now) c.args.place c.args.tag) c.loop-field.field _ _ _ _
    c.loop-field.invariant c.in_ok-put.ensures c.in_ok-put_field.ensures
