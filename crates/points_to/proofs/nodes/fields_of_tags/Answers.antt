use Rattle.flow_system.specs.Shown.{tables_of}
use Rattle.points_to.specs.Held.{field_of_tag}
use Rattle.points_to.proofs.Loops.{flat_next, flat_done}
use Rattle.points_to.proofs.nodes.fields_of_tags.Goals as goal

pub loop-word-preserved : goal.loop-word-preserved
loop-word-preserved c = flat_next
    (field_of_tag (tables_of c.args.system.now) c.args.i c.args.items.now) _ _ _ _ _ _
    c.loop-word-test.true c.loop-word.invariant c.in_ok-field_of_tag.ensures

pub returns : goal.returns
returns c = flat_done (field_of_tag (tables_of c.args.system.now) c.args.i c.args.items.now) _ _ _ _
    c.loop-word-test.false c.loop-word.invariant
