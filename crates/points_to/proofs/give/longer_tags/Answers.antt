use Rattle.flow_system.specs.Shown.{tables_of}
use Rattle.points_to.specs.Known.{held}
use Rattle.points_to.specs.Held.{longer_tag}
use Rattle.points_to.proofs.Loops.{flat_next, flat_done}
use Rattle.points_to.proofs.give.longer_tags.Goals as goal

pub loop-word-preserved : goal.loop-word-preserved
loop-word-preserved c = flat_next
    (longer_tag (tables_of c.args.system.now) (held c.args.facts.now) c.args.a
    c.args.nodes.now.nodes) _ _ _ _ _ _ c.loop-word-test.true c.loop-word.invariant
    c.in_ok-longer_tag.ensures

pub returns : goal.returns
returns c = flat_done
    (longer_tag (tables_of c.args.system.now) (held c.args.facts.now) c.args.a
    c.args.nodes.now.nodes) _ _ _ _ c.loop-word-test.false c.loop-word.invariant
