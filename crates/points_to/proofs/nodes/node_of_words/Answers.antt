use Rattle.flow_system.specs.Shown.{tables_of}
use Rattle.points_to.proofs.Done.{made_alone}
use Rattle.points_to.proofs.nodes.node_of_words.Goals as goal

pub returns-then-m-eq0 : goal.returns-then-m-eq0
returns-then-m-eq0 c = made_alone (tables_of c.args.system.now) c.args.t c.args.m c.args.items.now
    c.args.out.now _ c.if-m-eq0.true c.in_ok-push_word.ensures
