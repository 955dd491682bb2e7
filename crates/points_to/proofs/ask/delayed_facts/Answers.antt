use Rattle.flow_system.specs.Shown.{tables_of}
use Rattle.points_to.specs.Known.{held}
use Rattle.points_to.proofs.Fields.{delayed_from}
use Rattle.points_to.proofs.ask.delayed_facts.Goals as goal

pub returns : goal.returns
returns c = delayed_from (tables_of c.args.system.now) (held c.args.facts.now)
    c.args.nodes.now.nodes c.args.s c.args.t c.args.f c.args.out.now _ _ c.requires.nodes
    c.in_ok-call_params.ensures c.in_ok-evaluated_results.ensures
