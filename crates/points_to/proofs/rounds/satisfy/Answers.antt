use Rattle.flow_system.specs.Shown.{tables_of, inclusion_of}
use Rattle.points_to.specs.Asked.{facts_demanded}
use Rattle.points_to.specs.Known.{held}
use Rattle.points_to.proofs.HeldFacts.{held_grows}
use Rattle.points_to.proofs.Solved.{none_added}
use Rattle.points_to.proofs.rounds.satisfy.Goals as goal

pub returns-then-is_satisfied-clause-grown : goal.returns-then-is_satisfied-clause-grown
returns-then-is_satisfied-clause-grown c =
    let H = held c.args.facts.now in
    held_grows H
    (facts_demanded (tables_of c.args.system.now) H (inclusion_of c.args.inclusion.now))
    (c.is_satisfied.ensures c.if-is_satisfied.true)

pub returns-then-is_satisfied-clause-counted : goal.returns-then-is_satisfied-clause-counted
returns-then-is_satisfied-clause-counted c = (none_added c.args.facts.now).counted
