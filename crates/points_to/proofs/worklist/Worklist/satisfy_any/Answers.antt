use Rattle.flow_system.specs.Shown.{tables_of, inclusion_of}
use Rattle.points_to.proofs.UntilNoneWaits.{satisfies}
use Rattle.points_to.proofs.worklist.Worklist.satisfy_any.Goals as goal

pub returns : goal.returns
returns c =
    let a = c.in_ok-add_demands.ensures in
    satisfies (tables_of c.args.system.now) (inclusion_of c.args.inclusion.now) c.args.n
    c.args.self.now c.register_reads.new.self c.add_demands.new.self c.in_ok-add_demands.field-0
    c.in_ok-register_reads.ensures a.grown a.spread a.still a.counted
