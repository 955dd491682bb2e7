use Rattle.std.proofs.Common.{rules}
use Rattle.flow_system.specs.Shown.{tables_of}
use Rattle.points_to.specs.Known.{held}
use Rattle.points_to.proofs.Done.{evaluated_from}
use Rattle.points_to.proofs.give.evaluated_at.Goals as goal

pub returns : goal.returns
returns c = evaluated_from (tables_of c.args.system.now) (held c.args.facts.now) c.args.w
    c.as_slice.result.now c.as_slice-2.result.now c.as_slice-3.result.now _ _ _ (search rules)
    (search rules) (search rules) c.in_ok-done_at_all.ensures c.in_ok-done_alone.ensures
