use Rattle.std.proofs.Common.{arith}
use Rattle.std.specs.Ordering.{nat_cmp}
use Rattle.std.specs.BTreeSet.{contains}
use Rattle.core_reader.specs.declared.syntax.Binder.{Binder}
use Rattle.core_types.proofs.Walks.{more_bound}
use Rattle.core_types.proofs.declared.Variables.of.Goals as goal

pub loop-param-preserved : goal.loop-param-preserved
loop-param-preserved c =
    let none : Binder = record { name = record { 0 = 0 }; at = 0 } in
    more_bound (contains nat_cmp c.loop-param.names) (contains nat_cmp c.was_seen.new.seen)
    c.args.params.now c.loop-param.param-index none (omega arith) _
    c.in_ok-was_seen.ensures.after c.loop-param.invariant
