use Rattle.std.proofs.Common.{arith}
use Rattle.std.specs.Ordering.{nat_cmp}
use Rattle.std.specs.BTreeSet.{contains}
use Rattle.core_reader.specs.declared.syntax.Binder.{Binder}
use Rattle.core_types.proofs.Walks.{more_again}
use Rattle.core_types.proofs.declared.again.Goals as goal

pub loop-binder-preserved : goal.loop-binder-preserved
loop-binder-preserved c =
    let none : Binder = record { name = record { 0 = 0 }; at = 0 } in
    more_again (contains nat_cmp c.loop-binder.seen) (contains nat_cmp c.was_seen.new.seen)
    c.args.binders.now c.loop-binder.binder-index none (omega arith) _ c.loop-binder.first
    c.earlier_place_if-first.result
    c.in_ok-was_seen.was_seen c.in_ok-was_seen.ensures.before c.in_ok-was_seen.ensures.after
    c.earlier_place_if-first.ensures c.loop-binder.invariant
