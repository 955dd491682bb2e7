use Rattle.std.proofs.Common.{◌≡◌, get_or, arith}
use Rattle.std.specs.Ordering.{nat_cmp}
use Rattle.std.specs.BTreeSet.{contains}
use Rattle.core_reader.specs.declared.syntax.Binder.{Binder}
use Rattle.arity_check.specs.Known.{Known}
use Rattle.arity_check.specs.Tables.{known}
use Rattle.arity_check.proofs.Steps.{more_binders, more_entered, same_item}
use Rattle.arity_check.proofs.walk.Walk.binders.Goals as goal

pub loop-binder-preserved : goal.loop-binder-preserved
loop-binder-preserved c =
    let k : Known = known c.args.globals.now in
    let none : Binder = record { name = record { 0 = 0 }; at = 0 } in
    let x : Binder = get_or c.args.binders.now c.loop-binder.binder-index none in
    let at : x ≡ get_or c.args.binders.now c.loop-binder.binder-index x
    = same_item c.args.binders.now c.loop-binder.binder-index none x (omega arith) in
    record {
      scope = more_entered k c.args.binders.now c.loop-binder.binder-index x (omega arith) at _
          c.loop-binder.self.scope c.binder.new.self.scope c.in_ok-binder.ensures.scope
          c.loop-binder.invariant.scope;
      first = more_binders k (contains nat_cmp c.loop-binder.seen)
          (contains nat_cmp c.binder.new.seen) c.args.binders.now c.loop-binder.binder-index x
          (omega arith) at
          _ c.loop-binder.self.first c.binder.new.self.first c.in_ok-binder.ensures.seen
          c.in_ok-binder.ensures.first c.loop-binder.invariant.first;
    }
