use Rattle.std.proofs.Common.{◌≡◌, get_or, arith}
use Rattle.std.specs.Ordering.{nat_cmp}
use Rattle.std.specs.BTreeSet.{contains}
use Rattle.core_reader.specs.declared.syntax.Binder.{Binder}
use Rattle.match_compile.proofs.Walks.{more_names, same_item}
use Rattle.match_compile.proofs.rules.names.Goals as goal

pub loop-binder-preserved : goal.loop-binder-preserved
loop-binder-preserved c =
    let none : Binder = record { name = record { 0 = 0 }; at = 0 } in
    let x : Binder = get_or c.args.binders.now c.loop-binder.binder-index none in
    let at : x ≡ get_or c.args.binders.now c.loop-binder.binder-index x
    = same_item c.args.binders.now c.loop-binder.binder-index none x (omega arith) in
    more_names c.args.texts.now (contains nat_cmp c.loop-binder.seen)
    (contains nat_cmp c.name.new.seen) c.args.binders.now c.loop-binder.binder-index x
    (omega arith) at
    _ c.loop-binder.first c.in_ok-first.first c.in_ok-first.ensures.seen c.in_ok-first.ensures.first
    c.loop-binder.invariant
