use Rattle.std.proofs.Common.{refl}
use Rattle.arity_check.specs.Tables.{known}
use Rattle.core_link.specs.Found.{is_declared}
use Rattle.core_link.proofs.Steps.{seen_also, again_next, seen_next}
use Rattle.core_link.proofs.imports.again.Goals as goal

pub loop-name-preserved : goal.loop-name-preserved
loop-name-preserved c =
    let also_seen = seen_also c.loop-name.seen c.insert.new.self _ c.in_ok-is_new.ensures.updates.0
    in
    record {
      first = again_next (is_declared (known c.args.globals.now)) c.loop-name.seen c.insert.new.self
          c.args.names.now c.loop-name.name-index _ c.in_ok-is_new.is_new c.is_taken.result _ _
          c.loop-name.first c.earlier_place_if-first.result _ c.loop-name-test.true also_seen refl
          refl
          c.in_ok-is_new.ensures.added c.is_taken.ensures c.earlier_place_if-first.ensures
          c.loop-name.invariant.first;
      seen = seen_next c.loop-name.seen c.insert.new.self c.args.names.now c.loop-name.name-index _
          _ _ c.loop-name-test.true refl also_seen c.loop-name.invariant.seen;
    }
