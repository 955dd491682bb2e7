use Rattle.std.proofs.Common.{◌++◌, [], length, refl, sym, subst, rules}
use Rattle.std.proofs.lemmas.Option.{slice_get_read}
use Rattle.register_alloc.proofs.Tables.{nothing_saved, walks_next, take_whole}
use Rattle.register_alloc.specs.Gathered.{SavesMatchCalls, calls_of_walks}
use Rattle.register_alloc.proofs.assign.saves.Goals as goal

pub loop-walk-init : goal.loop-walk-init
loop-walk-init c = subst (λ l. SavesMatchCalls c.args.masks.now [] l)
    (sym c.new-saves.ensures.items) (nothing_saved c.args.masks.now)

pub loop-walk-preserved : goal.loop-walk-preserved
loop-walk-preserved c =
    let there = slice_get_read c.args.walks.now (length c.args.walks.now) c.loop-walk.walk-index
    c.walk-item.result refl c.loop-walk-test.true c.walk-item.is in
    walks_next c.args.masks.now c.args.walks.now c.loop-walk.walk-index c.walk-item.result
    c.loop-walk.saves.items c.save_all.new.saves.items there
    (λ done h. subst (λ l. SavesMatchCalls c.args.masks.now (done ++ l) c.save_all.new.saves.items)
    (search rules) (c.in_ok-save_all.ensures done h)) c.loop-walk.invariant

pub returns : goal.returns
returns c = subst
    (λ ws. SavesMatchCalls c.args.masks.now (calls_of_walks ws) c.loop-walk.saves.items)
    (take_whole c.args.walks.now c.loop-walk.walk-index c.loop-walk-test.false)
    c.loop-walk.invariant
