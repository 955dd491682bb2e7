use Rattle.std.proofs.Common.{[], sym, subst}
use Rattle.std.proofs.lemmas.Option.{slice_get-get_or}
use Rattle.register_alloc.proofs.Tables.{none_saved, saved_next, take_whole}
use Rattle.register_alloc.specs.Gathered.{IsSavedOf}
use Rattle.register_alloc.proofs.assign.saved.Goals as goal

pub loop-register-init : goal.loop-register-init
loop-register-init c = subst (IsSavedOf [] c.args.mask) (sym c.new-saved.ensures)
    (none_saved c.args.mask)

pub loop-register-preserved : goal.loop-register-preserved
loop-register-preserved c =
    saved_next c.args.live.now c.args.mask c.loop-register.register-index _ c.loop-register.saved
    c.save_one.new.saved
    (slice_get-get_or c.args.live.now c.loop-register.register-index _
    c.loop-register-test.true) c.in_ok-save_one.ensures.there c.in_ok-save_one.ensures.not
    c.loop-register.invariant

pub returns : goal.returns
returns c = subst (λ l. IsSavedOf l c.args.mask c.loop-register.saved)
    (take_whole c.args.live.now c.loop-register.register-index c.loop-register-test.false)
    c.loop-register.invariant
