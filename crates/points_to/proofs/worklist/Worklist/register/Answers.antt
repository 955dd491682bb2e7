use Rattle.std.proofs.Common.{sym, subst}
use Rattle.std.proofs.lemmas.List.{take_all, take_more}
use Rattle.points_to.specs.Worklist.{RegistersAt}
use Rattle.points_to.proofs.Registered.{registers_none, registers_more}
use Rattle.points_to.proofs.worklist.Worklist.register.Goals as goal

pub loop-place-init : goal.loop-place-init
loop-place-init c = registers_none c.args.n c.args.self.now

pub loop-place-preserved : goal.loop-place-preserved
loop-place-preserved c = subst (RegistersAt _ _ c.args.n)
    (sym (take_more c.args.places.now c.loop-place.place-index _ c.loop-place-test.true))
    (registers_more c.args.n _ _ _ _ _ c.loop-place.invariant c.in_ok-register_at.ensures)

pub returns : goal.returns
returns c = subst (RegistersAt _ _ c.args.n)
    (take_all c.loop-place.place-index c.args.places.now c.loop-place-test.false)
    c.loop-place.invariant
