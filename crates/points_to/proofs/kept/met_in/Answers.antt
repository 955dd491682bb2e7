use Rattle.std.proofs.Common.{[], sym, subst}
use Rattle.points_to.specs.Rows.{GainsMembers}
use Rattle.points_to.specs.Stored.{cell_stored}
use Rattle.points_to.proofs.Gets.{gets_none, gets_next, gets_done, gets_from_none}
use Rattle.points_to.proofs.kept.met_in.Goals as goal

pub loop-cell-init : goal.loop-cell-init
loop-cell-init c = subst (λ l. GainsMembers [] l []) (sym c.new-met.ensures) (gets_none [])

pub loop-cell-preserved : goal.loop-cell-preserved
loop-cell-preserved c = gets_next (cell_stored c.args.stored.now) _ _ _ _ _ _ c.loop-cell-test.true
    c.loop-cell.invariant c.in_ok-put_met.ensures

pub returns : goal.returns
returns c = gets_from_none _ _
    (gets_done (cell_stored c.args.stored.now) _ _ _ _ c.loop-cell-test.false c.loop-cell.invariant)
