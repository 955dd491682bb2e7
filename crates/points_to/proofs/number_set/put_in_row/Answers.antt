use Rattle.std.proofs.Common.{sym, subst}
use Rattle.points_to.specs.Rows.{GainsMember}
use Rattle.points_to.proofs.Waiting.{gets_at_end, gets_found}
use Rattle.points_to.proofs.number_set.put_in_row.Goals as goal

pub returns-then-is_past : goal.returns-then-is_past
returns-then-is_past c = subst (λ l. GainsMember c.args.row.now.items l c.args.n)
    (sym c.in_ok-push.ensures.items) (gets_at_end c.args.row.now.items c.args.n)

pub returns-in-Ok : goal.returns-in-Ok
returns-in-Ok c = subst (λ l. GainsMember l l c.args.n) c.deref.ensures.value
    (gets_found c.deref.result.now c.in-Ok.field-0 c.args.n c.in-Ok.ensures.bound
    c.in-Ok.ensures.ok)
