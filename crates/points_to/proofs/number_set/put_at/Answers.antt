use Rattle.std.proofs.Common.{sym, subst}
use Rattle.points_to.specs.Rows.{GainsMember}
use Rattle.points_to.proofs.Waiting.{gets_at_end, gets_at}
use Rattle.points_to.proofs.number_set.put_at.Goals as goal

pub returns-then-len-at-gt-MOST_MOVED : goal.returns-then-len-at-gt-MOST_MOVED
returns-then-len-at-gt-MOST_MOVED c = subst (λ l. GainsMember c.args.row.now.items l c.args.n)
    (sym c.in_ok-push.ensures.items) (gets_at_end c.args.row.now.items c.args.n)

pub returns : goal.returns
returns c = subst (λ l. GainsMember c.args.row.now.items l c.args.n)
    (sym c.in_ok-insert.ensures.items) (gets_at c.args.row.now.items c.args.at c.args.n)
