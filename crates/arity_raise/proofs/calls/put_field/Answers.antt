use Rattle.arity_raise.proofs.Fields.{field_pushed}
use Rattle.arity_raise.proofs.calls.put_field.Goals as goal

pub returns-clause-stmts : goal.returns-clause-stmts
returns-clause-stmts c = λ k. field_pushed c.args.made.now _ c.in_ok-var.var c.args.fresh.now.next
    c.args.cell c.args.at k c.in_ok-push.ensures.ok c.in_ok-var.ensures.is
