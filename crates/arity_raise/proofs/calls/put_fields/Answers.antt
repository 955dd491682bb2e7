use Rattle.std.proofs.Common.{◌+◌, refl}
use Rattle.arity_raise.proofs.Fields.{no_fields, one_field_more}
use Rattle.arity_raise.proofs.calls.put_fields.Goals as goal

pub loop-i-init : goal.loop-i-init
loop-i-init c = no_fields c.args.cell c.args.fresh.now.next c.args.made.now c.args.args.now

pub loop-i-preserved : goal.loop-i-preserved
loop-i-preserved c = one_field_more c.args.cell _ _ _ c.loop-i.i (c.loop-i.i + 1) _ _ _ _ _ _
    c.loop-i.invariant refl c.in_ok-put_field.ensures.stmts c.in_ok-put_field.ensures.args
    c.in_ok-put_field.ensures.next
