use Rattle.std.proofs.Common.{rules, ◌≡◌, IfOk, subst}
use Rattle.grin_translate.proofs.Delayed.{delays_made}
use Rattle.grin_translate.proofs.waiting.delays.Goals as goal

pub returns : goal.returns
returns c =
    subst (λ xs. IfOk c.with_input.result (λ ds. ds.items ≡ xs))
    (delays_made c.args.p.now c.in_ok-functions.functions c.in_ok-called.called.items
    c.in_ok-waiting.waiting.items (search rules) c.in_ok-called.ensures c.in_ok-waiting.ensures)
    c.with_input.ensures
