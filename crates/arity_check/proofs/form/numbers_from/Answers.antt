use Rattle.std.proofs.Common.{rules, ◌≡◌, ◌+◌, ◌++◌, ◌∷◌, [], arith, sym, ap, ◌∙◌}
use Rattle.arity_check.proofs.Normals.{range_more}
use Rattle.arity_check.proofs.form.numbers_from.Goals as goal

pub loop-number-preserved : goal.loop-number-preserved
loop-number-preserved c =
    let after : c.in-Some.after ≡ c.loop-number.next + 1 = search rules in
    record {
      numbers = c.in_ok-push.ensures.ok ∙ ap (λ l. l ++ c.loop-number.next ∷ [])
          c.loop-number.invariant.numbers ∙ sym
          (range_more c.args.first c.loop-number.number c.loop-number.next
          c.loop-number.invariant.next);
      next = omega (arith, after, c.loop-number.invariant.next);
    }
