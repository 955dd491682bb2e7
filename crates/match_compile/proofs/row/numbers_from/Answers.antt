use Rattle.std.proofs.Common.{sym, ◌∙◌, ◌+◌, ◌++◌, ◌∷◌, [], arith}
use Rattle.match_compile.proofs.Rows.{numbers_more}
use Rattle.match_compile.proofs.row.numbers_from.Goals as goal

pub loop-k-preserved : goal.loop-k-preserved
loop-k-preserved c = record {
  next = omega (arith, c.loop-k.invariant.next);
  numbers = c.in_ok-push.ensures.ok ∙
      (λ i. c.loop-k.invariant.numbers i ++ c.loop-k.invariant.next i ∷ []) ∙ sym
      (numbers_more c.args.first c.loop-k.k (c.loop-k.k + 1) (omega arith));
}
