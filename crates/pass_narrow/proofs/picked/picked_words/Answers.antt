use Rattle.std.proofs.Common.{rules, arith, refl, ap, ◌∙◌, ◌+◌, pos}
use Rattle.grin_syntax.specs.declared.program.Word.TheVariants.{Lit}
use Rattle.pass_narrow.proofs.Loops.{picked_first, one_stays, one_goes, all_picked_now}
use Rattle.pass_narrow.proofs.picked.picked_words.Goals as goal
use Rattle.pass_narrow.proofs.picked.picked_words.Goals.{then-stays_at+in_ok-push, else-stays_at}

pub items-init : goal.items-init
items-init c = record { at = refl; some = c.new-made.ensures ∙ picked_first _ }

pub items-preserved : goal.items-preserved
items-preserved c = record {
  at = ap (λ n. n + 1) c.items.invariant.at;
  some = elim c.if-stays_at.branch [
    | then-stays_at+in_ok-push w ↦ w.made-is ∙ w.in_ok-push.ensures.ok ∙ one_stays c.args.stays.now
        c.args.items.now _ c.items.item-index _ _ (Lit (pos 0)) _ c.items-test.true (search rules)
        c.items.invariant.at c.items.invariant.some c.stays_at.ensures w.if-stays_at.true
    | else-stays_at w ↦ w.made-is ∙ one_goes c.args.stays.now c.args.items.now _ c.items.item-index
        _ (Lit (pos 0)) _ c.items-test.true c.items.invariant.at c.items.invariant.some
        c.stays_at.ensures w.if-stays_at.false
  ];
}

pub returns : goal.returns
returns c = all_picked_now c.args.stays.now c.args.items.now c.items.made c.items.item-index
    c.items.invariant.some (omega (arith, c.items-test.false))
