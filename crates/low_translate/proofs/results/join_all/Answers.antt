use Rattle.std.proofs.Common.{◌≡◌, sym, ◌∙◌, subst}
use Rattle.std.proofs.lemmas.List.{take_more}
use Rattle.seq.proofs.Lists.{all_push}
use Rattle.grin_syntax.specs.Formed.{AllOf}
use Rattle.low_translate.proofs.results.join_all.Goals as goal

pub loop-call-preserved : goal.loop-call-preserved
loop-call-preserved c =
    let i = c.loop-call.invariant in
    let d = c.join.ensures in
    record {
      many = d.many ∙ i.many;
      ordered = d.ordered;
      older = λ f r. i.older f (d.older f r);
      joined = λ f r. subst (AllOf (λ h. f h ≡ f c.args.f))
          (sym (take_more c.args.calls.now c.loop-call.call-index 0 c.loop-call-test.true))
          (all_push (λ h. f h ≡ f c.args.f) _ _ (i.joined f (d.older f r)) (d.joined f r));
    }
