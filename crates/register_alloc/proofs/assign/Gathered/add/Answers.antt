use Rattle.std.proofs.Common.{◌++◌, ap, ◌∙◌, subst}
use Rattle.register_alloc.specs.Gathered.{IsOwnMask, procs_of}
use Rattle.register_alloc.specs.Results.{result_mask}
use Rattle.register_alloc.proofs.assign.Gathered.add.Goals as goal

pub returns : goal.returns
returns c = record {
  walk = c.in_ok-walk.walk;
  own = c.own_mask-own.result;
  called = c.in_ok-called.called;
  is = record {
    walked = c.in_ok-walk.ensures;
    own_is = subst (λ gs. IsOwnMask (result_mask c.args.proc.now.results) gs c.own_mask-own.result)
        c.as_slice-2.ensures.value
        (subst (λ m. IsOwnMask m c.as_slice-2.result.now c.own_mask-own.result)
        c.result_mask.ensures c.own_mask-own.ensures);
    called_is = c.in_ok-called.ensures ∙ ap procs_of c.as_slice.ensures.value;
  };
  walks = c.in_ok-push-3.ensures.items;
  given = c.in_ok-extend_from_slice.ensures.items ∙ ap (λ l. c.args.self.now.given.items ++ l)
      c.as_slice-3.ensures.value;
  owns = c.in_ok-push.ensures.items;
  calls = c.in_ok-push-2.ensures.items;
}
