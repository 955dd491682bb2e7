use Rattle.std.proofs.Common.{rules, ◌≡◌, length, ◌∙◌, sym, arith}
use Rattle.core_types.proofs.TreeOf.{count_types, more_erased}
use Rattle.core_types.proofs.source.constructors_of.Goals as goal

pub loop-constructor-preserved : goal.loop-constructor-preserved
loop-constructor-preserved c =
    let items = c.as_slice-constructor-items.result.now in
    let count_is : c.in-Ok.fields ≡ length c.constructor-item.result.fields = search rules in
    more_erased items c.loop-constructor.constructor-index c.constructor-item.result (omega arith)
    c.constructor-item.is c.loop-constructor.erased.items c.push.new.self.items _
    c.in_ok-push.ensures.items
    (λ i. record {
      name = c.constructor-item.result.name.name.0;
      fields
          = (count_is ∙ sym (count_types c.constructor-item.result.fields)) i;
      at
          = c.constructor-item.result.name.at;
    })
    _ c.loop-constructor.invariant
