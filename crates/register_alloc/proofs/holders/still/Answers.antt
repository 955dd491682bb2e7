use Rattle.std.proofs.Common.{◌≡◌, true, false, Some, None, refl, sym, ◌∙◌, subst}
use Rattle.register_alloc.specs.Holders.{StaysIfWanted}
use Rattle.register_alloc.proofs.Pairs.{either_is}
use Rattle.register_alloc.proofs.holders.still.Goals as goal

pub returns-then-either : goal.returns-then-either
returns-then-either c used are =
    let wanted = either_is c.in-Some.holder.later c.within.result _ (c.within.ensures used are) in
    subst (λ o. StaysIfWanted used c.args.from c.args.to o (Some c.in-Some.holder))
    (sym c.in-Some.is) (refl, wanted.0 (sym c.either.ensures ∙ c.if-either.true))

pub returns-else-either : goal.returns-else-either
returns-else-either c used are =
    let wanted = either_is c.in-Some.holder.later c.within.result _ (c.within.ensures used are) in
    subst (λ o. StaysIfWanted used c.args.from c.args.to o None) (sym c.in-Some.is)
    (λ w. let wrong : true ≡ false = sym (c.either.ensures ∙ wanted.1 w) ∙ c.if-either.false
    in cc)
