use Rattle.std.proofs.Common.{◌≡◌, ◌↔◌, true, Some, refl, sym, subst}
use Rattle.register_alloc.specs.Holders.{IsMarkedIfWanted, IsUsedLaterOrWithin}
use Rattle.register_alloc.proofs.Pairs.{either_is}
use Rattle.register_alloc.proofs.holders.within_join.Goals as goal

pub returns-in-Some : goal.returns-in-Some
returns-in-Some c used are =
    let wanted = either_is c.in-Some.holder.later c.within.result _ (c.within.ensures used are) in
    subst (λ o. IsMarkedIfWanted used c.args.from c.args.to o
    (Some (record { variable = c.in-Some.holder.variable; later = c.either.result })))
    (sym c.in-Some.is) (
      refl,
      subst (λ b. (b ≡ true) ↔ IsUsedLaterOrWithin used c.args.from c.args.to c.in-Some.holder)
          (sym c.either.ensures) wanted,
    )
