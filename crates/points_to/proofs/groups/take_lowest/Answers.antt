use Rattle.std.proofs.Common.{◌<◌, ◌≡◌, w64, get_or, arith, refl, sym, ◌∙◌, subst}
use Rattle.std.proofs.lemmas.List.{get_or_default}
use Rattle.std.proofs.lemmas.Nat.Bits.{bit_at-trailing_zeros}
use Rattle.points_to.proofs.InGroups.{take_in_group}
use Rattle.points_to.proofs.groups.take_lowest.Goals as goal

pub returns-clause-takes : goal.returns-clause-takes
returns-clause-takes c =
    let gs = c.args.groups.now.items in
    let k = c.args.k in
    let w = c.index-bits.result.now in
    let is : get_or gs k 0 ≡ w = get_or_default gs k 0 w c.requires.some.within ∙ sym
    c.index-bits.ensures in
    let t = bit_at-trailing_zeros w64 w (subst (λ m. 0 < m) is c.requires.some.some) (omega arith)
    in
    take_in_group gs k w c.without_bit.result _ _ c.requires.some.within c.index-bits.ensures refl
    t.0 t.1 t.2 c.without_bit.ensures.clear c.without_bit.ensures.others
