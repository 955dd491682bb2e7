use Rattle.std.proofs.Common.{◌≡◌, List, [], ◌∷◌, ◌++◌, length, map, ap, ◌∙◌, arith}
use Rattle.std.proofs.lemmas.List.{length_push}
use Rattle.seq.proofs.Lists.{is_empty}
use Rattle.core_types.specs.declared.sides.Ty.{Ty}
use Rattle.core_types.specs.Typing.{Arrow}
use Rattle.core_types.specs.Sides.{type_of}
use Rattle.core_types.proofs.Sided.{type-Arrow}
use Rattle.core_types.proofs.sides.arrow.Goals as goal

pub returns : goal.returns
returns c =
    let rest : List Ty = c.pop-2.new.self in
    let none : rest ≡ [] = is_empty rest
    (let a = ap length c.in-Some.ensures in
    let b = ap length c.in-Some-pop.ensures in
    let p = length_push c.pop.new.self c.in-Some.to in
    let q = length_push rest c.in-Some-pop.from in
    omega (arith, c.requires, a, b, p, q)) in
    let two : c.args.args ≡ c.in-Some-pop.from ∷ (c.in-Some.to ∷ [])
    = c.in-Some.ensures ∙ ap (λ (xs : List Ty). xs ++ c.in-Some.to ∷ [])
    (c.in-Some-pop.ensures ∙ ap (λ (xs : List Ty). xs ++ c.in-Some-pop.from ∷ []) none) in (
      type_of c.in-Some-pop.from,
      type_of c.in-Some.to,
      ap (map type_of) two,
      type-Arrow c.in_ok-from.from c.in_ok-to.to ∙
          (λ i. Arrow (type_of (c.in_ok-from.ensures.ok i)) (type_of (c.in_ok-to.ensures.ok i))),
    )
