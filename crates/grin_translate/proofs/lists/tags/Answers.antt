use Rattle.std.proofs.Common.{◌≡◌, IfOk, [], ◌∷◌, ◌++◌, map, refl, ap, ◌∙◌, subst}
use Rattle.arity_check.specs.Program.{program}
use Rattle.grin_translate.specs.Tags.{tag_of, parts}
use Rattle.grin_translate.proofs.Listed.{tags_made}
use Rattle.grin_translate.proofs.lists.tags.Goals as goal

pub returns : goal.returns
returns c =
    let p = program c.args.numbered.now.p.now in
    subst (λ xs. IfOk c.all_part_tags.result (λ ts. ts ≡ xs))
    (tags_made p c.args.numbered.now.numbers.constructors c.args.numbered.now.numbers.delays
    c.in_ok-number.number c.push.new.self c.in_ok-second.second c.in_ok-third.third
    (c.in_ok-third.third ++ map (tag_of p) (parts p.funs 0))
    c.args.numbered.now.exact.constructors c.args.numbered.now.exact.delays c.in_ok-number.ensures
    (c.in_ok-push.ensures.ok ∙ ap (λ xs. xs ++ c.in_ok-number.number ∷ []) c.new-first.ensures)
    c.in_ok-second.ensures c.in_ok-third.ensures refl)
    c.all_part_tags.ensures
