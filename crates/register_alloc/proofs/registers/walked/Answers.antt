use Rattle.std.proofs.Common.{◌≡◌, ◌++◌, length, ap, ◌∙◌, subst, rules}
use Rattle.low_code.specs.Tree.{code_of, procedure_of}
use Rattle.low_code.specs.Formed.{uses}
use Rattle.register_alloc.specs.Inner.{sizes_of}
use Rattle.register_alloc.specs.Point.{AllGiven, AddsPlaces}
use Rattle.register_alloc.proofs.Procedures.{walked_is}
use Rattle.register_alloc.proofs.registers.walked.Goals as goal

pub returns : goal.returns
returns c =
    let ends : c.in_ok-end.end ≡ length c.as_slice.result.now = search rules in
    walked_is (procedure_of c.args.proc.now) _ c.as_slice.result.now c.new-walk.result
    c.give_all.new.self c.block-2.new.self c.in_ok-holders.holders.of.items
    c.give_all.new.holders.of.items c.in_ok-end.end
    c.new-walk.ensures c.in_ok-holders.ensures
    (subst (λ xs. AllGiven xs c.new-walk.result c.in_ok-holders.holders.of.items c.give_all.new.self
    c.give_all.new.holders.of.items) c.as_slice-2.ensures c.in_ok-give_all.ensures.giving)
    (subst (λ xs. AddsPlaces xs c.new-walk.result c.give_all.new.self) c.as_slice-2.ensures
    c.in_ok-give_all.ensures.adds) c.in_ok-give_all.ensures.stays c.in_ok-give_all.ensures.calls
    (c.as_slice.ensures.value ∙ c.in_ok-block.ensures.used ∙ ap
    (λ l. l ++ uses (code_of c.args.proc.now.body)) c.new-scan.ensures.used)
    c.in_ok-uses.ensures
    (c.in_ok-block.ensures.sizes ∙ ap (λ l. l ++ sizes_of (code_of c.args.proc.now.body))
    c.new-scan.ensures.sizes) ends c.in_ok-block-2.ensures
