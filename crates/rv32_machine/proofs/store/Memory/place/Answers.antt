use Rattle.std.proofs.Common.{◌∙◌, sym, ap, subst, Some, rules}
use Rattle.std.proofs.lemmas.Bool.{ltb-true}
use Rattle.std.proofs.lemmas.Option.{slice_get-get_or}
use Rattle.rv32_machine.specs.Memory.{IsPlace}
use Rattle.rv32_machine.proofs.Stores.{serving_place}
use Rattle.rv32_machine.proofs.store.Memory.place.Goals as goal

pub returns-then-serves-clause-place : goal.returns-then-serves-clause-place
returns-then-serves-clause-place c =
    let read = rw c.deref.ensures.value at c.in-Some.ensures.lookup in
    let at = slice_get-get_or c.self.inside.regions.items c.self.inside.last c.in-Some.region.now
    (ltb-true _ _ (sym read.0)) ∙ ap Some (sym read.1) in
    subst (λ m. IsPlace c.args.right c.args.address m c.self.inside.last) c.self.view_is
    (serving_place c.args.right c.self.inside.regions.items c.args.address c.self.inside.last
    c.in-Some.region.now c.self.invariant.apart at (search rules))
