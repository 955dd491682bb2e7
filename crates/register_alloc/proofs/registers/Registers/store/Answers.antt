use Rattle.std.proofs.Common.{◌+◌, refl, ap, ◌∙◌}
use Rattle.low_code.specs.Tree.{save}
use Rattle.register_alloc.proofs.Walking.{same_places, given_on}
use Rattle.register_alloc.proofs.Steps.{does_still, save_goes}
use Rattle.register_alloc.proofs.registers.Registers.store.Goals as goal

pub returns : goal.returns
returns c text end held =
    does_still text end (save c.args.cell.now c.args.index c.args.value.now) c.args.self.now
    c.pass-2.new.self held
    (same_places c.args.self.now c.pass-2.new.self
    (given_on c.args.self.now c.pass.new.self c.pass-2.new.self c.in_ok-pass.ensures.stays
    c.in_ok-pass-2.ensures.stays)) (λ k. refl)
    (λ k. save_goes text end c.args.cell.now c.args.index c.args.value.now k c.args.self.now
    c.pass.new.self c.pass-2.new.self held
    (c.in_ok-pass.ensures.at ∙ ap (λ n. c.args.self.now.at + n) c.uses_of.ensures)
    c.in_ok-pass.ensures.stays
    (c.in_ok-pass-2.ensures.at ∙ ap (λ n. c.pass.new.self.at + n) c.uses_of-2.ensures)
    c.in_ok-pass-2.ensures.stays)
