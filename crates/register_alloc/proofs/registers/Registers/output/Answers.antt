use Rattle.std.proofs.Common.{◌+◌, refl, ap, ◌∙◌}
use Rattle.low_code.specs.Tree.{put}
use Rattle.register_alloc.proofs.Walking.{same_places}
use Rattle.register_alloc.proofs.Steps.{does_still, put_goes}
use Rattle.register_alloc.proofs.registers.Registers.output.Goals as goal

pub returns : goal.returns
returns c text end held =
    does_still text end (put c.args.value.now) c.args.self.now c.pass.new.self held
    (same_places c.args.self.now c.pass.new.self c.in_ok-pass.ensures.stays) (λ k. refl)
    (λ k. put_goes text end c.args.value.now k c.args.self.now c.pass.new.self held
    (c.in_ok-pass.ensures.at ∙ ap (λ n. c.args.self.now.at + n) c.uses_of.ensures)
    c.in_ok-pass.ensures.stays)
