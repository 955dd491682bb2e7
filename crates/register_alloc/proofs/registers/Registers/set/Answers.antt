use Rattle.std.proofs.Common.{◌∷◌, [], ◌+◌, refl, ap, ◌∙◌}
use Rattle.low_code.specs.Tree.{set}
use Rattle.register_alloc.proofs.Walking.{same_places}
use Rattle.register_alloc.proofs.Steps.{does_by, set_goes}
use Rattle.register_alloc.proofs.registers.Registers.set.Goals as goal

pub returns : goal.returns
returns c =
    does_by c.args.text.now c.args.end (set c.args.variable c.args.value.now) (c.args.variable ∷ [])
    c.args.self.now c.pass.new.self c.bind.new.self c.args.holders.now.of.items
    c.in_ok-next.next.of.items
    (same_places c.args.self.now c.pass.new.self c.in_ok-pass.ensures.stays)
    c.in_ok-next.ensures.adds (λ k. refl)
    (λ k. set_goes c.args.text.now c.args.end c.args.variable c.args.value.now k c.args.self.now
    c.pass.new.self c.bind.new.self c.args.holders.now.of.items c.in_ok-next.next.of.items
    (c.in_ok-pass.ensures.at ∙ ap (λ n. c.args.self.now.at + n) c.uses_of.ensures)
    c.in_ok-pass.ensures.stays c.in_ok-next.ensures.bound c.in_ok-next.ensures.block
    c.in_ok-next.ensures.calls)
