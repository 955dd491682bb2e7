use Rattle.std.proofs.Common.{◌∷◌, [], refl}
use Rattle.low_code.specs.Tree.{get}
use Rattle.register_alloc.proofs.Steps.{does_by, get_goes}
use Rattle.register_alloc.proofs.registers.Registers.input.Goals as goal

pub returns : goal.returns
returns c =
    does_by c.args.text.now c.args.end (get c.args.variable) (c.args.variable ∷ []) c.args.self.now
    c.args.self.now c.bind.new.self c.args.holders.now.of.items c.in_ok-next.next.of.items
    (record { slots = refl; given = refl }) c.in_ok-next.ensures.adds (λ k. refl)
    (λ k. get_goes c.args.text.now c.args.end c.args.variable k c.args.self.now c.bind.new.self
    c.args.holders.now.of.items c.in_ok-next.next.of.items c.in_ok-next.ensures.bound
    c.in_ok-next.ensures.block c.in_ok-next.ensures.calls)
