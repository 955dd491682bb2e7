use Rattle.std.proofs.Common.{refl}
use Rattle.low_code.specs.Tree.{take}
use Rattle.register_alloc.proofs.Steps.{does_by, take_goes}
use Rattle.register_alloc.proofs.registers.Registers.take.Goals as goal

pub returns : goal.returns
returns c =
    does_by c.args.text.now c.args.end (take c.args.variables.now) c.args.variables.now
    c.args.self.now c.args.self.now c.bind.new.self c.args.holders.now.of.items
    c.in_ok-next.next.of.items (record { slots = refl; given = refl }) c.in_ok-next.ensures.adds
    (λ k. refl)
    (λ k. take_goes c.args.text.now c.args.end c.args.variables.now k c.args.self.now
    c.bind.new.self c.args.holders.now.of.items c.in_ok-next.next.of.items
    c.in_ok-next.ensures.bound c.in_ok-next.ensures.block c.in_ok-next.ensures.calls)
