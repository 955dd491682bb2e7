use Rattle.std.proofs.Common.{refl}
use Rattle.low_code.specs.Tree.{call}
use Rattle.register_alloc.proofs.Walking.{same_places}
use Rattle.register_alloc.proofs.Steps.{does_by, call_goes_on}
use Rattle.register_alloc.proofs.registers.Registers.result_of.Goals as goal

pub returns : goal.returns
returns c =
    does_by c.args.text.now c.args.end
    (call c.args.proc c.args.site c.args.given.now c.args.targets.now) c.args.targets.now
    c.args.self.now c.pass_operands.new.self c.call.new.self c.args.holders.now.of.items
    c.in_ok-next.next.of.items
    (same_places c.args.self.now c.pass_operands.new.self c.in_ok-pass_operands.ensures.stays)
    c.in_ok-next.ensures.adds (λ k. refl)
    (λ k. call_goes_on c.args.text.now c.args.end c.args.proc c.args.site c.args.given.now
    c.args.targets.now k c.args.self.now c.pass_operands.new.self c.call.new.self
    c.args.holders.now.of.items c.in_ok-next.next.of.items c.in_ok-pass_operands.ensures.at
    c.in_ok-pass_operands.ensures.stays c.in_ok-next.ensures.bound c.in_ok-next.ensures.notes
    c.in_ok-next.ensures.block)
