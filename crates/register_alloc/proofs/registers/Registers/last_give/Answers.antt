use Rattle.register_alloc.proofs.Steps.{ends_give}
use Rattle.register_alloc.proofs.registers.Registers.last_give.Goals as goal

pub returns : goal.returns
returns c text end held = ends_give text end c.args.given.now c.args.self.now
    c.pass_operands.new.self held c.in_ok-pass_operands.ensures.at
    c.in_ok-pass_operands.ensures.stays
