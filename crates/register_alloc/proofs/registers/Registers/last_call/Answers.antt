use Rattle.register_alloc.proofs.Steps.{ends_tail}
use Rattle.register_alloc.proofs.registers.Registers.last_call.Goals as goal

pub returns : goal.returns
returns c text end held =
    ends_tail text end c.args.proc c.args.site c.args.given.now c.args.self.now
    c.pass_operands.new.self c.tail.new.self held c.in_ok-pass_operands.ensures.at
    c.in_ok-pass_operands.ensures.stays c.in_ok-tail.ensures.call c.in_ok-tail.ensures.text
    c.in_ok-tail.ensures.stays
