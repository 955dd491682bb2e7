use Rattle.rv32_machine.specs.Memory.{bytes_of}
use Rattle.rv32_machine.proofs.Zeroed.{reached_put}
use Rattle.rv32_machine.proofs.memory.Region.put_byte.Goals as goal

pub returns : goal.returns
returns c = reached_put c.self.inside.size c.args.offset c.reach.new.bytes.items
    (bytes_of 1 c.args.value) _ _ c.self.view_is c.reach.ensures.same c.reach.ensures.reached
