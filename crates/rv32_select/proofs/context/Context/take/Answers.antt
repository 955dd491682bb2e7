use Rattle.low_code.specs.Tree.{program_of}
use Rattle.rv32_select.proofs.ResultSpots.{take_asks}
use Rattle.rv32_select.proofs.context.Context.take.Goals as goal

pub take-requires : goal.take-requires
take-requires c = take_asks (program_of c.args.self.now.low.now) c.args.self.now.places.now _ _ _
    c.args.self.now.writable.0 c.as_slice.ensures.value c.in_ok-spots.ensures c.requires.bytes
