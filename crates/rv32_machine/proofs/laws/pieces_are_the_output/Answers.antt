use Rattle.rv32_machine.proofs.Loops.{pieces_are_the_output}
use Rattle.rv32_machine.proofs.laws.pieces_are_the_output.Goals as goal

pub returns : goal.returns
returns c = pieces_are_the_output
