use Rattle.rv32_steps.proofs.Fetch.{code_stands}
use Rattle.rv32_steps.proofs.segment_holds_code.Goals as goal

pub returns : goal.returns
returns c = code_stands
