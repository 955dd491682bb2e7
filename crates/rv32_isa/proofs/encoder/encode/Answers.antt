use Rattle.std.proofs.Common.{◌∙◌, ap}
use Rattle.rv32_isa.specs.Table.{instr_of}
use Rattle.rv32_isa.proofs.Decoded.{decoded}
use Rattle.rv32_isa.proofs.encoder.encode.Goals as goal

pub returns-clause-again : goal.returns-clause-again
returns-clause-again c = ap instr_of c.word_of.ensures ∙ decoded c.args.instr c.in_range.ensures
