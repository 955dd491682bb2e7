use Rattle.rv32_isa.proofs.Rows.{each_row, other_rows}
use Rattle.rv32_isa.proofs.decoder.decode.Goals as goal

pub returns-clause-row : goal.returns-clause-row
returns-clause-row c = each_row c.args.word _ c.ranges.word.fits c.instr_at.ensures

pub returns-clause-no_row : goal.returns-clause-no_row
returns-clause-no_row c = other_rows c.args.word _ c.instr_at.ensures
