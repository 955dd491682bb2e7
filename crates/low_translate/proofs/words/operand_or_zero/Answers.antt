use Rattle.std.proofs.Common.{sym, ◌∙◌, arith}
use Rattle.low_code.specs.declared.program.Operand.TheVariants.{Num}
use Rattle.low_translate.proofs.Items.{nth-get}
use Rattle.low_translate.proofs.words.operand_or_zero.Goals as goal

pub returns-in-Some : goal.returns-in-Some
returns-in-Some c = c.in-Some.ensures.lookup.3.1 (Num 0) ∙ sym (nth-get _ c.args.at)

pub returns-in-None : goal.returns-in-None
returns-in-None c = c.in-None.ensures.lookup.4 (omega arith) (Num 0) ∙ sym (nth-get _ c.args.at)
