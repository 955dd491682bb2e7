use Rattle.std.proofs.Common.{◌∙◌}
use Rattle.low_code.specs.Tree.{code_of}
use Rattle.rv32_select.specs.IsSelected.{waits}
use Rattle.rv32_select.proofs.RarelyRun.{one_is, one_not}
use Rattle.rv32_select.proofs.rare.first_arm_goes_last.Goals as goal

pub returns-then-len-eq1 : goal.returns-then-len-eq1
returns-then-len-eq1 c =
    c.waits.ensures ∙ one_is c.args.first.now.tests c.len.result
    (waits c.args.way (code_of c.args.first.now.block) (code_of c.args.last.now)) c.len.ensures
    c.if-len-eq1.true

pub returns : goal.returns
returns c = one_not c.args.first.now.tests c.len.result
    (waits c.args.way (code_of c.args.first.now.block) (code_of c.args.last.now)) c.len.ensures
    c.if-len-eq1.false
