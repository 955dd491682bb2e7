use Rattle.std.proofs.Common.{take_all, arith}
use Rattle.std.proofs.lemmas.Grind.{common_steps}
use Rattle.elf32.proofs.writer.pad.Goals as goal

pub returns : goal.returns
returns c =
    let k = c.in_ok-resize.ensures.items in
    let short = take_all 4096 c.args.file.now.items (omega arith) in
    grind (arith, common_steps, k, short)
