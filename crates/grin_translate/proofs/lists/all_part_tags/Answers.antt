use Rattle.std.proofs.Common.{arith}
use Rattle.arity_check.specs.Program.{program}
use Rattle.grin_translate.proofs.Listed.{parts_next}
use Rattle.grin_translate.proofs.lists.all_part_tags.Goals as goal

pub loop-f-preserved : goal.loop-f-preserved
loop-f-preserved c = parts_next (program c.args.numbered.now.p.now) c.loop-f.f c.loop-f.made
    c.in_ok-made.made _ (omega (arith, c.args.numbered.now.exact.functions)) c.in_ok-made.ensures
    c.loop-f.invariant
