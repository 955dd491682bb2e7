use Rattle.std.proofs.Common.{sym, arith}
use Rattle.std.proofs.lemmas.Grind.{common_steps}
use Rattle.rv32_machine.proofs.Begun.{one_part_more}
use Rattle.rv32_machine.proofs.store.regions.Goals as goal

pub loop-segment-preserved : goal.loop-segment-preserved
loop-segment-preserved c = record {
  made = grind (arith, common_steps);
  parts = one_part_more c.args.segments.now c.loop-segment.segment-index c.segment-item.result
      c.loop-segment.invariant.parts (sym c.segment-item.is) c.loop-segment-test.true
      c.in_ok-new.ensures.part;
}
