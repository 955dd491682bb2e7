use Rattle.std.proofs.Common.{◌≡◌}
use Rattle.grin_syntax.specs.Tree.{end, act_of}
use Rattle.points_to.specs.Found.{found}
use Rattle.pass_narrow.proofs.Backward.{Narrows, ArmsNarrow}
use Rattle.pass_narrow.proofs.blocks.+narrow.Given as goal

abbrev pub decreases-narrow_alt : goal.decreases-narrow_alt
decreases-narrow_alt l = goal.size-narrow_alt l

abbrev pub decreases-narrow_block : goal.decreases-narrow_block
decreases-narrow_block l = goal.size-narrow_block l

abbrev pub decreases-narrow_op : goal.decreases-narrow_op
decreases-narrow_op l = goal.size-narrow_op l

abbrev pub decreases-narrow_stmt : goal.decreases-narrow_stmt
decreases-narrow_stmt l = goal.size-narrow_stmt l

abbrev pub invariant-narrow_op-loop-alt : goal.invariant-narrow_op-loop-alt
invariant-narrow_op-loop-alt l = record {
  scrutinee : l.v ≡ l.initial.v;
  some : ArmsNarrow l.tags.count (found l.tags.flow.now) l.stays
      l.initial.uses l.uses l.made l.yielded;
}

abbrev pub invariant-narrow_block-loop-stmt : goal.invariant-narrow_block-loop-stmt
invariant-narrow_block-loop-stmt l = Narrows l.tags.count (found l.tags.flow.now) l.stays l.fn.uses
    l.uses (end (act_of l.fn.block.last.value)) l.yielded l.made.items (act_of l.last)
