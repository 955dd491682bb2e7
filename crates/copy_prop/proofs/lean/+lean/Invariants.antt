use Rattle.std.proofs.Common.{◌≡◌}
use Rattle.grin_syntax.specs.Tree.{end, act_of}
use Rattle.copy_prop.proofs.Backward.{Leans, ArmsLean}
use Rattle.copy_prop.proofs.lean.+lean.Given as goal

abbrev pub decreases-lean_alt : goal.decreases-lean_alt
decreases-lean_alt l = goal.size-lean_alt l

abbrev pub decreases-without_idle_block : goal.decreases-without_idle_block
decreases-without_idle_block l = goal.size-without_idle_block l

abbrev pub decreases-lean_op : goal.decreases-lean_op
decreases-lean_op l = goal.size-lean_op l

abbrev pub decreases-lean_stmt : goal.decreases-lean_stmt
decreases-lean_stmt l = goal.size-lean_stmt l

abbrev pub invariant-lean_op-loop-alt : goal.invariant-lean_op-loop-alt
invariant-lean_op-loop-alt l = record
    { scrutinee : l.v ≡ l.initial.v; some : ArmsLean l.initial.uses l.uses l.made l.yielded }

abbrev pub invariant-without_idle_block-loop-stmt : goal.invariant-without_idle_block-loop-stmt
invariant-without_idle_block-loop-stmt l = Leans l.fn.uses l.uses
    (end (act_of l.fn.block.last.value)) l.yielded l.made.items (act_of l.last)
