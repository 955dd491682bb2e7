use Rattle.std.proofs.Common.{◌≡◌, map}
use Rattle.grin_syntax.specs.Tree.{arm_of}
use Rattle.pass_flat.specs.Flat.{flat_arm}
use Rattle.pass_flat.proofs.Loops.{Become}
use Rattle.pass_flat.proofs.blocks.+flat.Given as goal

abbrev pub invariant-put_block-loop-stmt : goal.invariant-put_block-loop-stmt
invariant-put_block-loop-stmt l = Become l.initial.made l.made l.yielded

abbrev pub invariant-put_op-loop-alt : goal.invariant-put_op-loop-alt
invariant-put_op-loop-alt l = record {
  scrutinee : l.v ≡ l.initial.v;
  same : l.made ≡ l.initial.made;
  some
      : map arm_of l.arms ≡ map flat_arm (map arm_of l.yielded);
}
