use Rattle.std.proofs.Common.{◌≡◌, take, map}
use Rattle.grin_syntax.specs.Tree.{before_of, arm_of}
use Rattle.grin_syntax.proofs.copies.+copies.Given as goal

abbrev pub invariant-copy_block-loop-stmt : goal.invariant-copy_block-loop-stmt
invariant-copy_block-loop-stmt l = map before_of l.stmts ≡ map before_of
    (take l.stmt-index l.stmt-items)

abbrev pub invariant-copy_op-loop-alt : goal.invariant-copy_op-loop-alt
invariant-copy_op-loop-alt l = record {
  scrutinee : l.v ≡ l.initial.v;
  some : map arm_of l.made ≡ map arm_of
      (take l.alt-index l.alt-items);
}
