use Rattle.std.proofs.Common.{◌≡◌, map}
use Rattle.grin_syntax.specs.Tree.{arm_of}
use Rattle.unbox_theory.specs.Ends.{is_member}
use Rattle.unbox_theory.specs.Unboxing.{unbox_arm}
use Rattle.unbox.proofs.Loops.{Become}
use Rattle.unbox.proofs.blocks.Members.+unbox.Given as goal

abbrev pub invariant-block-loop-stmt : goal.invariant-block-loop-stmt
invariant-block-loop-stmt l = Become (is_member l.self.inside) l.stmts l.yielded

abbrev pub invariant-op-loop-alt : goal.invariant-op-loop-alt
invariant-op-loop-alt l = record {
  scrutinee : l.v ≡ l.initial.v;
  some : map arm_of l.made ≡ map
      (unbox_arm (is_member l.self.inside) l.bare) (map arm_of l.yielded);
}
