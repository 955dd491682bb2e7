use Rattle.std.proofs.Common.{◌≡◌, map}
use Rattle.grin_syntax.specs.Tree.{arm_of}
use Rattle.vectorise.specs.Vectors.{wide_arm}
use Rattle.vectorise.proofs.Loops.{Widens}
use Rattle.vectorise.proofs.blocks.Vectors.+widen.Given as goal

abbrev pub invariant-block-loop-stmt : goal.invariant-block-loop-stmt
invariant-block-loop-stmt l = Widens l.self.layout l.self.known l.stmts l.yielded

abbrev pub invariant-op-loop-alt : goal.invariant-op-loop-alt
invariant-op-loop-alt l = record {
  scrutinee : l.v ≡ l.initial.v;
  some : map arm_of l.made ≡ map
      (wide_arm l.self.layout l.self.known) (map arm_of l.yielded);
}
