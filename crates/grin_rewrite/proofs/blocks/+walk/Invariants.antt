use Rattle.std.proofs.Common.{◌≡◌, map}
use Rattle.grin_syntax.specs.Tree.{arm_of}
use Rattle.grin_rewrite.specs.Rewriting.{rewrite_arm}
use Rattle.grin_rewrite.proofs.Loops.{Become}
use Rattle.grin_rewrite.proofs.blocks.+walk.Given as goal

abbrev pub invariant-block-loop-stmt : goal.invariant-block-loop-stmt
invariant-block-loop-stmt g l = Become (g.R.Rule.becomes l.rule) l.stmts l.yielded

abbrev pub invariant-operation-loop-alt : goal.invariant-operation-loop-alt
invariant-operation-loop-alt g l = record {
  scrutinee : l.v ≡ l.initial.v;
  some : map arm_of l.made ≡ map
      (rewrite_arm (g.R.Rule.becomes l.rule)) (map arm_of l.yielded);
}
