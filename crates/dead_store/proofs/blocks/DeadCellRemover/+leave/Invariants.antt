use Rattle.std.proofs.Common.{◌≡◌, map}
use Rattle.grin_syntax.specs.Tree.{arm_of}
use Rattle.dead_store.specs.Holding.{set_holds}
use Rattle.dead_store.specs.Without.{without_arm}
use Rattle.dead_store.proofs.Rewriting.{Become}
use Rattle.dead_store.proofs.blocks.DeadCellRemover.+leave.Given as goal

abbrev pub invariant-block-loop-stmt : goal.invariant-block-loop-stmt
invariant-block-loop-stmt l = Become (set_holds l.self.sites.now.keys)
    (set_holds l.self.gone.now.keys) l.stmts l.yielded

abbrev pub invariant-op-loop-alt : goal.invariant-op-loop-alt
invariant-op-loop-alt l = record {
  scrutinee : l.value ≡ l.initial.value;
  some : map arm_of l.arms ≡ map
      (without_arm (set_holds l.self.sites.now.keys) (set_holds l.self.gone.now.keys))
      (map arm_of l.yielded);
}
