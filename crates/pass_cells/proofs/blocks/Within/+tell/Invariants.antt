use Rattle.std.proofs.Common.{◌≡◌, map}
use Rattle.grin_syntax.specs.Tree.{arm_of}
use Rattle.pass_cells.specs.Remembered.{told_arm}
use Rattle.pass_cells.specs.Entries.{memories, ExtendsEntries, unshown_by_set}
use Rattle.pass_cells.proofs.Rewriting.{Become}
use Rattle.pass_cells.proofs.blocks.Within.+tell.Given as goal

abbrev pub invariant-block-loop-stmt : goal.invariant-block-loop-stmt
invariant-block-loop-stmt l = record {
  so_far : Become (unshown_by_set l.self.shown.now.keys) (memories l.initial.entries)
      (memories l.entries) l.stmts l.yielded;
  more : ExtendsEntries l.initial.entries l.entries;
}

abbrev pub invariant-op-loop-alt : goal.invariant-op-loop-alt
invariant-op-loop-alt l = record {
  scrutinee : l.v ≡ l.initial.v;
  same : l.entries ≡ l.initial.entries;
  some : map arm_of l.arms ≡ map
      (told_arm (unshown_by_set l.self.shown.now.keys) (memories l.initial.entries))
      (map arm_of l.yielded);
}
