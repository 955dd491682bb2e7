use Rattle.std.proofs.Common.{◌≡◌, ◌+◌, ◌-◌, ◌*◌, ◌<◌, map, take, drop, length}
use Rattle.grin_syntax.specs.Tree.{end, act_of, arm_of, arms_of}
use Rattle.fetch_passes.specs.Notes.{Here, arms_trace}
use Rattle.fetch_passes.specs.Asked.{SpanCoversBlock}
use Rattle.fetch_passes.proofs.Firsts.{code_from}
use Rattle.fetch_passes.proofs.Splits.{BlockSoFar, ArmsSoFar}
use Rattle.fetch_passes.proofs.split.FetchSplitter.+split.Given as goal

abbrev pub invariant-block-loop-stmt : goal.invariant-block-loop-stmt
invariant-block-loop-stmt l = record {
  counted : l.at ≡ l.stmt-index;
  later : l.fn.here.piece < l.span.place.piece;
  spans : SpanCoversBlock l.self.notes.now l.span
      (code_from l.stmts l.stmt-index (end (act_of l.block.last.value)));
  some : BlockSoFar l.self.tags.now l.initial.now.names l.now.names l.initial.now.cell l.now.cell
      l.now.waits l.initial.fresh.next l.fresh.next l.stmts l.initial.made l.made l.stmt-index
      (end (act_of l.block.last.value));
}

abbrev pub invariant-op-loop-alt : goal.invariant-op-loop-alt
invariant-op-loop-alt l = record {
  scrutinee : l.v ≡ l.initial.v;
  later : l.fn.here.piece < l.place.piece;
  places : Here l.self.notes.now l.place
      (arms_trace (arms_of (map arm_of (drop l.alt-index l.alt-items))));
  some : ArmsSoFar l.self.tags.now l.names l.cell l.waits l.initial.fresh.next l.fresh.next
      (take l.alt-index l.alt-items) l.made;
}

-- a piece is split before what it holds, and that begins later

abbrev pub decreases-op : goal.decreases-op
decreases-op l = 3 * (length l.self.now.notes.now.sizes - l.here.piece) + 2

abbrev pub decreases-alt : goal.decreases-alt
decreases-alt l = 3 * (length l.self.now.notes.now.sizes - l.here.piece) + 3

abbrev pub decreases-stmt : goal.decreases-stmt
decreases-stmt l = 3 * (length l.self.now.notes.now.sizes - l.span.place.piece) + 3

abbrev pub decreases-block : goal.decreases-block
decreases-block l = 3 * (length l.self.now.notes.now.sizes - l.here.piece) + 1
