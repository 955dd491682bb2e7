use Rattle.flow_system.specs.Shown.{tables_of}
use Rattle.points_to.specs.Held.{fetched_at}
use Rattle.points_to.specs.Known.{held}
use Rattle.points_to.specs.Reads.{cell_reads}
use Rattle.points_to.proofs.Gets.{gets_none, gets_done}
use Rattle.points_to.proofs.Registered.{registers_none, registers_next, registers_done, fetched_next}
use Rattle.points_to.proofs.worklist.Worklist.fetch_cells.Goals as goal

pub loop-cell-init : goal.loop-cell-init
loop-cell-init c = record
    { registers = registers_none c.args.n c.args.self.now; gets = gets_none c.args.words.now }

pub loop-cell-preserved : goal.loop-cell-preserved
loop-cell-preserved c =
    let v = c.loop-cell.invariant in
    let e = c.in_ok-fetch_cell.ensures in
    record {
      registers = registers_next c.args.n cell_reads c.args.cells.now _ _ _ _ _
          c.loop-cell-test.true v.registers e.registers;
      gets = fetched_next (tables_of c.args.system.now) c.args.i c.args.n c.args.cells.now _ _
          c.args.self.now _ _ _ _ c.loop-cell-test.true v.registers v.gets e.gets;
    }

pub returns : goal.returns
returns c =
    let v = c.loop-cell.invariant in
    record {
      registers = registers_done c.args.n cell_reads c.args.cells.now _ _ _ c.loop-cell-test.false
          v.registers;
      gets = gets_done
          (fetched_at (tables_of c.args.system.now) (held c.args.self.now.facts) c.args.i)
          c.args.cells.now _ _ _ c.loop-cell-test.false v.gets;
    }
