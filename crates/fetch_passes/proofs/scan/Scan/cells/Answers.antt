use Rattle.std.proofs.Common.{rules}
use Rattle.fetch_passes.proofs.Scanned.{cells_pushed}
use Rattle.fetch_passes.proofs.scan.Scan.cells.Goals as goal

pub loop-cell-preserved : goal.loop-cell-preserved
loop-cell-preserved c = record {
  used = cells_pushed c.args.cells.now c.loop-cell.cell-index c.cell-item.result
      c.args.self.now.used.items c.loop-cell.self.used.items c.val.new.self.used.items
      c.loop-cell-test.true c.cell-item.is c.in_ok-val.ensures.used c.loop-cell.invariant.used;
  sizes = search rules;
}
