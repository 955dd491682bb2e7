use Rattle.std.proofs.Common.{take, drop}
use Rattle.grin_syntax.specs.Formed.{AllOf}
use Rattle.low_translate.specs.Lowered.{ValRanged}
use Rattle.low_translate.specs.Translation.{store_all}
use Rattle.low_translate.proofs.Emitting.{Leaves}
use Rattle.low_translate.proofs.emit.fill_cells.Given as goal

abbrev pub invariant-loop-cell : goal.invariant-loop-cell
invariant-loop-cell l = record {
  some : Leaves l.initial.made l.made (store_all l.width l.cells)
      (store_all l.width (drop l.cell-index l.cells));
  ranged : AllOf (λ c. ValRanged c.val) (take l.cell-index l.cells);
}
