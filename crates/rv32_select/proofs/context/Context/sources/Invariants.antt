use Rattle.std.proofs.Common.{◌≡◌, ◌++◌, drop}
use Rattle.low_code.specs.Tree.{program_of}
use Rattle.rv32_select.specs.IsSelected.{sources}
use Rattle.rv32_select.specs.Writable.{OperandsPlaced}
use Rattle.rv32_select.proofs.context.Context.sources.Given as goal

abbrev pub invariant-loop-operand : goal.invariant-loop-operand
invariant-loop-operand l = record {
  made : l.sources.items ++ sources (program_of l.self.low.now) l.self.places.now
      (drop l.operand-index l.operands) ≡ sources (program_of l.self.low.now) l.self.places.now
      l.operands;
  placed : OperandsPlaced (program_of l.self.low.now) l.self.places.now
      (drop l.operand-index l.operands);
}
