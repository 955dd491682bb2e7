use Rattle.std.proofs.Common.{◌≡◌, ◌++◌, ◌+◌, drop}
use Rattle.rv32_select.specs.Emit.{plain, moves_code, save_moves}
use Rattle.rv32_select.specs.Ranges.{AreRegisters}
use Rattle.rv32_select.proofs.code.Code.save_registers.Given as goal

abbrev pub invariant-loop-register : goal.invariant-loop-register
invariant-loop-register l = record {
  made : l.self ++ plain (moves_code (save_moves l.slot (drop l.register-index l.registers))) ≡
      l.initial.self ++ plain (moves_code (save_moves l.first l.registers));
  slot : l.slot ≡ l.first + l.register-index;
  are : AreRegisters (drop l.register-index l.registers);
}
