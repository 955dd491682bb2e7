use Rattle.std.proofs.Common.{◌≡◌, ◌++◌, drop}
use Rattle.rv32_select.specs.Emit.{plain, parameters_code}
use Rattle.rv32_select.proofs.code.Code.parameters.Given as goal

abbrev pub invariant-loop-i : goal.invariant-loop-i
invariant-loop-i l = l.self ++ plain (parameters_code l.i (drop l.i l.places)) ≡ l.initial.self
    ++ plain (parameters_code 0 l.places)
