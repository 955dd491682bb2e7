use Rattle.std.proofs.Common.{◌≡◌, ◌++◌, drop}
use Rattle.rv32_select.specs.Emit.{plain, globals_code}
use Rattle.rv32_select.proofs.code.Code.globals.Given as goal

abbrev pub invariant-loop-tag : goal.invariant-loop-tag
invariant-loop-tag l = l.self ++ plain (globals_code l.step (drop l.tag-index l.globals)) ≡
    l.initial.self ++ plain (globals_code l.step l.globals)
