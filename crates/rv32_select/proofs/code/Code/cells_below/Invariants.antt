use Rattle.std.proofs.Common.{◌≡◌, ◌++◌, ◌*◌, length, drop}
use Rattle.rv32_select.specs.Emit.{plain, cells_below}
use Rattle.rv32_select.specs.Ranges.{AllInRange}
use Rattle.rv32_select.proofs.code.Code.cells_below.Given as goal

abbrev pub invariant-loop-place : goal.invariant-loop-place
invariant-loop-place l =
    (l.self ++ plain (cells_below l.step (drop l.place-index l.places)) ≡ l.initial.self
    ++ plain (cells_below l.step l.places)) ×
    (l.below ≡ l.step * length (drop l.place-index l.places))
    × AllInRange (drop l.place-index l.places)
