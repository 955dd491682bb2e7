use Rattle.std.proofs.Common.{◌≡◌, ◌++◌, ◌<◌, drop}
use Rattle.rv32_select.specs.Emit.{plain, cells_code}
use Rattle.rv32_select.specs.Ranges.{AllInRange}
use Rattle.rv32_select.proofs.code.Code.cells.Given as goal

abbrev pub invariant-loop-place : goal.invariant-loop-place
invariant-loop-place l =
    (l.self ++ plain (cells_code l.step l.offset (drop l.place-index l.places)) ≡ l.initial.self
    ++ plain (cells_code l.step 0 l.places)) × (l.offset < 2048)
    × AllInRange (drop l.place-index l.places)
