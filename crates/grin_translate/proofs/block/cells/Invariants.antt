use Rattle.std.proofs.Common.{◌≡◌, map, take}
use Rattle.arity_check.specs.Program.{program}
use Rattle.grin_translate.specs.Blocks.{cell_of}
use Rattle.grin_translate.proofs.block.cells.Given as goal

abbrev pub invariant-loop-bound : goal.invariant-loop-bound
invariant-loop-bound l = l.made ≡ map (cell_of (program l.numbered.p.now) l.variables.base)
    (take l.bound-index l.group)
