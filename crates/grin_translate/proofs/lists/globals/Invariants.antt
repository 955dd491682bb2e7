use Rattle.std.proofs.Common.{◌≡◌, ◌++◌, drop}
use Rattle.arity_check.specs.Program.{program}
use Rattle.grin_translate.specs.Translation.{global_cells}
use Rattle.grin_translate.proofs.lists.globals.Given as goal

abbrev pub invariant-loop-f : goal.invariant-loop-f
invariant-loop-f l = l.made ++ global_cells (program l.numbered.p.now)
    (drop l.f (program l.numbered.p.now).funs) l.f ≡ global_cells (program l.numbered.p.now)
    (program l.numbered.p.now).funs 0
