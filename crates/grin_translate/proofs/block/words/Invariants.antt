use Rattle.std.proofs.Common.{◌≡◌, ◌++◌, map, take}
use Rattle.arity_check.specs.Program.{program}
use Rattle.grin_translate.specs.Blocks.{word}
use Rattle.grin_translate.proofs.block.words.Given as goal

abbrev pub invariant-loop-x : goal.invariant-loop-x
invariant-loop-x l = l.made ≡ l.initial.made ++ map
    (word (program l.numbered.p.now) l.variables.base) (take l.x-index l.xs)
