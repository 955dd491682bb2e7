use Rattle.std.proofs.Common.{◌≡◌, ◌++◌, take}
use Rattle.unbox.proofs.blocks.all_but_second.Given as goal

abbrev pub invariant-loop-x : goal.invariant-loop-x
invariant-loop-x l = l.made ≡ take 1 l.vars ++ take l.x-index l.x-items
