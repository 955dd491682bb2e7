use Rattle.std.proofs.Common.{◌≡◌, ◌++◌}
use Rattle.layout_speed.specs.Blocks.{blocks}
use Rattle.layout_speed.proofs.put_blocks.Given as goal

abbrev pub invariant-loop-k : goal.invariant-loop-k
invariant-loop-k l = l.items ≡ l.initial.items ++ blocks l.count l.k
