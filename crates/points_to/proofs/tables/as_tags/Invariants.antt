use Rattle.std.proofs.Common.{◌≡◌, ◌++◌, map, take}
use Rattle.points_to.proofs.tables.as_tags.Given as goal
use Rattle.grin_syntax.specs.Tags.{tag_id}

abbrev pub invariant-loop-n : goal.invariant-loop-n
invariant-loop-n l = l.out ≡ l.initial.out ++ map tag_id (take l.n-index l.numbers)
