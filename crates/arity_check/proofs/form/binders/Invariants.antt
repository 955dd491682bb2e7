use Rattle.std.proofs.Common.{◌≡◌, take, map}
use Rattle.core_reader.specs.Tree.{bind}
use Rattle.arity_check.specs.Pieces.{binders_of}
use Rattle.arity_check.proofs.form.binders.Given as goal

abbrev pub invariant-loop-member : goal.invariant-loop-member
invariant-loop-member l = l.binders ≡ binders_of (map bind (take l.member-index l.group))
