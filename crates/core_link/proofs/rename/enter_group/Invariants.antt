use Rattle.std.proofs.Common.{◌≡◌, drop, map}
use Rattle.core_reader.specs.Tree.{bind}
use Rattle.arity_check.specs.Known.{all_entered}
use Rattle.arity_check.specs.Pieces.{binders_of}
use Rattle.arity_check.specs.Tables.{known}
use Rattle.core_link.proofs.rename.enter_group.Given as goal

abbrev pub invariant-loop-member : goal.invariant-loop-member
invariant-loop-member l = all_entered (known l.globals)
    (binders_of (map bind (drop l.member-index l.group))) l.scope ≡ all_entered (known l.globals)
    (binders_of (map bind l.group)) l.fn.scope
