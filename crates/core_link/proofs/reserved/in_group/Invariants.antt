use Rattle.std.proofs.Common.{◌≡◌, drop, map}
use Rattle.core_reader.specs.Tree.{bind}
use Rattle.arity_check.specs.Known.{is_reserved}
use Rattle.arity_check.specs.Pieces.{binders_of}
use Rattle.arity_check.specs.Tables.{known}
use Rattle.core_link.specs.Found.{earliest, binder_place}
use Rattle.core_link.proofs.reserved.in_group.Given as goal

abbrev pub invariant-loop-member : goal.invariant-loop-member
invariant-loop-member l = earliest (λ b. is_reserved (known l.globals) b.name.0) binder_place
    l.first (binders_of (map bind (drop l.member-index l.group))) ≡ earliest
    (λ b. is_reserved (known l.globals) b.name.0) binder_place l.fn.found
    (binders_of (map bind l.group))
