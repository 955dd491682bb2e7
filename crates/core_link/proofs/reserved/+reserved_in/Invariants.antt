use Rattle.std.proofs.Common.{◌≡◌, drop, map}
use Rattle.core_reader.specs.Tree.{alternative, alts_of}
use Rattle.arity_check.specs.Known.{is_reserved}
use Rattle.arity_check.specs.Tables.{known}
use Rattle.core_link.specs.Bound.{bound_in_alts}
use Rattle.core_link.specs.Found.{earliest, binder_place}
use Rattle.core_link.proofs.reserved.+reserved_in.Given as goal

abbrev pub invariant-in_expr-loop-alt : goal.invariant-in_expr-loop-alt
invariant-in_expr-loop-alt l =
    earliest (λ b. is_reserved (known l.globals) b.name.0) binder_place l.first
    (bound_in_alts (alts_of (map alternative (drop l.alt-index l.alt-items)))) ≡ earliest
    (λ b. is_reserved (known l.globals) b.name.0) binder_place l.initial.first
    (bound_in_alts (alts_of (map alternative l.alt-items)))
