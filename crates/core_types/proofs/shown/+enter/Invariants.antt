use Rattle.std.proofs.Common.{◌≡◌, drop, map}
use Rattle.core_types.specs.Shown.{with_marks, marks_all}
use Rattle.core_types.specs.Sides.{type_of, types_from}
use Rattle.core_types.proofs.shown.+enter.Given as goal

abbrev pub invariant-enter_all-loop-ty : goal.invariant-enter_all-loop-ty
invariant-enter_all-loop-ty l = with_marks l.seen.keys
    (marks_all (types_from (map type_of (drop l.ty-index l.tys)))) ≡ with_marks l.fn.seen.keys
    (marks_all (types_from (map type_of l.tys)))
