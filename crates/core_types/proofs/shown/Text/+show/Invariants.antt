use Rattle.std.proofs.Common.{◌≡◌, ◌++◌, drop, map}
use Rattle.core_types.specs.Shown.{args_text}
use Rattle.core_types.specs.Sides.{type_of, types_from}
use Rattle.core_types.proofs.shown.Text.+show.Given as goal

abbrev pub invariant-args-loop-arg : goal.invariant-args-loop-arg
invariant-args-loop-arg l = l.self ++ args_text l.names l.seen.keys
    (types_from (map type_of (drop l.arg-index l.args))) ≡ l.fn.self
    ++ args_text l.names l.seen.keys (types_from (map type_of l.args))
