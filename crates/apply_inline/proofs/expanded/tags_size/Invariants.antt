use Rattle.std.proofs.Common.{◌≡◌, map, take}
use Rattle.std.specs.List.{filter}
use Rattle.inline_theory.specs.Expanded.{saturated_at_64_bits, tags_size}
use Rattle.apply_inline.proofs.expanded.tags_size.Given as goal

abbrev pub invariant-loop-t : goal.invariant-loop-t
invariant-loop-t g l = l.size ≡ saturated_at_64_bits
    (tags_size (g.O.OpensBySize.size l.of) (g.O.OpensBySize.tags l.of)
    (filter (g.O.OpensBySize.meets l.of) (map (λ t. t.0) (take l.t-index l.tags))))
