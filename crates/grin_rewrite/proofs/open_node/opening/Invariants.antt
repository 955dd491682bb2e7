use Rattle.std.proofs.Common.{map, take}
use Rattle.std.specs.List.{filter}
use Rattle.grin_rewrite.proofs.OpenedLoop.{OpenedSoFar}
use Rattle.grin_rewrite.proofs.open_node.opening.Given as goal

abbrev pub invariant-loop-t : goal.invariant-loop-t
invariant-loop-t g l =
    OpenedSoFar (g.O.Opens.tags l.of) (g.O.Opens.opening l.of) l.initial.fresh.next l.alts
    (filter (g.O.Opens.meets l.of) (map (λ t. t.0) (take l.t-index l.tags))) l.fresh.next
