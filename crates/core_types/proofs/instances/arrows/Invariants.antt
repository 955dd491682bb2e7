use Rattle.std.proofs.Common.{List, length, drop, ◌≤◌}
use Rattle.core_types.specs.Typing.{Typed, arrows}
use Rattle.core_types.specs.Nodes.{IsSound, Denotes, DenoteEach, AddsTermForType}
use Rattle.core_types.proofs.instances.arrows.Given as goal

abbrev pub invariant-leading : goal.invariant-leading
invariant-leading l = record {
  within : l.left ≤ length l.from;
  given : (ts : List Typed) (t : Typed) → IsSound l.initial.nodes
      → DenoteEach l.initial.nodes ts l.from → Denotes l.initial.nodes t l.to
      → AddsTermForType l.initial.nodes l.nodes (arrows (drop l.left ts) t) l.at;
}

abbrev pub decreases-leading : goal.decreases-leading
decreases-leading l = l.left
