use Rattle.std.proofs.Common.{◌≡◌}
use Rattle.rv32_layout.specs.Places.{place}
use Rattle.rv32_layout.specs.Spots.{HasRoom, KnowsLabelSpots}
use Rattle.rv32_layout.proofs.labels.note_label_places.Given as goal

abbrev pub invariant-loop-n : goal.invariant-loop-n
invariant-loop-n l = record {
  at_is : l.at ≡ place l.ways l.items l.n;
  known : KnowsLabelSpots l.items l.ways l.n l.spots;
  room : HasRoom l.items l.spots;
}
