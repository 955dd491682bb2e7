use Rattle.std.proofs.Common.{◌≡◌, ℕ, ◌<◌, take}
use Rattle.std.specs.Prelude.{map, slice_index_or}
use Rattle.elf32.specs.Image.{ImageSegment, IsSoundSegment}
use Rattle.rv32_machine.specs.Memory.{stretch_of}
use Rattle.rv32_machine.proofs.store.regions.Given as goal

abbrev pub invariant-loop-segment : goal.invariant-loop-segment
invariant-loop-segment l = record {
  made : l.regions.items ≡ map stretch_of (take l.segment-index l.segments);
  parts : (k : ℕ) (d : ImageSegment) → k < l.segment-index
      → IsSoundSegment (slice_index_or l.segments k d);
}
