-- What became of a source or a sink over some calls, with what its kind says of a call.
use Rattle.grin_io.specs.declared.outside.Source.{Ghosts as SourceKind}
use Rattle.grin_io.specs.declared.outside.Sink.{Ghosts as SinkKind}
use Rattle.grin_io.specs.Changes.{SourceChange, SinkChange, source_change, sink_change}

-- of a source
abbrev pub source_over : {I : Type 0} → SourceKind I → (old new : I) → SourceChange I
source_over kind old new = source_change kind.read_gives kind.left kind.is_over kind.faults old new

-- of a sink
abbrev pub sink_over : {K : Type 0} → SinkKind K → (old new : K) → SinkChange K
sink_over kind old new = sink_change kind.put_gives kind.taken kind.faults old new
