-- A flow system, as the code has it.
use Rattle.std.specs.Prelude.{List}
use Rattle.flow_system.specs.declared.inclusion.FlowSystem.{FlowSystem}
use Rattle.flow_system.specs.Tables.{Tables}
use Rattle.flow_system.specs.Inclusions.{Inclusion}
pub use Rattle.flow_system.specs.Written.{source_of, sink_of, inclusion_of, shown}

abbrev pub tables_of : FlowSystem → Tables
tables_of s = record { tags = s.tags.now; globals = s.globals.now; params = s.params }

abbrev pub inclusions_of : FlowSystem → List Inclusion
inclusions_of s = shown s.inclusions
