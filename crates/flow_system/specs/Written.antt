-- Sources, sinks and inclusions as the code has them.
use Rattle.std.specs.Prelude.{List, [], map}
use Rattle.flow_system.specs.declared.inclusion.Source as source'
use Rattle.flow_system.specs.declared.inclusion.Source.TheVariants.{Value, ACell, ANumber, Result, NodesAt, WordAt, EvaluatedAt, Extended, FieldsOf}
use Rattle.flow_system.specs.declared.inclusion.FlowSink as sink'
use Rattle.flow_system.specs.declared.inclusion.FlowSink.TheVariants.{To, Result as IntoResult, Site as IntoSite, CellsAt}
use Rattle.flow_system.specs.declared.inclusion.Inclusion as inclusion'
use Rattle.flow_system.specs.declared.inclusion.Inclusion.TheVariants.{Flows, Forces, Applies}
use Rattle.flow_system.specs.Inclusions.{result, Source, value, a_cell, a_number, held, nodes_at, word_at, evaluated, extended, arguments, FlowSink, to, into_site, into_result, cells_at, Inclusion, flows, forces, applies}

abbrev pub source_of : source'.Source → Source
source_of (Value v) = value v
source_of (ACell s) = a_cell s.0
source_of ANumber = a_number
source_of (Result f) = held (result f.0)
source_of (NodesAt a) = nodes_at a
source_of (WordAt a i) = word_at a i
source_of (EvaluatedAt a) = evaluated (nodes_at a)
source_of (Extended v a) = extended v a
source_of (FieldsOf v t) = arguments (value v.now) t.0 []

abbrev pub sink_of : sink'.FlowSink → FlowSink
sink_of (To t) = to t
sink_of (IntoResult f) = into_result f.0
sink_of (IntoSite s) = into_site s.0
sink_of (CellsAt a) = cells_at a

abbrev pub inclusion_of : inclusion'.Inclusion → Inclusion
inclusion_of (Flows s k) = flows (source_of s) (sink_of k)
inclusion_of (Forces s) = forces s.0
inclusion_of (Applies v a k) = applies v a (sink_of k)

abbrev pub shown : List inclusion'.Inclusion → List Inclusion
shown = map inclusion_of
