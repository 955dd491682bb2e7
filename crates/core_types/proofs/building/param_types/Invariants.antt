use Rattle.std.proofs.Common.{take, map}
use Rattle.core_reader.specs.Tree.{function as function_tree}
use Rattle.core_types.specs.Source.{Source}
use Rattle.core_types.specs.Typing.{param_type}
use Rattle.core_types.specs.Nodes.{IsSound}
use Rattle.core_types.specs.Instances.{AddsTermsForTypes}
use Rattle.core_types.specs.Building.{IsContextOf}
use Rattle.core_types.proofs.building.param_types.Given as goal

abbrev pub invariant-loop-param : goal.invariant-loop-param
invariant-loop-param l = (s : Source) → IsContextOf l.context s → IsSound l.initial.nodes
    → AddsTermsForTypes l.initial.nodes l.nodes
    (map (param_type s (function_tree l.function)) (take l.param-index l.param-items))
    l.terms.items
