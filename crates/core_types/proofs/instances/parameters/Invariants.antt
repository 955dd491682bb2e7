use Rattle.std.proofs.Common.{take, map}
use Rattle.core_reader.specs.declared.syntax.Binder.{Binder}
use Rattle.core_types.specs.Typing.{Open, AtUse}
use Rattle.core_types.specs.Nodes.{IsSound}
use Rattle.core_types.specs.Instances.{AddsTermsForTypes}
use Rattle.core_types.proofs.instances.parameters.Given as goal

abbrev pub invariant-loop-param : goal.invariant-loop-param
invariant-loop-param l = IsSound l.initial.nodes → AddsTermsForTypes l.initial.nodes l.nodes
    (map (λ (b : Binder). Open (AtUse l.at b.name.0)) (take l.param-index l.params)) l.terms.items
