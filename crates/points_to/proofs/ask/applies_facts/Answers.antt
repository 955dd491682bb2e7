use Rattle.std.proofs.Common.{rules, ◌≡◌, ◌++◌, ap, ◌∙◌}
use Rattle.std.specs.List.{flat_map}
use Rattle.flow_system.specs.Inclusions.{value, applies}
use Rattle.flow_system.specs.Solution.{width}
use Rattle.flow_system.specs.Shown.{tables_of, sink_of}
use Rattle.points_to.specs.Held.{as_nodes, value_items}
use Rattle.points_to.specs.Known.{held}
use Rattle.points_to.specs.Asked.{facts_demanded}
use Rattle.points_to.specs.Applied.{tag_applied}
use Rattle.points_to.proofs.Sets.{on_ok}
use Rattle.points_to.proofs.Fields.{all_applied}
use Rattle.points_to.proofs.ask.applies_facts.Goals as goal

pub returns : goal.returns
returns c =
    let p = tables_of c.args.system.now in
    let H = held c.args.facts.now in
    let v = c.args.v.now in
    let k = sink_of c.args.sink.now in
    let X = c.in_ok-nodes.nodes.nodes in
    let found = c.as_slice-tags.result.now in
    let out = c.args.out.now in
    let given : X ≡ as_nodes p (width (value v)) (value_items p H v) = search rules in
    on_ok c.tags_applied.result
    (c.tags_applied.new.out ≡ out ++ flat_map (tag_applied p H X c.args.a k) found)
    (c.tags_applied.new.out ≡ out ++ facts_demanded p H (applies v c.args.a k))
    (λ e. e ∙ ap (λ l. out ++ l)
    (all_applied p H v c.args.a k X found given
    (c.as_slice-tags.ensures ∙ c.in_ok-nodes.ensures.by_tag.tags_are))) c.tags_applied.ensures
