use Rattle.std.proofs.Common.{rules, ◌≡◌, ◌++◌, [], ap, ◌∙◌}
use Rattle.std.specs.List.{flat_map}
use Rattle.flow_system.specs.declared.fact.Part.TheVariants.{Tags as tags}
use Rattle.flow_system.specs.Inclusions.{value, arguments}
use Rattle.flow_system.specs.Solution.{width}
use Rattle.flow_system.specs.Shown.{tables_of}
use Rattle.points_to.specs.Held.{words_in_part, arguments_of, value_items, items}
use Rattle.points_to.specs.Known.{held}
use Rattle.points_to.specs.OneTag.{as_nodes_of}
use Rattle.points_to.proofs.OneTag.{arguments_of_tag}
use Rattle.points_to.proofs.Sets.{on_ok}
use Rattle.points_to.proofs.give.fields_of_value.Goals as goal

pub returns : goal.returns
returns c =
    let p = tables_of c.args.system.now in
    let H = held c.args.facts.now in
    let t = c.args.t in
    let v = c.args.v.now in
    let X = value_items p H v in
    let nodes : c.as_nodes_of.new.out ≡ as_nodes_of p t (width (value v)) X = search rules in
    on_ok c.arguments.result
    (c.arguments.new.out ≡ c.args.out.now ++ flat_map (arguments_of p H t [] c.as_nodes_of.new.out)
    (words_in_part tags c.as_nodes_of.new.out))
    (c.arguments.new.out ≡ c.args.out.now ++ items p H (arguments (value v) t []))
    (λ e. e ∙ ap (λ N. c.args.out.now ++ flat_map (arguments_of p H t [] N) (words_in_part tags N))
    nodes ∙ ap (λ l. c.args.out.now ++ l) (arguments_of_tag p H t [] (width (value v)) X))
    c.arguments.ensures
