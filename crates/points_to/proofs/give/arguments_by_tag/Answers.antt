use Rattle.std.proofs.Common.{◌≡◌, ◌++◌, ap, ◌∙◌}
use Rattle.std.specs.List.{flat_map}
use Rattle.flow_system.specs.Shown.{tables_of}
use Rattle.flow_system.specs.declared.fact.Part.TheVariants.{Tags as tags}
use Rattle.points_to.specs.ByTag.{field_items}
use Rattle.points_to.specs.Held.{words_in_part, arguments_of}
use Rattle.points_to.specs.Known.{held}
use Rattle.points_to.proofs.Sets.{on_ok}
use Rattle.points_to.proofs.Fields.{all_arguments}
use Rattle.points_to.proofs.give.arguments_by_tag.Goals as goal

pub returns : goal.returns
returns c =
    let p = tables_of c.args.system.now in
    let H = held c.args.facts.now in
    let X = c.args.nodes.now.nodes in
    let fields = c.append_fields.new.out in
    let found = c.as_slice-tags.result.now in
    let out = c.args.out.now in
    on_ok c.arguments_of_all.result
    (c.arguments_of_all.new.out ≡ out ++ flat_map
    (arguments_of p H c.args.t c.args.words.now fields) found)
    (c.arguments_of_all.new.out ≡ out ++ flat_map (arguments_of p H c.args.t c.args.words.now X)
    (words_in_part tags X))
    (λ e. e ∙ ap (λ l. out ++ l)
    (all_arguments p H c.args.t c.args.words.now X fields found
    (c.in_ok-append_fields.ensures ∙ ap (λ l. l ++ field_items c.args.t X) c.new-fields.ensures)
    (c.as_slice-tags.ensures ∙ c.requires.tags_are))) c.arguments_of_all.ensures
