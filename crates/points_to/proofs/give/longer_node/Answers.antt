use Rattle.flow_system.specs.Shown.{tables_of}
use Rattle.std.proofs.Common.{◌++◌, ap, ◌∙◌}
use Rattle.points_to.specs.ByTag.{field_items}
use Rattle.points_to.specs.Known.{held}
use Rattle.points_to.proofs.Fields.{longer_from}
use Rattle.points_to.proofs.give.longer_node.Goals as goal

pub returns : goal.returns
returns c = longer_from (tables_of c.args.system.now) (held c.args.facts.now) c.args.a
    c.args.nodes.now.nodes c.append_fields.new.out c.args.t c.args.longer c.fields_of.result
    c.args.out.now _ _ _
    (c.in_ok-append_fields.ensures ∙ ap (λ l. l ++ field_items c.args.t c.args.nodes.now.nodes)
    c.new-fields.ensures) c.fields_of.ensures c.in_ok-push_word.ensures
    c.in_ok-append_shifted.ensures c.in_ok-last_field.ensures
