use Rattle.std.proofs.Common.{rules, ◌≡◌, ◌++◌, ap, ◌∙◌}
use Rattle.std.specs.List.{flat_map}
use Rattle.flow_system.specs.Inclusions.{cells_at}
use Rattle.flow_system.specs.Solution.{width}
use Rattle.flow_system.specs.Shown.{tables_of, source_of}
use Rattle.points_to.specs.Held.{as_nodes, elements, items}
use Rattle.points_to.specs.Known.{held}
use Rattle.points_to.specs.Asked.{cell_facts, flow_facts}
use Rattle.points_to.proofs.Sets.{on_ok}
use Rattle.points_to.proofs.ask.flow_to_cells.Goals as goal

pub returns : goal.returns
returns c =
    let p = tables_of c.args.system.now in
    let H = held c.args.facts.now in
    let s = source_of c.args.source.now in
    let w = c.args.w in
    let out = c.args.out.now in
    let X = c.items.new.out in
    let given : X ≡ items p H s = search rules in
    on_ok c.cells_asked.result
    (c.cells_asked.new.out ≡ out ++ flat_map (cell_facts (as_nodes p c.width.result X))
    (elements p H w)) (c.cells_asked.new.out ≡ out ++ flow_facts p H s (cells_at w))
    (λ e. e ∙ ap (λ n. out ++ flat_map (cell_facts (as_nodes p n X)) (elements p H w))
    c.width.ensures ∙ ap
    (λ Y. out ++ flat_map (cell_facts (as_nodes p (width s) Y)) (elements p H w)) given)
    c.cells_asked.ensures
