use Rattle.std.proofs.Common.{rules, ◌≡◌, ◌++◌, sym, ap, ◌∙◌}
use Rattle.std.specs.List.{flat_map}
use Rattle.flow_system.specs.declared.fact.Part.TheVariants.{Word as word}
use Rattle.flow_system.specs.Shown.{tables_of}
use Rattle.points_to.specs.Held.{words_in_part, elements, cell_items}
use Rattle.points_to.specs.Known.{held}
use Rattle.points_to.proofs.Direct.{picked_cells}
use Rattle.points_to.proofs.Sets.{on_ok}
use Rattle.points_to.proofs.first.first_at_cells.Goals as goal

pub returns : goal.returns
returns c =
    let p = tables_of c.args.system.now in
    let H = held c.args.facts.now in
    let cells = c.as_slice.result.now in
    let found : cells ≡ elements p H c.args.w = search rules in
    on_ok c.first_words_at_cells.result
    (c.first_words_at_cells.new.out ≡ c.args.out.now
    ++ flat_map (λ w. words_in_part (word 0) (cell_items H w)) cells)
    (c.first_words_at_cells.new.out ≡ c.args.out.now
    ++ words_in_part (word 0) (flat_map (cell_items H) (elements p H c.args.w)))
    (λ e. e ∙ ap (λ l. c.args.out.now ++ l) (sym (picked_cells H cells)) ∙ ap
    (λ l. c.args.out.now ++ words_in_part (word 0) (flat_map (cell_items H) l)) found)
    c.first_words_at_cells.ensures
