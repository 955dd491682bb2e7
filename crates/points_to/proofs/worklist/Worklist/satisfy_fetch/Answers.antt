use Rattle.std.proofs.Common.{◌++◌, ap, ◌∙◌, subst}
use Rattle.std.specs.List.{flat_map}
use Rattle.flow_system.specs.Shown.{tables_of}
use Rattle.flow_system.specs.declared.fact.Place.TheVariants.{Var}
use Rattle.flow_system.specs.declared.fact.Part.TheVariants.{Word}
use Rattle.points_to.specs.Asked.{facts_at}
use Rattle.points_to.specs.Bits.{block_words}
use Rattle.points_to.specs.Held.{in_part, elements, fetched_at}
use Rattle.points_to.specs.Known.{held}
use Rattle.points_to.specs.Rows.{GainsMembers}
use Rattle.points_to.proofs.Registered.{satisfies_fetch}
use Rattle.points_to.proofs.worklist.Worklist.satisfy_fetch.Goals as goal

pub returns : goal.returns
returns c =
    let p = tables_of c.args.system.now in
    let now = c.register_word.new.self in
    let between = c.fetch_cells.new.self in
    let cells = c.as_slice.result.now in
    let fetched = c.fetch_cells.new.words in
    let blocks = c.blocks-2.result.now in
    let given = elements p (held now.facts) c.args.w in
    let a = c.in_ok-add_all.ensures in
    satisfies_fetch p c.args.w c.args.i c.args.x c.args.n c.args.self.now now between
    c.add_all.new.self cells fetched c.blocks_at_variable.new.out c.in_ok-add_all.field-0
    c.in_ok-register_word.ensures
    (c.as_slice.ensures ∙ c.in_ok-elements.ensures ∙ ap (λ l. l ++ given) c.new-cells.ensures)
    c.in_ok-fetch_cells.ensures.registers
    (subst (λ l. GainsMembers l fetched
    (flat_map (fetched_at p (held now.facts) c.args.i) cells)) c.new-fetched.ensures
    c.in_ok-fetch_cells.ensures.gets)
    (c.in_ok-blocks_at_variable.ensures ∙ ap
    (λ l. l ++ facts_at (Var c.args.x.0) (in_part (Word 0) (flat_map block_words blocks)))
    c.new-asked.ensures ∙ ap (λ l. facts_at (Var c.args.x.0) (in_part (Word 0) l))
    c.blocks-2.ensures) a.grown
    a.spread a.still a.counted
