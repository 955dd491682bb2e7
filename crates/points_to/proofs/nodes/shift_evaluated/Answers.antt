use Rattle.std.proofs.Common.{◌≡◌, ◌++◌, cond, [], refl, sym, ap, ◌∙◌}
use Rattle.std.specs.List.{flat_map}
use Rattle.flow_system.specs.Shown.{tables_of}
use Rattle.flow_system.specs.declared.fact.Part.TheVariants.{Field as field, Word as word}
use Rattle.points_to.specs.declared.nodes.Shift.TheVariants.{Evaluated}
use Rattle.points_to.specs.Bits.{block_words}
use Rattle.points_to.specs.Held.{in_part, is_done, done_tag, done_items}
use Rattle.points_to.specs.Runs.{items_of_item_run}
use Rattle.points_to.proofs.Done.{appends_none}
use Rattle.points_to.proofs.OnePart.{done_tags, shift_gone, shift_moved}
use Rattle.points_to.proofs.Sets.{on_ok}
use Rattle.points_to.proofs.nodes.shift_evaluated.Goals as goal

pub returns-in-Tags : goal.returns-in-Tags
returns-in-Tags c =
    let p = tables_of c.args.system.now in
    let ws = block_words c.args.run.block in
    on_ok c.push_done_tags.result
    (c.push_done_tags.new.out ≡ c.args.out.now ++ flat_map (done_tag p) ws)
    (c.push_done_tags.new.out ≡ c.args.out.now ++ done_items p (items_of_item_run c.args.run))
    (λ e. e ∙ ap (λ l. c.args.out.now ++ l)
    (sym (ap (λ q. done_items p (in_part q ws)) c.in-Tags.is ∙ done_tags p ws)))
    c.push_done_tags.ensures

pub returns-in-Field : goal.returns-in-Field
returns-in-Field c =
    let p = tables_of c.args.system.now in
    let ws = block_words c.args.run.block in
    let t = c.in-Field.t in
    on_ok c.push_if.result
    (c.push_if.new.out ≡ c.args.out.now ++ cond c.is_done.result (items_of_item_run c.args.run)
    []) (c.push_if.new.out ≡ c.args.out.now ++ done_items p (items_of_item_run c.args.run))
    (λ e. e ∙ ap (λ b. c.args.out.now ++ cond b (items_of_item_run c.args.run) []) c.is_done.ensures
    ∙ ap (λ q. c.args.out.now ++ cond (is_done p t) (in_part q ws) []) c.in-Field.is
    ∙ ap (λ l. c.args.out.now ++ l)
    (sym (shift_moved p Evaluated Evaluated c.args.run.part (field t c.in-Field.field-1) ws refl
    c.in-Field.is (field t c.in-Field.field-1) (is_done p t) (λ u. refl)))) c.push_if.ensures

pub returns-in-Word : goal.returns-in-Word
returns-in-Word c =
    let p = tables_of c.args.system.now in
    let ws = block_words c.args.run.block in
    appends_none c.args.out.now (done_items p (items_of_item_run c.args.run))
    (shift_gone p Evaluated Evaluated c.args.run.part (word c.in-Word.field-0) ws refl
    c.in-Word.is (λ u. refl))
