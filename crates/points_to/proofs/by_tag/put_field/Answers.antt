use Rattle.std.proofs.Common.{◌≡◌, ℕ, [], ◌++◌, cond, nat_eq, refl, sym, ap, ◌∙◌}
use Rattle.flow_system.specs.declared.fact.Part.TheVariants.{Tags as tags, Word as word}
use Rattle.points_to.specs.Bits.{block_words}
use Rattle.points_to.specs.ByTag.{field_items, items_of}
use Rattle.points_to.specs.Runs.{items_of_item_run}
use Rattle.points_to.proofs.Done.{appends_none}
use Rattle.points_to.proofs.Sets.{on_ok}
use Rattle.points_to.proofs.TablesOfRuns.{fields_gone, fields_kept}
use Rattle.points_to.proofs.by_tag.put_field.Goals as goal

pub returns-in-Tags : goal.returns-in-Tags
returns-in-Tags c = λ u. appends_none (items_of c.args.fields.now u)
    (field_items u (items_of_item_run c.args.run))
    (fields_gone c.args.run.part tags u (block_words c.args.run.block) c.in-Tags.is (λ v. refl))

pub returns-in-Field : goal.returns-in-Field
returns-in-Field c =
    let t = c.in-Field.t in
    let run = c.args.run in
    let old = c.args.fields.now in
    let new = c.put_at.new.fields in
    on_ok c.put_at.result
    ((u : ℕ) → items_of new u ≡ items_of old u ++ cond (nat_eq t u) (items_of_item_run run) [])
    ((u : ℕ) → items_of new u ≡ items_of old u ++ field_items u (items_of_item_run run))
    (λ e u. e u ∙ ap (λ l. items_of old u ++ l)
    (sym (fields_kept run.part t c.in-Field.field-1 u (block_words run.block) c.in-Field.is)))
    c.put_at.ensures

pub returns-in-Word : goal.returns-in-Word
returns-in-Word c = λ u. appends_none (items_of c.args.fields.now u)
    (field_items u (items_of_item_run c.args.run))
    (fields_gone c.args.run.part (word c.in-Word.field-0) u (block_words c.args.run.block)
    c.in-Word.is (λ v. refl))
