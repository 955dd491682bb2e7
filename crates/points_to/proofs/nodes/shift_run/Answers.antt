use Rattle.std.proofs.Common.{◌≡◌, ◌++◌, true, nat_eq, cond, [], refl, sym, ap, ◌∙◌}
use Rattle.std.specs.List.{flat_map}
use Rattle.flow_system.specs.Shown.{tables_of}
use Rattle.flow_system.specs.declared.fact.Part.TheVariants.{Tags as tags, Field as field, Word as word}
use Rattle.points_to.specs.declared.nodes.Shift.TheVariants.{Nodes, Fields, Renamed, Arguments}
use Rattle.points_to.specs.Bits.{block_words}
use Rattle.points_to.specs.Held.{in_part, shifted_word}
use Rattle.points_to.specs.Runs.{items_of_item_run}
use Rattle.points_to.specs.Shift.{shifted_items}
use Rattle.points_to.proofs.Done.{appends_none}
use Rattle.points_to.proofs.OnePart.{shift_gone, shift_moved, shift_field}
use Rattle.points_to.proofs.Sets.{on_ok}
use Rattle.points_to.proofs.nodes.shift_run.Goals as goal

pub returns-in-Tags : goal.returns-in-Tags
returns-in-Tags c =
    let p = tables_of c.args.system.now in
    let ws = block_words c.args.run.block in
    on_ok c.push_if.result
    (c.push_if.new.out ≡ c.args.out.now ++ cond (true) (items_of_item_run c.args.run) [])
    (c.push_if.new.out ≡ c.args.out.now ++ flat_map (shifted_items p c.args.by)
    (items_of_item_run c.args.run))
    (λ e. e ∙ ap (λ l. c.args.out.now ++ l)
    (ap (λ q. in_part q ws) c.in-Tags.is ∙ sym
    (shift_moved p c.args.by Nodes c.args.run.part tags ws c.in-Nodes.is c.in-Tags.is tags
    (true) (λ u. refl)))) c.push_if.ensures

pub returns-in-Field : goal.returns-in-Field
returns-in-Field c =
    let p = tables_of c.args.system.now in
    let ws = block_words c.args.run.block in
    on_ok c.push_if-in-Field.result
    (c.push_if-in-Field.new.out ≡ c.args.out.now
    ++ cond (true) (items_of_item_run c.args.run) [])
    (c.push_if-in-Field.new.out ≡ c.args.out.now
    ++ flat_map (shifted_items p c.args.by) (items_of_item_run c.args.run))
    (λ e. e ∙ ap (λ l. c.args.out.now ++ l)
    (ap (λ q. in_part q ws) c.in-Field.is ∙ sym
    (shift_moved p c.args.by Nodes c.args.run.part (field c.in-Field.field-0 c.in-Field.field-1)
    ws c.in-Nodes.is c.in-Field.is (field c.in-Field.field-0 c.in-Field.field-1) (true)
    (λ u. refl)))) c.push_if-in-Field.ensures

pub returns-in-Word : goal.returns-in-Word
returns-in-Word c =
    let p = tables_of c.args.system.now in
    let ws = block_words c.args.run.block in
    appends_none c.args.out.now
    (flat_map (shifted_items p c.args.by) (items_of_item_run c.args.run))
    (shift_gone p c.args.by Nodes c.args.run.part (word c.in-Word.field-0) ws c.in-Nodes.is
    c.in-Word.is (λ u. refl))

pub returns-in-Tags-part : goal.returns-in-Tags-part
returns-in-Tags-part c =
    let p = tables_of c.args.system.now in
    let ws = block_words c.args.run.block in
    appends_none c.args.out.now
    (flat_map (shifted_items p c.args.by) (items_of_item_run c.args.run))
    (shift_gone p c.args.by (Fields c.in-Fields.t c.in-Fields.m) c.args.run.part tags ws
    c.in-Fields.is c.in-Tags-part.is (λ u. refl))

pub returns-in-Field-part : goal.returns-in-Field-part
returns-in-Field-part c =
    let p = tables_of c.args.system.now in
    let ws = block_words c.args.run.block in
    appends_none c.args.out.now
    (flat_map (shifted_items p c.args.by) (items_of_item_run c.args.run))
    (shift_gone p c.args.by (Fields c.in-Fields.t c.in-Fields.m) c.args.run.part
    (field c.in-Field-part.field-0 c.in-Field-part.field-1) ws c.in-Fields.is c.in-Field-part.is
    (λ u. refl))

pub returns-in-Word-part : goal.returns-in-Word-part
returns-in-Word-part c =
    let p = tables_of c.args.system.now in
    let ws = block_words c.args.run.block in
    let t = c.in-Fields.t in
    let m = c.in-Fields.m in
    let j = c.in-Word-part.j in
    on_ok c.field_of_words.result
    (c.field_of_words.new.out ≡ c.args.out.now ++ flat_map (shifted_word t m j) ws)
    (c.field_of_words.new.out ≡ c.args.out.now ++ flat_map (shifted_items p c.args.by)
    (items_of_item_run c.args.run))
    (λ e. e ∙ ap (λ l. c.args.out.now ++ l)
    (sym (shift_field p c.args.by (Fields t m) c.args.run.part (word j) ws c.in-Fields.is
    c.in-Word-part.is t m j refl refl))) c.field_of_words.ensures

pub returns-in-Tags-part-2 : goal.returns-in-Tags-part-2
returns-in-Tags-part-2 c =
    let p = tables_of c.args.system.now in
    let ws = block_words c.args.run.block in
    appends_none c.args.out.now
    (flat_map (shifted_items p c.args.by) (items_of_item_run c.args.run))
    (shift_gone p c.args.by (Renamed c.in-Renamed.t c.in-Renamed.u) c.args.run.part tags ws
    c.in-Renamed.is c.in-Tags-part-2.is (λ u. refl))

pub returns-in-Field-part-2 : goal.returns-in-Field-part-2
returns-in-Field-part-2 c =
    let p = tables_of c.args.system.now in
    let ws = block_words c.args.run.block in
    on_ok c.push_if-in-Field-part-2.result
    (c.push_if-in-Field-part-2.new.out ≡ c.args.out.now
    ++ cond (nat_eq c.in-Field-part-2.v c.in-Renamed.t)
    (in_part (field c.in-Renamed.u c.in-Field-part-2.j) ws) [])
    (c.push_if-in-Field-part-2.new.out ≡ c.args.out.now
    ++ flat_map (shifted_items p c.args.by) (items_of_item_run c.args.run))
    (λ e. e ∙ ap (λ l. c.args.out.now ++ l)
    (sym (shift_moved p c.args.by (Renamed c.in-Renamed.t c.in-Renamed.u) c.args.run.part
    (field c.in-Field-part-2.v c.in-Field-part-2.j) ws c.in-Renamed.is c.in-Field-part-2.is
    (field c.in-Renamed.u c.in-Field-part-2.j) (nat_eq c.in-Field-part-2.v c.in-Renamed.t)
    (λ u. refl)))) c.push_if-in-Field-part-2.ensures

pub returns-in-Word-part-2 : goal.returns-in-Word-part-2
returns-in-Word-part-2 c =
    let p = tables_of c.args.system.now in
    let ws = block_words c.args.run.block in
    appends_none c.args.out.now
    (flat_map (shifted_items p c.args.by) (items_of_item_run c.args.run))
    (shift_gone p c.args.by (Renamed c.in-Renamed.t c.in-Renamed.u) c.args.run.part
    (word c.in-Word-part-2.field-0) ws c.in-Renamed.is c.in-Word-part-2.is (λ u. refl))

pub returns-in-Tags-part-3 : goal.returns-in-Tags-part-3
returns-in-Tags-part-3 c =
    let p = tables_of c.args.system.now in
    let ws = block_words c.args.run.block in
    appends_none c.args.out.now
    (flat_map (shifted_items p c.args.by) (items_of_item_run c.args.run))
    (shift_gone p c.args.by (Arguments c.in-Arguments.t) c.args.run.part tags ws
    c.in-Arguments.is c.in-Tags-part-3.is (λ u. refl))

pub returns-in-Field-part-3 : goal.returns-in-Field-part-3
returns-in-Field-part-3 c =
    let p = tables_of c.args.system.now in
    let ws = block_words c.args.run.block in
    on_ok c.push_if-in-Field-part-3.result
    (c.push_if-in-Field-part-3.new.out ≡ c.args.out.now
    ++ cond (nat_eq c.in-Field-part-3.v c.in-Arguments.t)
    (in_part (word c.in-Field-part-3.j) ws) [])
    (c.push_if-in-Field-part-3.new.out ≡ c.args.out.now
    ++ flat_map (shifted_items p c.args.by) (items_of_item_run c.args.run))
    (λ e. e ∙ ap (λ l. c.args.out.now ++ l)
    (sym (shift_moved p c.args.by (Arguments c.in-Arguments.t) c.args.run.part
    (field c.in-Field-part-3.v c.in-Field-part-3.j) ws c.in-Arguments.is c.in-Field-part-3.is
    (word c.in-Field-part-3.j) (nat_eq c.in-Field-part-3.v c.in-Arguments.t) (λ u. refl))))
    c.push_if-in-Field-part-3.ensures

pub returns-in-Word-part-3 : goal.returns-in-Word-part-3
returns-in-Word-part-3 c =
    let p = tables_of c.args.system.now in
    let ws = block_words c.args.run.block in
    appends_none c.args.out.now
    (flat_map (shifted_items p c.args.by) (items_of_item_run c.args.run))
    (shift_gone p c.args.by (Arguments c.in-Arguments.t) c.args.run.part
    (word c.in-Word-part-3.field-0) ws c.in-Arguments.is c.in-Word-part-3.is (λ u. refl))
