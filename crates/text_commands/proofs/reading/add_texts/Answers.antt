use Rattle.std.proofs.Common.{◌∷◌, [], ◌++◌, List, ℕ, map, string_bytes, take, rules, arith, subst}
use Rattle.std.proofs.lemmas.Grind.{common_steps}
use Rattle.text_commands.specs.Over.{shelf_over}
use Rattle.text_commands.specs.Reading.{IsUnread, AddsFronts}
use Rattle.text_commands.proofs.InTurn.{adds_one, unread_later, stay_later, names_more, of_name}
use Rattle.text_commands.proofs.reading.add_texts.Goals as goal

pub read_file-requires : goal.read_file-requires
read_file-requires g c =
    of_name g.F.Shelf.permitted string_bytes c.args.names.now c.loop-name.name-index
    c.name-item.result c.as_str.result.now c.requires c.loop-name-test.true c.name-item.is
    c.as_str.ensures.value

pub returns-in_err-text-clause-unread : goal.returns-in_err-text-clause-unread
returns-in_err-text-clause-unread g c =
    let unread : IsUnread
    (shelf_over g.F.Shelf c.args.shelf.now c.read_file.new.shelf)
    c.in_err-text.field-0.0 =
    unread_later g.F.Shelf.content g.F.Shelf.faults c.args.shelf.now c.loop-name.shelf
    c.read_file.new.shelf c.args.most
    (map string_bytes (take c.loop-name.name-index c.args.names.now)) c.args.texts.now
    c.loop-name.texts c.in_err-text.field-0.0
    c.loop-name.invariant.added c.loop-name.invariant.later c.in_err-text.ensures.unread in
    search (rules, unread)

pub returns-then-is_err-clause-unread : goal.returns-then-is_err-clause-unread
returns-then-is_err-clause-unread g c =
    stay_later g.F.Shelf.content g.F.Shelf.faults c.args.shelf.now c.loop-name.shelf
    c.read_file.new.shelf c.args.most
    (map string_bytes (take c.loop-name.name-index c.args.names.now)) c.args.texts.now
    c.loop-name.texts c.as_str.result.now c.in_ok-text.text.items
    c.loop-name.invariant.added c.in_ok-text.ensures.read

pub loop-name-preserved : goal.loop-name-preserved
loop-name-preserved g c =
    let names = map string_bytes (take c.loop-name.name-index c.args.names.now) in
    let added : AddsFronts (g.F.Shelf.content c.args.shelf.now)
    (g.F.Shelf.content c.read_file.new.shelf) c.args.most (names ++ c.as_str.result.now ∷ [])
    c.args.texts.now c.add.new.self =
    adds_one g.F.Shelf.content g.F.Shelf.faults (g.F.Shelf.content c.args.shelf.now)
    c.loop-name.shelf c.read_file.new.shelf c.args.most names c.as_str.result.now
    c.in_ok-text.text.items
    c.args.texts.now c.loop-name.texts c.add.new.self c.loop-name.invariant.added
    c.in_ok-text.ensures.read (grind (arith, common_steps)) in
    record {
      added = subst
          (λ (l : List (List ℕ)). AddsFronts (g.F.Shelf.content c.args.shelf.now)
          (g.F.Shelf.content c.read_file.new.shelf) c.args.most l c.args.texts.now c.add.new.self)
          (names_more string_bytes c.args.names.now c.loop-name.name-index c.name-item.result
          c.as_str.result.now c.loop-name-test.true c.name-item.is c.as_str.ensures.value)
          added;
      later = omega (arith, c.loop-name.invariant.later, c.read_file.ensures.later);
    }
