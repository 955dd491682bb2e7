use Rattle.std.proofs.Common.{map, string_bytes, rules}
use Rattle.text_commands.specs.Over.{shelf_over}
use Rattle.text_commands.specs.Reading.{IsUnread}
use Rattle.text_commands.proofs.InTurn.{of_front, of_others, unread_later, both_read}
use Rattle.text_commands.proofs.reading.read_files.Goals as goal

pub add_texts-requires : goal.add_texts-requires
add_texts-requires g c = of_front g.F.Shelf.permitted (map string_bytes c.args.files.now.plain.now)
    (map string_bytes c.args.files.now.rest.now) c.requires

pub add_texts-requires-2 : goal.add_texts-requires-2
add_texts-requires-2 g c = of_others g.F.Shelf.permitted
    (map string_bytes c.args.files.now.plain.now) (map string_bytes c.args.files.now.rest.now)
    c.requires

pub returns-in_err-add_texts-2-clause-unread : goal.returns-in_err-add_texts-2-clause-unread
returns-in_err-add_texts-2-clause-unread g c =
    let unread : IsUnread
    (shelf_over g.F.Shelf c.args.shelf.now c.add_texts-2.new.shelf)
    c.in_err-add_texts-2.field-0.0 =
    unread_later g.F.Shelf.content g.F.Shelf.faults c.args.shelf.now c.add_texts.new.shelf
    c.add_texts-2.new.shelf c.args.most
    (map string_bytes c.args.files.now.plain.now) _ c.add_texts.new.texts
    c.in_err-add_texts-2.field-0.0
    c.in_ok-add_texts.ensures.read c.add_texts.ensures.later c.in_err-add_texts-2.ensures.unread in
    search (rules, unread)

pub returns-clause-read : goal.returns-clause-read
returns-clause-read g c =
    both_read (g.F.Shelf.content c.args.shelf.now) (g.F.Shelf.content c.add_texts.new.shelf)
    (g.F.Shelf.content c.add_texts-2.new.shelf) c.args.most
    (map string_bytes c.args.files.now.plain.now) (map string_bytes c.args.files.now.rest.now) _
    c.add_texts.new.texts c.add_texts-2.new.texts
    c.in_ok-add_texts.ensures.read c.in_ok-add_texts-2.ensures.read c.new-texts.ensures
