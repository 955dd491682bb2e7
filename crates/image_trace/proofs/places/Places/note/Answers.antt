use Rattle.std.proofs.Common.{sym, ◌∙◌}
use Rattle.image_trace.proofs.Counted.{other_noted}
use Rattle.image_trace.proofs.places.Places.note.Goals as goal

pub returns-clause-noted : goal.returns-clause-noted
returns-clause-noted c =
    other_noted c.args.self.now.words.items c.args.self.now.others.items c.push.new.self.items
    c.args.at (sym c.is_word.ensures ∙ c.if-is_word.false) c.in_ok-push.ensures.items
