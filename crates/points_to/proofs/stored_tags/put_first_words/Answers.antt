use Rattle.std.proofs.Common.{sym, ap, ◌∙◌}
use Rattle.std.specs.Option.{option_copied}
use Rattle.flow_system.specs.Shown.{tables_of, inclusions_of}
use Rattle.points_to.specs.Known.{held}
use Rattle.points_to.specs.Rows.{words_in, GainsMembers}
use Rattle.points_to.specs.Stored.{values_in, value_at}
use Rattle.points_to.specs.ValueWords.{stored_words}
use Rattle.points_to.proofs.Gets.{gets_same}
use Rattle.points_to.proofs.Sets.{on_ok}
use Rattle.points_to.proofs.stored_tags.put_first_words.Goals as goal

pub returns-in-Some : goal.returns-in-Some
returns-in-Some c =
    let old = words_in c.args.set.now in
    let new = words_in c.put_set.new.set in
    let asked = stored_words (tables_of c.args.system.now) (held c.args.facts.now) 0
    (value_at (values_in (inclusions_of c.args.system.now)) c.args.n) in
    let words = c.in-Some.words.now in
    on_ok c.put_set.result (GainsMembers old new (words_in words)) (GainsMembers old new asked)
    (gets_same old new (words_in words) asked
    (c.requires c.args.n words (sym c.at.ensures ∙ ap option_copied c.in-Some.is)))
    c.put_set.ensures
