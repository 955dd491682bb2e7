use Rattle.std.proofs.Common.{rules, ◌≡◌, [], map, ap, ◌∙◌, subst}
use Rattle.flow_system.specs.Shown.{tables_of, inclusions_of}
use Rattle.points_to.specs.Bits.{word_of}
use Rattle.points_to.specs.Known.{held}
use Rattle.points_to.specs.Rows.{words_in, GainsMembers}
use Rattle.points_to.specs.Stored.{values_in, value_at}
use Rattle.points_to.specs.ValueWords.{stored_words}
use Rattle.points_to.proofs.Gets.{gets_from_none}
use Rattle.points_to.proofs.Rows.{words_are}
use Rattle.points_to.proofs.stored_tags.first_words.Goals as goal

pub returns : goal.returns
returns c =
    let set = c.put_into.new.set in
    let asked = stored_words (tables_of c.args.system.now) (held c.args.facts.now) 0
    (value_at (values_in (inclusions_of c.args.system.now)) c.args.n) in
    let words : c.stored_word.new.out ≡ asked = search rules in
    let none : words_in c.new-set.result ≡ [] = words_are c.new-set.result.blocks.items ∙ ap
    (map word_of) c.new-set.ensures in
    gets_from_none (words_in set) asked
    (subst (λ l. GainsMembers l (words_in set) asked) none
    (subst (GainsMembers (words_in c.new-set.result) (words_in set)) words
    c.in_ok-put_into.ensures))
