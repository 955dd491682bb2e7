use Rattle.std.proofs.Common.{rules, ◌≡◌, ◌∙◌, [], map, ap, subst}
use Rattle.points_to.specs.Bits.{word_of}
use Rattle.points_to.specs.PartWords.{place_part}
use Rattle.points_to.specs.Rows.{words_in, GainsMembers}
use Rattle.points_to.specs.Stored.{tables_in}
use Rattle.points_to.proofs.Gets.{gets_from_none}
use Rattle.points_to.proofs.PartWords.{place_same}
use Rattle.points_to.proofs.Read.{words_of}
use Rattle.points_to.proofs.parts.words_in.Goals as goal

pub returns : goal.returns
returns c =
    let a = c.args in
    let us = words_in c.put_into.new.set in
    let ws = place_part (tables_in a.origin.now) a.origin.now.values a.facts.now a.stored.now
    a.place a.part in
    let put : c.put_part.new.out ≡ ws = search rules in
    let none : words_in c.new-set.result ≡ [] = words_of c.new-set.result ∙ ap (map word_of)
    c.new-set.ensures in
    let all : GainsMembers [] us ws = subst (λ l. GainsMembers l us ws) none
    (subst (GainsMembers (words_in c.new-set.result) us) put c.in_ok-put_into.ensures) in
    place_same (tables_in a.origin.now) a.origin.now.values a.facts.now a.stored.now a.part a.place
    us (gets_from_none us ws all)
