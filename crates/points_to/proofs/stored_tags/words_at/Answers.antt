use Rattle.std.proofs.Common.{◌≡◌, [], ◌++◌, ℕ, List, map, ap, ◌∙◌, subst}
use Rattle.std.specs.List.{flat_map}
use Rattle.flow_system.specs.declared.fact.Element.{Element}
use Rattle.flow_system.specs.declared.fact.Part.TheVariants.{Tags as tags}
use Rattle.flow_system.specs.declared.fact.Place.TheVariants.{Site as site}
use Rattle.flow_system.specs.Shown.{tables_of, inclusions_of}
use Rattle.points_to.specs.Bits.{block_numbers, word_of}
use Rattle.points_to.specs.Held.{words_in_part}
use Rattle.points_to.specs.Known.{held}
use Rattle.points_to.specs.Rows.{words_in, GainsMembers}
use Rattle.points_to.specs.Stored.{values_in, stored_at}
use Rattle.points_to.specs.ValueWords.{words_of_values}
use Rattle.points_to.proofs.Gets.{gets_from_none, gets_more}
use Rattle.points_to.proofs.Rows.{words_are}
use Rattle.points_to.proofs.stored_tags.words_at.Goals as goal

pub returns : goal.returns
returns c =
    let H = held c.args.facts.now in
    let of : List ℕ → List Element = words_of_values (tables_of c.args.system.now)
    (values_in (inclusions_of c.args.system.now)) H 0 in
    let own = words_in_part tags (H (site c.args.s)) in
    let ns = stored_at c.args.stored.now c.args.s in
    let begun = c.put_words.new.set in
    let set = c.put_all_first_words.new.set in
    let numbers : c.list_numbers.new.out ≡ ns = c.in_ok-list_numbers.ensures ∙ ap
    (λ l. l ++ flat_map block_numbers c.at.result.now) c.new-numbers.ensures ∙ c.at.ensures in
    let none : words_in c.new-set.result ≡ [] = words_are c.new-set.result.blocks.items ∙ ap
    (map word_of) c.new-set.ensures in
    let first : GainsMembers [] (words_in begun) own =
    subst (λ l. GainsMembers l (words_in begun) own) none
    (subst (GainsMembers (words_in c.new-set.result) (words_in begun)) c.blocks-2.ensures
    c.in_ok-put_words.ensures) in
    let more : GainsMembers (words_in begun) (words_in set) (of ns) =
    subst (λ l. GainsMembers (words_in begun) (words_in set) (of l)) (c.as_slice.ensures ∙ numbers)
    c.in_ok-put_all_first_words.ensures in
    gets_from_none (words_in set) (own ++ of ns)
    (gets_more [] (words_in begun) (words_in set) own (of ns) first more)
