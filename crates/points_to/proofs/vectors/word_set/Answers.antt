use Rattle.std.proofs.Common.{◌≡◌, ℕ, [], ◌++◌, List, map, ap, ◌∙◌, subst}
use Rattle.std.specs.List.{flat_map}
use Rattle.flow_system.specs.declared.fact.Element.{Element}
use Rattle.flow_system.specs.Shown.{tables_of, inclusions_of}
use Rattle.points_to.specs.Bits.{word_of, block_numbers}
use Rattle.points_to.specs.Known.{held}
use Rattle.points_to.specs.Rows.{words_in, GainsMembers}
use Rattle.points_to.specs.Stored.{values_in}
use Rattle.points_to.specs.ValueWords.{words_of_values}
use Rattle.points_to.proofs.Gets.{gets_from_none}
use Rattle.points_to.proofs.Rows.{words_are}
use Rattle.points_to.proofs.vectors.word_set.Goals as goal

pub returns : goal.returns
returns c =
    let set = c.put_into.new.set in
    let of : List (ℕ × ℕ) → List Element = λ bs. words_of_values (tables_of c.args.system.now)
    (values_in (inclusions_of c.args.system.now)) (held c.args.facts.now) c.args.i
    (flat_map block_numbers bs) in
    let given = c.as_slice-values.result.now in
    let asked = of c.args.numbers.now.blocks.items in
    let words : c.words_of_values.new.out ≡ asked = c.in_ok-words_of_values.ensures ∙ ap
    (λ l. l ++ of given) c.new-words.ensures ∙ ap of c.as_slice-values.ensures.value in
    let none : words_in c.new-found.result ≡ [] = words_are c.new-found.result.blocks.items ∙ ap
    (map word_of) c.new-found.ensures in
    gets_from_none (words_in set) asked
    (subst (λ l. GainsMembers l (words_in set) asked) none
    (subst (GainsMembers (words_in c.new-found.result) (words_in set)) words
    c.in_ok-put_into.ensures))
