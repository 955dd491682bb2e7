use Rattle.std.proofs.Common.{◌++◌, ℕ, List, sym, ap, ◌∙◌, subst}
use Rattle.std.specs.List.{flat_map}
use Rattle.flow_system.specs.declared.fact.Element.{Element}
use Rattle.flow_system.specs.Shown.{tables_of, inclusions_of}
use Rattle.points_to.specs.Bits.{block_numbers}
use Rattle.points_to.specs.Held.{In}
use Rattle.points_to.specs.Known.{held}
use Rattle.points_to.specs.Stored.{values_in}
use Rattle.points_to.specs.ValueWords.{words_of_values}
use Rattle.points_to.proofs.vectors.is_known.Goals as goal

pub returns : goal.returns
returns c =
    let of : List (ℕ × ℕ) → List Element = λ bs. words_of_values (tables_of c.args.system.now)
    (values_in (inclusions_of c.args.system.now)) (held c.args.facts.now) c.args.i
    (flat_map block_numbers bs) in
    let given = c.as_slice-values.result.now in
    let words = c.in_ok-words_of_values.ensures ∙ ap (λ l. l ++ of given) c.new-words.ensures ∙ ap
    of c.as_slice-values.ensures.value in
    λ t u h. subst (In u) c.word_blocks.ensures
    (c.are_within.ensures t u (subst (In u) (sym (c.blocks-2.ensures ∙ words)) h))
