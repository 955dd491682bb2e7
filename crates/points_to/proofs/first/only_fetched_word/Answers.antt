use Rattle.std.proofs.Common.{◌≡◌, ◌++◌, sym, ap, ◌∙◌}
use Rattle.std.specs.List.{flat_map}
use Rattle.flow_system.specs.declared.fact.Part.TheVariants.{Word as word}
use Rattle.flow_system.specs.Shown.{tables_of}
use Rattle.points_to.specs.Held.{words_in_part, in_part, elements, fetched_at}
use Rattle.points_to.specs.Known.{held}
use Rattle.points_to.proofs.Direct.{picked_same}
use Rattle.points_to.proofs.Sets.{on_ok}
use Rattle.points_to.proofs.first.only_fetched_word.Goals as goal

pub returns : goal.returns
returns c =
    let p = tables_of c.args.system.now in
    let H = held c.args.facts.now in
    let words = flat_map (fetched_at p H c.args.i) (elements p H c.args.w) in
    on_ok c.fetched_words.result (c.fetched_words.new.out ≡ c.args.out.now ++ words)
    (c.fetched_words.new.out ≡ c.args.out.now ++ words_in_part (word 0)
    (in_part (word 0) words))
    (λ e. e ∙ ap (λ l. c.args.out.now ++ l) (sym (picked_same 0 words))) c.fetched_words.ensures
