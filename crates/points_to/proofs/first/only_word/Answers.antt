use Rattle.std.proofs.Common.{◌≡◌, ◌++◌, sym, ap, ◌∙◌}
use Rattle.flow_system.specs.declared.fact.Part.TheVariants.{Word as word}
use Rattle.flow_system.specs.Shown.{tables_of}
use Rattle.points_to.specs.Held.{words_in_part, in_part, elements}
use Rattle.points_to.specs.Known.{held}
use Rattle.points_to.proofs.Direct.{picked_same}
use Rattle.points_to.proofs.Sets.{on_ok}
use Rattle.points_to.proofs.first.only_word.Goals as goal

pub returns : goal.returns
returns c =
    let words = elements (tables_of c.args.system.now) (held c.args.facts.now) c.args.w in
    on_ok c.words_of.result (c.words_of.new.out ≡ c.args.out.now ++ words)
    (c.words_of.new.out ≡ c.args.out.now ++ words_in_part (word 0) (in_part (word 0) words))
    (λ e. e ∙ ap (λ l. c.args.out.now ++ l) (sym (picked_same 0 words))) c.words_of.ensures
