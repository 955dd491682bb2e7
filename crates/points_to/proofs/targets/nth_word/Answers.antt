use Rattle.std.proofs.Common.{◌≡◌, ◌++◌, length, sym, ap, refl, ◌∙◌}
use Rattle.std.proofs.lemmas.Option.{slice_get_read, slice_get_past}
use Rattle.flow_system.specs.Shown.{tables_of}
use Rattle.flow_system.specs.declared.fact.Part.TheVariants.{Word}
use Rattle.points_to.specs.Held.{as_word, elements, numbered}
use Rattle.points_to.specs.Known.{held}
use Rattle.points_to.proofs.Direct.{elements_if, word_of_vector}
use Rattle.points_to.proofs.Done.{appends_none}
use Rattle.points_to.proofs.Sets.{on_ok}
use Rattle.points_to.proofs.targets.nth_word.Goals as goal

pub returns-in-Some : goal.returns-in-Some
returns-in-Some c =
    let p = tables_of c.args.system.now in
    let H = held c.args.facts.now in
    let ws = c.args.words.now in
    let out = c.args.out.now in
    let w = c.in-Some.word.now in
    on_ok c.words_of.result (c.words_of.new.out ≡ out ++ elements p H w)
    (c.words_of.new.out ≡ out ++ as_word p c.args.j (numbered p H Word 0 ws))
    (λ e. e ∙ ap (λ l. out ++ l)
    (sym (word_of_vector p H c.args.j ws ∙ ap (elements_if p H)
    (slice_get_read ws (length ws) c.args.j w refl c.in-Some.ensures.lookup.3.0
    c.in-Some.ensures.lookup.1)))) c.words_of.ensures

pub returns-in-None : goal.returns-in-None
returns-in-None c =
    let p = tables_of c.args.system.now in
    let H = held c.args.facts.now in
    let ws = c.args.words.now in
    appends_none c.args.out.now (as_word p c.args.j (numbered p H Word 0 ws))
    (word_of_vector p H c.args.j ws ∙ ap (elements_if p H)
    (slice_get_past ws c.args.j c.in-None.ensures.lookup.3))
