use Rattle.std.proofs.Common.{ℕ, List, ◌++◌, ◌∷◌, [], sym, ap, ◌∙◌}
use Rattle.core_reader.specs.declared.syntax.Binder.{Binder}
use Rattle.match_compile.specs.Translated.{Words, otherwise, call}
use Rattle.match_compile.specs.EmissionOf.{alternatives, number_of}
use Rattle.match_compile.proofs.Emitted.{applied}
use Rattle.match_compile.proofs.emission.Writer.call.Goals as goal

pub returns-in_ok-push-in-Some : goal.returns-in_ok-push-in-Some
returns-in_ok-push-in-Some c =
    let w : Words = c.args.self.now.words.now in
    let at : ℕ = c.args.self.now.at in
    let bs : List Binder = c.args.onward.now.arguments.now in
    ap alternatives
    (c.in_ok-push-in-Some.ensures.ok ∙ ap (λ m. m ++ c.otherwise.result ∷ [])
    c.new-made.ensures)
    ∙ c.otherwise.ensures
    ∙ ap (otherwise w at 0)
    (applied w at c.in-Some.name c.in_ok-args-in-Some.args bs c.in_ok-args-in-Some.ensures)
    ∙ sym (ap (λ o. call w at (number_of o) bs) c.in-Some.is)
