use Rattle.std.proofs.Common.{◌≡◌, [], sym, ap, ◌∙◌}
use Rattle.core_reader.specs.declared.syntax.App.{App}
use Rattle.core_reader.specs.Tree.{Bracket, Application, term as term_of}
use Rattle.core_reader.proofs.TreeOf.{application_of, term_of-Bracket}
use Rattle.core_types.specs.Bare.{bare}
use Rattle.core_types.proofs.Heads.{bare_bracket}
use Rattle.arity_check.proofs.Flats.{some_members}
use Rattle.core_types.proofs.building.+bare.Goals as goal

pub returns-else-is_empty : goal.returns-else-is_empty
returns-else-is_empty t c =
    let app : App = c.in-Bracket.app.value in
    let at = c.in-Bracket.field-1 in
    let some : app.args ≡ [] → ⊥ = λ e. some_members c.deref.result.now.args c.is_empty.result
    c.is_empty.ensures c.if-is_empty.false (ap (λ (a : App). a.args) c.deref.ensures ∙ e) in
    let is = ap term_of c.in-Bracket.is ∙ term_of-Bracket c.in-Bracket.app at ∙ ap
    (λ (a : Application). Bracket a.head a.args at) (application_of app) in
    is ∙ sym (bare_bracket (term_of app.head) app.args at some) ∙ ap bare (sym is)
