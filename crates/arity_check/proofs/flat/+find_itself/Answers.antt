use Rattle.std.proofs.Common.{◌≡◌, ℕ, List, [], ◌∷◌, refl, sym, ap, ◌∙◌, None}
use Rattle.core_reader.specs.declared.syntax.Atom.{Atom}
use Rattle.core_reader.specs.declared.syntax.App.{App}
use Rattle.core_reader.specs.Tree.{Program, Term, Bracket, term}
use Rattle.core_reader.proofs.TreeOf.{term_of-Name}
use Rattle.arity_check.specs.Scope.{Scope}
use Rattle.arity_check.specs.Known.{meaning}
use Rattle.arity_check.specs.Normal.{itself, itself_as}
use Rattle.arity_check.proofs.Names.{meaning_means}
use Rattle.arity_check.proofs.Flats.{terms, term_bracket, some_members}
use Rattle.arity_check.proofs.flat.+find_itself.Goals as goal

bracketed : (p : Program) (s : Scope) (head : Term) (items : List Atom) (at : ℕ) → (items ≡ [] → ⊥)
    → itself p s (Bracket head (terms items) at) ≡ None
bracketed p s head [] at e = absurd (e refl)
bracketed p s head (x ∷ xs) at e = refl

pub returns-in-Name : goal.returns-in-Name
returns-in-Name t c = λ p k.
    c.variable.ensures ∙ ap itself_as
    (c.meaning_of_name.ensures ∙ ap (λ k. meaning k c.args.scope.now c.in-Name.name.0) k ∙
    meaning_means p c.args.scope.now c.in-Name.name.0)
    ∙ ap (itself p c.args.scope.now)
    (sym (term_of-Name c.in-Name.name c.in-Name.field-1) ∙ ap term (sym c.in-Name.is))

pub returns-else-is_empty : goal.returns-else-is_empty
returns-else-is_empty t c = λ p k.
    let some : c.in-Bracket.app.value.args ≡ [] → ⊥
    = λ e. some_members c.deref.result.now.args c.is_empty.result c.is_empty.ensures
    c.if-is_empty.false (ap (λ (a : App). a.args) c.deref.ensures ∙ e) in
    sym (ap (itself p c.args.scope.now)
    (term_bracket c.args.atom.now c.in-Bracket.app c.in-Bracket.field-1 c.in-Bracket.is)
    ∙ bracketed p c.args.scope.now (term c.in-Bracket.app.value.head) c.in-Bracket.app.value.args
    c.in-Bracket.field-1 some)
