-- The constraints of an application, by those of its parts.
use Rattle.std.proofs.Common.{◌≡◌, ℕ, [], ◌∷◌, ◌++◌, map, sym, ap, subst, ◌∙◌}
use Rattle.std.specs.declared.boxed.Box.{Box}
use Rattle.std.specs.declared.alloc.Global.{Global}
use Rattle.core_reader.specs.declared.syntax.App.{App}
use Rattle.core_reader.specs.declared.syntax.Atom.{Atom}
use Rattle.core_reader.specs.declared.syntax.Atom.TheVariants as atom
use Rattle.core_reader.specs.Tree.{Term, Terms, Application, Bracket, term, application, terms_of}
use Rattle.core_reader.proofs.TreeOf.{application_of, term_of-Bracket}
use Rattle.core_types.specs.Source.{Source}
use Rattle.core_types.specs.Typing.{Typed, Open, AtBracket, Locals, within_term, within_terms, of_app}
use Rattle.core_types.specs.Building.{application_constraint}
use Rattle.core_types.proofs.Heads.{some_arguments, bracket_within}

abbrev made : Term → Terms → Application
made head args = record { head = head; args = args }

module _ (s : Source) (ls : Locals) (t : Typed) (app : App) where
  abbrev IsWhole : Application → Type 0
  IsWhole a = of_app s ls t a ≡ application_constraint s ls t a ∷
      (within_term s ls a.head ++ within_terms s ls a.args)

  pub with_some : (app.args ≡ [] → ⊥) → IsWhole (application app)
  with_some some = subst IsWhole (sym (application_of app))
      (some_arguments s ls t (term app.head) app.args some)

  pub parts_are : application_constraint s ls t (application app) ∷
      (within_term s ls (application app).head ++ within_terms s ls (application app).args)
      ≡ application_constraint s ls t (application app) ∷
      (within_term s ls (term app.head) ++ within_terms s ls (terms_of (map term app.args)))
  parts_are = ap
      (λ (a : Application). application_constraint s ls t (application app) ∷
      (within_term s ls a.head ++ within_terms s ls a.args)) (application_of app)

module _ (s : Source) (ls : Locals) (a : Atom) where
  bracket_is : (app : Box App Global) (at : ℕ) → a ≡ atom.Bracket app at
      → term a ≡ Bracket (term app.value.head) (terms_of (map term app.value.args)) at
  bracket_is app at e = ap term e ∙ term_of-Bracket app at ∙ ap
      (λ (b : Application). Bracket b.head b.args at) (application_of app.value)

  pub lone_within : (app : Box App Global) (at : ℕ) → a ≡ atom.Bracket app at → app.value.args ≡ []
      → within_term s ls (term a) ≡ within_term s ls (term app.value.head)
  lone_within app at e f = ap (within_term s ls)
      (bracket_is app at e ∙ ap
      (λ atoms. Bracket (term app.value.head) (terms_of (map term atoms)) at) f)

  pub some_within : (app : Box App Global) (at : ℕ) → a ≡ atom.Bracket app at
      → (app.value.args ≡ [] → ⊥) → within_term s ls (term a) ≡ of_app s ls (Open (AtBracket at))
      (application app.value)
  some_within app at e some = ap (within_term s ls) (bracket_is app at e) ∙ bracket_within s ls
      (term app.value.head) app.value.args at some
      ∙ ap (of_app s ls (Open (AtBracket at))) (sym (application_of app.value))
