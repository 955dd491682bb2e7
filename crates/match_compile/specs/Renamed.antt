-- A body where names of patterns have become names of places.
use Rattle.std.specs.Prelude.{ℕ, List, [], ◌∷◌, map, Some, None}
use Rattle.core_reader.specs.declared.syntax.Binder.{Binder}
use Rattle.core_reader.specs.Tree.{Term, Terms, NoTerms, AndTerm, Application, Bind, Expr, App, Let, Case, Alts, NoAlts, AndAlt}
use Rattle.core_reader.specs.Tree as tree
use Rattle.arity_check.specs.Scope.{Scope}
use Rattle.arity_check.specs.Locals.{innermost_local}
use Rattle.arity_check.specs.Pieces.{binders_of, bound_by}

-- the innermost name that stands for a name
abbrev pub renamed_name : Scope → ℕ → ℕ
renamed_name s x = elim (innermost_local s x) [ Some y ↦ y | None ↦ x ]

-- names that are bound in the body stand for themselves
abbrev pub shadowing : List Binder → Scope → Scope
shadowing [] s = s
shadowing (b ∷ bs) s = shadowing bs ((b.name.0, b.name.0) ∷ s)

abbrev mutual
  pub renamed_term : Scope → Term → Term
  renamed_term s (tree.Name x at) = tree.Name (renamed_name s x) at
  renamed_term s (tree.Con c at) = tree.Con c at
  renamed_term s (tree.Int k at) = tree.Int k at
  renamed_term s (tree.Bracket f xs at) = tree.Bracket (renamed_term s f) (renamed_terms s xs) at

  pub renamed_terms : Scope → Terms → Terms
  renamed_terms s NoTerms = NoTerms
  renamed_terms s (AndTerm a xs) = AndTerm (renamed_term s a) (renamed_terms s xs)

abbrev pub renamed_app : Scope → Application → Application
renamed_app s a = record { head = renamed_term s a.head; args = renamed_terms s a.args }

abbrev pub renamed_bind : Scope → Bind → Bind
renamed_bind s b = record { binder = b.binder; app = renamed_app s b.app }

abbrev mutual
  pub renamed_expr : Scope → Expr → Expr
  renamed_expr s (App a) = App (renamed_app s a)
  renamed_expr s (Let group e) =
      Let (map (renamed_bind (shadowing (binders_of group) s)) group)
      (renamed_expr (shadowing (binders_of group) s) e)
  renamed_expr s (Case e alts) = Case (renamed_expr s e) (renamed_alts s alts)

  pub renamed_alts : Scope → Alts → Alts
  renamed_alts s NoAlts = NoAlts
  renamed_alts s (AndAlt p e alts) =
      AndAlt p (renamed_expr (shadowing (bound_by p) s) e) (renamed_alts s alts)
