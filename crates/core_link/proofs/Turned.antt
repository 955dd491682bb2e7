-- Where one program is the same as another, the places and the numbers of the names aside, the
-- other
-- is the same as the one.
use Rattle.std.proofs.Common.{ℕ, List, [], ◌∷◌, refl, sym, ◌∙◌}
use Rattle.std.specs.List.{AllZip}
use Rattle.core_reader.specs.declared.syntax.Binder.{Binder}
use Rattle.core_reader.specs.declared.syntax.Pattern.{Pattern}
use Rattle.core_reader.specs.declared.syntax.Pattern.TheVariants as pattern
use Rattle.core_reader.specs.Tree as tree
use Rattle.core_reader.specs.Tree.{Term, Terms, NoTerms, AndTerm, Bind, Expr, App, Let, Case, Alts, NoAlts, AndAlt, Data, Function, Program}
use Rattle.core_print.specs.Same.{SameName, SameBinder, SameTerm, SameTerms, SameBind, SamePattern, SameExpr, SameAlts, SameData, SameFunction, SameProgram}
use Rattle.core_link.proofs.Twice.{Join, data_joined, function_joined}

zip_itself : {X : Type 0} (R : X → X → Type 0) → ((x : X) → R x x) → (xs : List X) → AllZip R xs xs
zip_itself R f [] = tt
zip_itself R f (x ∷ xs) = (f x, zip_itself R f xs)

module _ (names : List (List ℕ)) where
  mutual
    term_itself : (a : Term) → SameTerm names names a a
    term_itself (tree.Name n at) = refl
    term_itself (tree.Con n at) = refl
    term_itself (tree.Int k at) = refl
    term_itself (tree.Bracket f xs at) = (term_itself f, terms_itself xs)

    terms_itself : (xs : Terms) → SameTerms names names xs xs
    terms_itself NoTerms = tt
    terms_itself (AndTerm a xs) = (term_itself a, terms_itself xs)

  binders_itself : (bs : List Binder) → AllZip (SameBinder names names) bs bs
  binders_itself = zip_itself (SameBinder names names) (λ b. refl)

  binds_itself : (bs : List Bind) → AllZip (SameBind names names) bs bs
  binds_itself = zip_itself (SameBind names names)
      (λ b. (refl, (term_itself b.app.head, terms_itself b.app.args)))

  pattern_itself : (p : Pattern) → SamePattern names names p p
  pattern_itself (pattern.Con c fields) = (refl, binders_itself fields)
  pattern_itself (pattern.Int k at) = refl
  pattern_itself (pattern.Default x) = refl

  mutual
    expr_itself : (e : Expr) → SameExpr names names e e
    expr_itself (App a) = (term_itself a.head, terms_itself a.args)
    expr_itself (Let group e) = (binds_itself group, expr_itself e)
    expr_itself (Case e alts) = (expr_itself e, alts_itself alts)

    alts_itself : (alts : Alts) → SameAlts names names alts alts
    alts_itself NoAlts = tt
    alts_itself (AndAlt p e alts) = (pattern_itself p, expr_itself e, alts_itself alts)

  function_itself : (f : Function) → SameFunction names names f f
  function_itself f = (refl, binders_itself f.params, expr_itself f.body)

module _ (names others : List (List ℕ)) where
  abbrev Alone : List Binder → List Binder → Unit {0} → Unit {0}
  Alone bs cs s = s

  abbrev Use : List (List ℕ) → List (List ℕ) → Unit {0} → ℕ → ℕ → Type 0
  Use names others s = SameName names others

  abbrev Fits : Unit {0} → Unit {0} → Unit {0} → Type 0
  Fits s t v = Unit {0}

  join : Join Alone (SameName names others) (SameName names others) (Use names others) Alone
      (SameName names names) (SameName names names) (Use names names) Alone (SameName others names)
      (SameName others names) (Use others names) Fits
  join = record {
    binder = λ x y z h g. sym h ∙ g;
    con = λ x y z h g. sym h ∙ g;
    use_of = λ s t v x y z f h g. sym h ∙ g;
    entered = λ s t v bs cs ds f. tt;
  }

  data_turned : (a b : Data) → SameData names others a b → SameData others names b a
  data_turned a b r = data_joined Alone (SameName names others) (SameName names others)
      (Use names others) Alone (SameName names names) (SameName names names) (Use names names) Alone
      (SameName others names) (SameName others names) (Use others names) Fits join a b a r
      (refl, refl)

  function_turned : (f g : Function) → SameFunction names others f g → SameFunction others names g f
  function_turned f g r = function_joined Alone (SameName names others) (SameName names others)
      (Use names others) Alone (SameName names names) (SameName names names) (Use names names) Alone
      (SameName others names) (SameName others names) (Use others names) Fits join
      (SameName names others) (SameName names names) (SameName others names)
      (λ x y z h g. sym h ∙ g) tt tt tt tt f g f r (function_itself names f)

zip_turned : {X Y : Type 0} (R : X → Y → Type 0) (Q : Y → X → Type 0)
    → ((x : X) (y : Y) → R x y → Q y x) → (xs : List X) (ys : List Y) → AllZip R xs ys
    → AllZip Q ys xs
zip_turned R Q f [] [] z = tt
zip_turned R Q f [] (y ∷ ys) z = absurd z
zip_turned R Q f (x ∷ xs) [] z = absurd z
zip_turned R Q f (x ∷ xs) (y ∷ ys) z = (f x y z.0, zip_turned R Q f xs ys z.1)

pub same_turned : (p q : Program) → SameProgram p q → SameProgram q p
same_turned p q s = record {
  constructors = zip_turned (SameData p.names q.names) (SameData q.names p.names)
      (data_turned p.names q.names) p.constructors q.constructors s.constructors;
  functions = zip_turned (SameFunction p.names q.names) (SameFunction q.names p.names)
      (function_turned p.names q.names) p.functions q.functions s.functions;
}
