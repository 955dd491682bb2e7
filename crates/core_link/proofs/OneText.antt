-- Programs that are the same, the places and the numbers of the names aside, have one canonical
-- text.
use Rattle.std.proofs.Common.{◌≡◌, ℕ, List, [], ◌∷◌, ◌++◌, ap, refl}
use Rattle.std.specs.Prelude.{codes, decimal}
use Rattle.std.specs.List.{AllZip, flat_map}
use Rattle.std.specs.Fmt.{signed_decimal}
use Rattle.seq.specs.Lists.{or_empty}
use Rattle.core_reader.specs.declared.syntax.Binder.{Binder}
use Rattle.core_reader.specs.declared.syntax.Pattern.{Pattern}
use Rattle.core_reader.specs.declared.syntax.Pattern.TheVariants as pattern
use Rattle.core_reader.specs.Tree as tree
use Rattle.core_reader.specs.Tree.{Term, Terms, NoTerms, AndTerm, Application, Bind, Expr, App, Let, Case, Alts, NoAlts, AndAlt, Data, Function, Program}
use Rattle.core_print.specs.Same.{SameName, SameBinder, SameTerm, SameTerms, SameApp, SameBind, SamePattern, SameExpr, SameAlts, SameData, SameFunction, SameProgram}
use Rattle.core_print.specs.Canonical.{name_text, binders_text, term_text, terms_text, app_text, bind_text, group_text, pattern_text, expr_text, alts_text, data_line, function_line, canonical}

zip_text : {X Y : Type 0} (R : X → Y → Type 0) (f : X → List ℕ) (g : Y → List ℕ)
    → ((x : X) (y : Y) → R x y → f x ≡ g y) → (xs : List X) (ys : List Y) → AllZip R xs ys
    → flat_map f xs ≡ flat_map g ys
zip_text R f g h [] [] z = refl
zip_text R f g h [] (y ∷ ys) z = absurd z
zip_text R f g h (x ∷ xs) [] z = absurd z
zip_text R f g h (x ∷ xs) (y ∷ ys) z = λ i. h x y z.0 i ++ zip_text R f g h xs ys z.1 i

module _ (names others : List (List ℕ)) where
  name_same : (n m : ℕ) → SameName names others n m → name_text names n ≡ name_text others m
  name_same n m e = ap or_empty e

  binders_same : (bs cs : List Binder) → AllZip (SameBinder names others) bs cs
      → binders_text names bs ≡ binders_text others cs
  binders_same = zip_text (SameBinder names others) (λ b. codes " " ++ name_text names b.name.0)
      (λ b. codes " " ++ name_text others b.name.0)
      (λ b c e. ap (λ w. codes " " ++ w) (name_same b.name.0 c.name.0 e))

  mutual
    term_same : (a b : Term) → SameTerm names others a b → term_text names a ≡ term_text others b
    term_same (tree.Name n at) (tree.Name m to) r = name_same n m r
    term_same (tree.Name n at) b r = absurd r
    term_same (tree.Con n at) (tree.Con m to) r = name_same n m r
    term_same (tree.Con n at) b r = absurd r
    term_same (tree.Int k at) (tree.Int j to) r = ap signed_decimal r
    term_same (tree.Int k at) b r = absurd r
    term_same (tree.Bracket f xs at) (tree.Bracket g ys to) r = λ i. codes "("
        ++ term_same f g r.0 i ++ terms_same xs ys r.1 i ++ codes ")"
    term_same (tree.Bracket f xs at) b r = absurd r

    terms_same : (xs ys : Terms) → SameTerms names others xs ys
        → terms_text names xs ≡ terms_text others ys
    terms_same NoTerms NoTerms r = refl
    terms_same NoTerms ys r = absurd r
    terms_same (AndTerm a xs) (AndTerm b ys) r = λ i. codes " " ++ term_same a b r.0 i
        ++ terms_same xs ys r.1 i
    terms_same (AndTerm a xs) ys r = absurd r

  app_same : (a b : Application) → SameApp names others a b → app_text names a ≡ app_text others b
  app_same a b r = λ i. term_same a.head b.head r.0 i ++ terms_same a.args b.args r.1 i

  bind_same : (b c : Bind) → SameBind names others b c → bind_text names b ≡ bind_text others c
  bind_same b c r = λ i. name_same b.binder.name.0 c.binder.name.0 r.0 i ++ codes " = "
      ++ app_same b.app c.app r.1 i

  group_same : (lead : List ℕ) (bs cs : List Bind) → AllZip (SameBind names others) bs cs
      → group_text names lead bs ≡ group_text others lead cs
  group_same lead [] [] z = refl
  group_same lead [] (c ∷ cs) z = absurd z
  group_same lead (b ∷ bs) [] z = absurd z
  group_same lead (b ∷ bs) (c ∷ cs) z = λ i. lead ++ bind_same b c z.0 i
      ++ group_same (codes "; ") bs cs z.1 i

  pattern_same : (p q : Pattern) → SamePattern names others p q
      → pattern_text names p ≡ pattern_text others q
  pattern_same (pattern.Con c fields) (pattern.Con d more) r
      = λ i. name_same c.name.0 d.name.0 r.0 i ++ binders_same fields more r.1 i
  pattern_same (pattern.Con c fields) q r = absurd r
  pattern_same (pattern.Int k at) (pattern.Int j to) r = ap signed_decimal r
  pattern_same (pattern.Int k at) q r = absurd r
  pattern_same (pattern.Default x) (pattern.Default y) r = name_same x.name.0 y.name.0 r
  pattern_same (pattern.Default x) q r = absurd r

  mutual
    expr_same : (e d : Expr) → SameExpr names others e d → expr_text names e ≡ expr_text others d
    expr_same (App a) (App b) r = app_same a b r
    expr_same (App a) d r = absurd r
    expr_same (Let group e) (Let more d) r = λ i. codes "let"
        ++ group_same (codes " ") group more r.0 i ++ codes " in " ++ expr_same e d r.1 i
    expr_same (Let group e) d r = absurd r
    expr_same (Case e xs) (Case d ys) r = λ i. codes "case " ++ expr_same e d r.0 i ++ codes " of"
        ++ alts_same (codes " { ") xs ys r.1 i ++ codes " }"
    expr_same (Case e xs) d r = absurd r

    alts_same : (lead : List ℕ) (xs ys : Alts) → SameAlts names others xs ys
        → alts_text names lead xs ≡ alts_text others lead ys
    alts_same lead NoAlts NoAlts r = refl
    alts_same lead NoAlts ys r = absurd r
    alts_same lead (AndAlt p e xs) (AndAlt q d ys) r = λ i. lead ++ pattern_same p q r.0 i
        ++ codes " -> " ++ expr_same e d r.1 i ++ alts_same (codes "; ") xs ys r.2 i
    alts_same lead (AndAlt p e xs) ys r = absurd r

  data_same : (c d : Data) → SameData names others c d → data_line names c ≡ data_line others d
  data_same c d r = λ i. codes "data " ++ name_same c.name d.name r.0 i ++ codes " "
      ++ decimal (r.1 i) ++ codes ";\n"

  function_same : (f g : Function) → SameFunction names others f g
      → function_line names f ≡ function_line others g
  function_same f g r = λ i. name_same f.name g.name r.0 i ++ binders_same f.params g.params r.1 i
      ++ codes " = " ++ expr_same f.body g.body r.2 i ++ codes ";\n"

pub same_canonical : (p q : Program) → SameProgram p q → canonical p ≡ canonical q
same_canonical p q s =
    λ i. zip_text (SameData p.names q.names) (data_line p.names) (data_line q.names)
    (data_same p.names q.names) p.constructors q.constructors s.constructors i
    ++ zip_text (SameFunction p.names q.names) (function_line p.names) (function_line q.names)
    (function_same p.names q.names) p.functions q.functions s.functions i
