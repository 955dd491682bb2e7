-- The canonical text of a program: each declaration is a line, the constructors first and then the
-- functions. One space stands between two tokens, but none after `(` and none before `)` and `;`.
use Rattle.std.specs.Prelude.{ℕ, List, [], ◌∷◌, ◌++◌, codes, decimal, slice_get}
use Rattle.std.specs.List.{flat_map}
use Rattle.std.specs.Fmt.{signed_decimal}
use Rattle.core_reader.specs.declared.syntax.Binder.{Binder}
use Rattle.core_reader.specs.declared.syntax.Pattern.{Pattern}
use Rattle.core_reader.specs.declared.syntax.Pattern.TheVariants as pattern
use Rattle.core_reader.specs.Tree.{Term, Terms, NoTerms, AndTerm, Application, Bind, Expr, App, Let, Case, Alts, NoAlts, AndAlt, Data, Function, Program}
use Rattle.core_reader.specs.Tree as tree
use Rattle.seq.specs.Lists.{or_empty}

module _ (names : List (List ℕ)) where
  -- A number that is no place among the names has no text.
  abbrev pub name_text : ℕ → List ℕ
  name_text n = or_empty (slice_get names n)

  -- each name behind a space
  abbrev pub binders_text : List Binder → List ℕ
  binders_text bs = flat_map (λ b. codes " " ++ name_text b.name.0) bs

  abbrev mutual
    pub term_text : Term → List ℕ
    term_text (tree.Name n at) = name_text n
    term_text (tree.Con n at) = name_text n
    term_text (tree.Int k at) = signed_decimal k
    term_text (tree.Bracket head args at) =
        codes "(" ++ term_text head ++ terms_text args ++ codes ")"

    -- each argument behind a space
    pub terms_text : Terms → List ℕ
    terms_text NoTerms = []
    terms_text (AndTerm a xs) = codes " " ++ term_text a ++ terms_text xs

  abbrev pub app_text : Application → List ℕ
  app_text app = term_text app.head ++ terms_text app.args

  abbrev pub bind_text : Bind → List ℕ
  bind_text b = name_text b.binder.name.0 ++ codes " = " ++ app_text b.app

  -- the members of a let group, the first behind a lead and each further one behind `; `
  abbrev pub group_text : (lead : List ℕ) → List Bind → List ℕ
  group_text lead [] = []
  group_text lead (b ∷ bs) = lead ++ bind_text b ++ group_text (codes "; ") bs

  abbrev pub pattern_text : Pattern → List ℕ
  pattern_text (pattern.Con c fields) = name_text c.name.0 ++ binders_text fields
  pattern_text (pattern.Int k at) = signed_decimal k
  pattern_text (pattern.Default x) = name_text x.name.0

  abbrev mutual
    pub expr_text : Expr → List ℕ
    expr_text (App app) = app_text app
    expr_text (Let group e) =
        codes "let" ++ group_text (codes " ") group ++ codes " in " ++ expr_text e
    expr_text (Case e alts) =
        codes "case " ++ expr_text e ++ codes " of" ++ alts_text (codes " { ") alts ++ codes " }"

    -- the alternatives, the first behind a lead and each further one behind `; `
    pub alts_text : (lead : List ℕ) → Alts → List ℕ
    alts_text lead NoAlts = []
    alts_text lead (AndAlt p e xs) =
        lead ++ pattern_text p ++ codes " -> " ++ expr_text e ++ alts_text (codes "; ") xs

  abbrev pub data_line : Data → List ℕ
  data_line d = codes "data " ++ name_text d.name ++ codes " " ++ decimal d.fields ++ codes ";\n"

  abbrev pub function_line : Function → List ℕ
  function_line f =
      name_text f.name ++ binders_text f.params ++ codes " = " ++ expr_text f.body ++ codes ";\n"

abbrev pub canonical : Program → List ℕ
canonical p =
    flat_map (data_line p.names) p.constructors ++ flat_map (function_line p.names) p.functions
