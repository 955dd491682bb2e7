-- Each program with lambdas that was read has what the calls behind the reader ask.
use Rattle.std.proofs.Common.{◌≡◌, true, ℕ, suc, ◌+◌, ◌*◌, ◌≤◌, List, [], ◌∷◌, ◌++◌, length, map, refl, sym, ap, subst, arith, length-append}
use Rattle.std.specs.Prelude.{pos, All, sum_by}
use Rattle.std.proofs.lemmas.Int.{ints}
use Rattle.std.proofs.lemmas.List.Sums.{sum_by-cons}
use Rattle.std.proofs.lemmas.List.Elements.{All-nil, All-cons}
use Rattle.core_reader.specs.declared.dialect.Dialect.TheVariants.{Lambdas}
use Rattle.core_reader.specs.declared.syntax.Pattern.{Pattern}
use Rattle.core_reader.specs.declared.syntax.Pattern.TheVariants as pattern
use Rattle.core_reader.specs.declared.token.Token.TheVariants as word
use Rattle.core_reader.specs.declared.token.Lexeme.{Lexeme}
use Rattle.core_reader.specs.Different.{AreDistinct}
use Rattle.core_reader.specs.Grammar.{NestingLimit, lexeme, binders, SpellsPattern}
use Rattle.core_reader.specs.TokensOf.{Piece}
use Rattle.core_reader.specs.WordsOf.{said, IsInRange}
use Rattle.core_reader.specs.LexedOf.{AreInRange}
use Rattle.core_reader.specs.Size.{pattern_size}
use Rattle.core_reader.specs.Readable.{ReadableData}
use Rattle.core_reader.proofs.NamingOf.{Texts, EachHeld, each_held}
use Rattle.core_reader.proofs.Readability.{EachKnown, front_known, back_known, known, binders_readable, pattern_readable, binders_length, different_from}
use Rattle.lambda_reader.specs.Tree.{Term, Terms, NoTerms, AndTerm, Group, NoBinds, AndValue, AndFunction, Expr, App, Let, Case, Alts, NoAlts, AndAlt, Program}
use Rattle.lambda_reader.specs.Tree as tree
use Rattle.lambda_reader.specs.Grammar.{SpellsTerm, SpellsTerms, SpellsGroup, SpellsExpr, SpellsAlts}
use Rattle.lambda_reader.specs.Programs.{Decl, Declares, Defines, SpellsDecl, SpellsDecls, constructors_of, functions_of, IsProgram}
use Rattle.lambda_reader.specs.Size.{term_size, terms_size, group_size, expr_size, alts_size, function_size}
use Rattle.lambda_reader.specs.Readable.{ReadableTerm, ReadableTerms, ReadableGroup, ReadableExpr, ReadableAlts, ReadableFunction, IsReadable}

-- ---- what the grammar derives from tokens that are known

module _ (names : Texts) (l : NestingLimit) where
  mutual
    term_readable : (d : ℕ) (a : Term) (ts : List Lexeme) → SpellsTerm true l d a ts
        → EachKnown names ts → ReadableTerm names a
    term_readable d (tree.Name n at) ts h k = (subst (EachKnown names) h k).0
    term_readable d (tree.Con n at) ts h k = (subst (EachKnown names) h k).0
    term_readable d (tree.Int v at) ts h k = (subst (EachKnown names) h.1 k).0
    term_readable d (tree.Bracket a xs at) ts h k =
        let close = lexeme h.2 word.Close ∷ [] in
        let k2 : EachKnown names (h.0 ++ (h.1 ++ close)) = (subst (EachKnown names) h.6 k).1 in (
          term_readable (suc d) a h.0 h.4 (front_known names h.0 (h.1 ++ close) k2),
          terms_readable (suc d) xs h.1 h.5
              (front_known names h.1 close (back_known names h.0 (h.1 ++ close) k2)),
        )
    term_readable d (tree.Lambda params body at) ts h k =
        let close = lexeme h.2 word.Close ∷ [] in
        let rest = lexeme h.1 word.Arrow ∷ (h.3 ++ close) in
        let k2 : EachKnown names (binders params ++ rest) = (subst (EachKnown names) h.8 k).1.1 in (
          h.6,
          binders_readable names params (front_known names (binders params) rest k2),
          expr_readable (suc d) body h.3 h.7
              (front_known names h.3 close (back_known names (binders params) rest k2).1),
        )

    terms_readable : (d : ℕ) (xs : Terms) (ts : List Lexeme) → SpellsTerms true l d xs ts
        → EachKnown names ts → ReadableTerms names xs
    terms_readable d NoTerms ts h k = tt
    terms_readable d (AndTerm a xs) ts h k =
        let k2 = subst (EachKnown names) h.4 k in (
          term_readable d a h.0 h.2 (front_known names h.0 h.1 k2),
          terms_readable d xs h.1 h.3 (back_known names h.0 h.1 k2),
        )

    group_readable : (d : ℕ) (g : Group) (ts : List Lexeme) → SpellsGroup true l d g ts
        → EachKnown names ts → ReadableGroup names g
    group_readable d NoBinds ts h k = tt
    group_readable d (AndValue b a xs rest) ts h k =
        let k2 = subst (EachKnown names) h.9 k in
        let last = h.3 ++ h.4 in
        let k3 : EachKnown names (h.1 ++ (h.2 ++ last)) = k2.1.1 in
        let k4 = back_known names h.1 (h.2 ++ last) k3 in (
          k2.0,
          term_readable d a h.1 h.5 (front_known names h.1 (h.2 ++ last) k3),
          terms_readable d xs h.2 h.6 (front_known names h.2 last k4),
          group_readable d rest h.4 h.8 (back_known names h.3 h.4 (back_known names h.2 last k4)),
        )
    group_readable d (AndFunction b params body rest) ts h k =
        let k2 = subst (EachKnown names) h.9 k in
        let last = h.2 ++ h.3 in
        let more = lexeme h.0 word.Equals ∷ (h.1 ++ last) in
        let k3 : EachKnown names (binders params ++ more) = k2.1 in
        let k4 : EachKnown names (h.1 ++ last) = (back_known names (binders params) more k3).1 in (
          k2.0,
          h.5,
          binders_readable names params (front_known names (binders params) more k3),
          expr_readable d body h.1 h.6 (front_known names h.1 last k4),
          group_readable d rest h.3 h.8 (back_known names h.2 h.3 (back_known names h.1 last k4)),
        )

    expr_readable : (d : ℕ) (e : Expr) (ts : List Lexeme) → SpellsExpr true l d e ts
        → EachKnown names ts → ReadableExpr names e
    expr_readable d (App a xs) ts h k =
        let k2 = subst (EachKnown names) h.4 k in (
          term_readable d a h.0 h.2 (front_known names h.0 h.1 k2),
          terms_readable d xs h.1 h.3 (back_known names h.0 h.1 k2),
        )
    expr_readable d (Let group e) ts h k =
        let rest = lexeme h.1 word.In ∷ h.3 in
        let k2 : EachKnown names (h.2 ++ rest) = (subst (EachKnown names) h.8 k).1 in (
          h.5,
          group_readable (suc d) group h.2 h.6 (front_known names h.2 rest k2),
          expr_readable (suc d) e h.3 h.7 (back_known names h.2 rest k2).1,
        )
    expr_readable d (Case e alts) ts h k =
        let close = lexeme h.3 word.CloseBrace ∷ [] in
        let rest = lexeme h.1 word.Of ∷ lexeme h.2 word.OpenBrace ∷ (h.5 ++ close) in
        let k2 : EachKnown names (h.4 ++ rest) = (subst (EachKnown names) h.10 k).1 in
        let k3 = back_known names h.4 rest k2 in (
          h.7,
          expr_readable (suc d) e h.4 h.8 (front_known names h.4 rest k2),
          alts_readable (suc d) alts h.5 h.9 (front_known names h.5 close k3.1.1),
        )

    alts_readable : (d : ℕ) (xs : Alts) (ts : List Lexeme) → SpellsAlts true l d xs ts
        → EachKnown names ts → ReadableAlts names xs
    alts_readable d NoAlts ts h k = tt
    alts_readable d (AndAlt p e xs) ts h k =
        let rest2 = h.2 ++ h.3 in
        let rest = lexeme h.4 word.Arrow ∷ (h.1 ++ rest2) in
        let k2 = subst (EachKnown names) h.9 k in
        let k3 = (back_known names h.0 rest k2).1 in (
          pattern_readable names p h.0 h.5 (front_known names h.0 rest k2),
          expr_readable d e h.1 h.6 (front_known names h.1 rest2 k3),
          alts_readable d xs h.3 h.8 (back_known names h.2 h.3 (back_known names h.1 rest2 k3)),
        )

abbrev ReadableDecl : Texts → Decl → Type 0
ReadableDecl names (Declares d) = ReadableData names d
ReadableDecl names (Defines f) = ReadableFunction names f

abbrev EachReadable : Texts → List Decl → Type 0
EachReadable names [] = Unit {0}
EachReadable names (d ∷ ds) = ReadableDecl names d × EachReadable names ds

decl_readable : (names : Texts) (l : NestingLimit) (d : Decl) (ts : List Lexeme) → SpellsDecl l d ts
    → EachKnown names ts → ReadableDecl names d
decl_readable names l (Declares d) ts h k =
    let k2 = subst (EachKnown names) h.3 k in
    let r : IsInRange (pos d.fields) = k2.1.1.0 in
    (k2.1.0, omega (arith, ints, r.1))
decl_readable names l (Defines f) ts h k =
    let k2 = subst (EachKnown names) h.4 k in
    let close = lexeme h.1 word.Semicolon ∷ [] in
    let rest = lexeme h.0 word.Equals ∷ (h.2 ++ close) in
    let k3 = back_known names (binders f.params) rest k2.1 in (
      k2.0,
      binders_readable names f.params (front_known names (binders f.params) rest k2.1),
      expr_readable names l 0 f.body h.2 h.3 (front_known names h.2 close k3.1),
    )

decls_readable : (names : Texts) (l : NestingLimit) (ds : List Decl) (ts : List Lexeme)
    → SpellsDecls l ds ts → EachKnown names ts → EachReadable names ds
decls_readable names l [] ts h k = tt
decls_readable names l (d ∷ ds) ts h k =
    let k2 = subst (EachKnown names) h.4 k in (
      decl_readable names l d h.0 h.2 (front_known names h.0 h.1 k2),
      decls_readable names l ds h.1 h.3 (back_known names h.0 h.1 k2),
    )

constructors_readable : (names : Texts) (ds : List Decl) → EachReadable names ds
    → All (ReadableData names) (constructors_of ds)
constructors_readable names [] h = All-nil (ReadableData names)
constructors_readable names (Declares d ∷ ds) h = All-cons (ReadableData names) d
    (constructors_of ds) h.0 (constructors_readable names ds h.1)
constructors_readable names (Defines f ∷ ds) h = constructors_readable names ds h.1

functions_readable : (names : Texts) (ds : List Decl) → EachReadable names ds
    → All (ReadableFunction names) (functions_of ds)
functions_readable names [] h = All-nil (ReadableFunction names)
functions_readable names (Declares d ∷ ds) h = functions_readable names ds h.1
functions_readable names (Defines f ∷ ds) h = All-cons (ReadableFunction names) f (functions_of ds)
    h.0 (functions_readable names ds h.1)

-- ---- there are no more of them than tokens

pattern_small : (p : Pattern) (ts : List Lexeme) → SpellsPattern p ts → pattern_size p ≤ length ts
pattern_small (pattern.Con c fields) ts h = omega (arith, ap length h, binders_length fields)
pattern_small (pattern.Int v at) ts h = omega (arith, ap length h.1)
pattern_small (pattern.Default x) ts h = omega (arith, ap length h)

module _ (l : NestingLimit) where
  mutual
    term_small : (d : ℕ) (a : Term) (ts : List Lexeme) → SpellsTerm true l d a ts
        → term_size a ≤ length ts
    term_small d (tree.Name n at) ts h = omega (arith, ap length h)
    term_small d (tree.Con n at) ts h = omega (arith, ap length h)
    term_small d (tree.Int v at) ts h = omega (arith, ap length h.1)
    term_small d (tree.Bracket a xs at) ts h =
        let close = lexeme h.2 word.Close ∷ [] in
        let e1 = term_small (suc d) a h.0 h.4 in
        let e2 = terms_small (suc d) xs h.1 h.5 in
        omega (
          arith,
          e1,
          e2,
          ap length h.6,
          length-append h.0 (h.1 ++ close),
          length-append h.1 close,
        )
    term_small d (tree.Lambda params body at) ts h =
        let close = lexeme h.2 word.Close ∷ [] in
        let e1 = expr_small (suc d) body h.3 h.7 in
        omega (
          arith,
          e1,
          ap length h.8,
          binders_length params,
          length-append (binders params) (lexeme h.1 word.Arrow ∷ (h.3 ++ close)),
          length-append h.3 close,
        )

    terms_small : (d : ℕ) (xs : Terms) (ts : List Lexeme) → SpellsTerms true l d xs ts
        → terms_size xs ≤ length ts
    terms_small d NoTerms ts h = omega arith
    terms_small d (AndTerm a xs) ts h =
        let e1 = term_small d a h.0 h.2 in
        let e2 = terms_small d xs h.1 h.3 in
        omega (arith, e1, e2, ap length h.4, length-append h.0 h.1)

    group_small : (d : ℕ) (g : Group) (ts : List Lexeme) → SpellsGroup true l d g ts
        → group_size g ≤ length ts
    group_small d NoBinds ts h = omega arith
    group_small d (AndValue b a xs rest) ts h =
        let e1 = term_small d a h.1 h.5 in
        let e2 = terms_small d xs h.2 h.6 in
        let e3 = group_small d rest h.4 h.8 in
        omega (
          arith,
          e1,
          e2,
          e3,
          ap length h.9,
          length-append h.1 (h.2 ++ (h.3 ++ h.4)),
          length-append h.2 (h.3 ++ h.4),
          length-append h.3 h.4,
        )
    group_small d (AndFunction b params body rest) ts h =
        let e1 = expr_small d body h.1 h.6 in
        let e2 = group_small d rest h.3 h.8 in
        omega (
          arith,
          e1,
          e2,
          ap length h.9,
          binders_length params,
          length-append (binders params) (lexeme h.0 word.Equals ∷ (h.1 ++ (h.2 ++ h.3))),
          length-append h.1 (h.2 ++ h.3),
          length-append h.2 h.3,
        )

    expr_small : (d : ℕ) (e : Expr) (ts : List Lexeme) → SpellsExpr true l d e ts
        → expr_size e ≤ length ts
    expr_small d (App a xs) ts h =
        let e1 = term_small d a h.0 h.2 in
        let e2 = terms_small d xs h.1 h.3 in
        omega (arith, e1, e2, ap length h.4, length-append h.0 h.1)
    expr_small d (Let group e) ts h =
        let e1 = group_small (suc d) group h.2 h.6 in
        let e2 = expr_small (suc d) e h.3 h.7 in
        omega (arith, e1, e2, ap length h.8, length-append h.2 (lexeme h.1 word.In ∷ h.3))
    expr_small d (Case e alts) ts h =
        let close = lexeme h.3 word.CloseBrace ∷ [] in
        let e1 = expr_small (suc d) e h.4 h.8 in
        let e2 = alts_small (suc d) alts h.5 h.9 in
        omega (
          arith,
          e1,
          e2,
          ap length h.10,
          length-append h.4
              (lexeme h.1 word.Of ∷ lexeme h.2 word.OpenBrace ∷ (h.5 ++ close)),
          length-append h.5 close,
        )

    alts_small : (d : ℕ) (xs : Alts) (ts : List Lexeme) → SpellsAlts true l d xs ts
        → alts_size xs ≤ length ts
    alts_small d NoAlts ts h = omega arith
    alts_small d (AndAlt p e xs) ts h =
        let e1 = pattern_small p h.0 h.5 in
        let e2 = expr_small d e h.1 h.6 in
        let e3 = alts_small d xs h.3 h.8 in
        omega (
          arith,
          e1,
          e2,
          e3,
          ap length h.9,
          length-append h.0
              (lexeme h.4 word.Arrow ∷ (h.1 ++ (h.2 ++ h.3))),
          length-append h.1 (h.2 ++ h.3),
          length-append h.2 h.3,
        )

decls_small : (l : NestingLimit) (ds : List Decl) (ts : List Lexeme) → SpellsDecls l ds ts
    → 2 * length (constructors_of ds) + sum_by function_size (functions_of ds) ≤ length ts
decls_small l [] ts h = omega arith
decls_small l (Declares d ∷ ds) ts h =
    let e = decls_small l ds h.1 h.3 in
    omega (arith, e, ap length h.4, length-append h.0 h.1, ap length h.2.3)
decls_small l (Defines f ∷ ds) ts h =
    let g = h.2 in
    let close = lexeme g.1 word.Semicolon ∷ [] in
    let e = decls_small l ds h.1 h.3 in
    let e2 = expr_small l 0 f.body g.2 g.3 in
    let e3 : sum_by function_size (f ∷ functions_of ds) ≡ function_size f + sum_by function_size
    (functions_of ds) = sum_by-cons function_size f (functions_of ds) in
    omega (
      arith,
      e,
      e2,
      e3,
      ap length h.4,
      length-append h.0 h.1,
      ap length g.4,
      length-append (binders f.params) (lexeme g.0 word.Equals ∷ (g.2 ++ close)),
      length-append g.2 close,
      binders_length f.params,
    )

map_length : (names : Texts) (ps : List Piece) → length (map (said Lambdas names) ps) ≡ length ps
map_length names [] = refl
map_length names (p ∷ ps) = ap suc (map_length names ps)

pub readable : (l : NestingLimit) (p : Program) (pieces : List Piece) → IsProgram l p pieces
    → AreInRange Lambdas pieces → length pieces ≤ 1048576 → IsReadable p
readable l p pieces h small short =
    let held : EachHeld Lambdas p.names pieces = subst (λ v. EachHeld Lambdas v pieces)
    (sym h.names) (each_held Lambdas [] pieces) in
    let each : EachKnown p.names (map (said Lambdas p.names) pieces)
    = known Lambdas p.names pieces held small in
    let r = decls_readable p.names l h.decls (map (said Lambdas p.names) pieces) h.spelled each in
    let s = decls_small l h.decls (map (said Lambdas p.names) pieces) h.spelled in
    record {
      different = subst AreDistinct (sym h.names) (different_from Lambdas [] pieces tt);
      constructors = subst (All (ReadableData p.names)) h.constructors
          (constructors_readable p.names h.decls r);
      functions = subst (All (ReadableFunction p.names)) h.functions
          (functions_readable p.names h.decls r);
      size = subst (λ v. v ≤ 1048576)
          (λ i. 2 * length (h.constructors i) + sum_by function_size (h.functions i))
          (omega (arith, s, short, map_length p.names pieces));
    }
