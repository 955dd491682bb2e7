-- In a readable program each name has a number below the number of names, and each lambda and each
-- local
-- function has a parameter. The program of a text that can be read is readable.
use Rattle.std.proofs.Common.{◌≡◌, ℕ, ◌+◌, ◌<◌, ◌≤◌, Bool, true, false, nat_lt, List, [], ◌∷◌, ◌++◌, length, refl, sym, subst, arith, inl}
use Rattle.std.specs.Prelude.{ℤ, pos, negsuc, All}
use Rattle.std.proofs.lemmas.Bool.Decides.{nat_tests}
use Rattle.std.proofs.lemmas.Int.{ints}
use Rattle.std.proofs.lemmas.List.Elements.{All-head, All-tail}
use Rattle.seq.specs.Lists.{AllOf}
use Rattle.seq.proofs.Lists.{get_within}
use Rattle.core_reader.specs.declared.dialect.Dialect.TheVariants.{Lambdas}
use Rattle.core_reader.specs.declared.syntax.Binder.{Binder}
use Rattle.core_reader.specs.declared.syntax.Pattern.{Pattern}
use Rattle.core_reader.specs.declared.syntax.Pattern.TheVariants as pattern
use Rattle.core_reader.specs.Tree.{Data}
use Rattle.core_reader.specs.Grammar.{unlimited_nesting}
use Rattle.core_reader.specs.TokensOf.{Piece, Reads, Stops, Passes, Takes, IsTokens}
use Rattle.core_reader.specs.WordsOf.{written_number, IsInRange}
use Rattle.core_reader.specs.RulesOf.{NumberRange, TextTooLong}
use Rattle.core_reader.specs.LexedOf.{AreInRange}
use Rattle.core_reader.specs.Readable.{IsName, IsConstructor, IsTextAt, IsBound, ReadablePattern, ReadableData}
use Rattle.core_reader.proofs.FirstBroken.{one_last, begins_at}
use Rattle.core_reader.proofs.Unique.{ends_at, longest_some}
use Rattle.lambda_reader.specs.Tree.{Term, Terms, NoTerms, AndTerm, Group, NoBinds, AndValue, AndFunction, Expr, App, Let, Case, Alts, NoAlts, AndAlt, Function, Program}
use Rattle.lambda_reader.specs.Tree as tree
use Rattle.lambda_reader.specs.Programs.{IsSourceText, BreaksNoReadingRule}
use Rattle.lambda_reader.specs.Readable.{ReadableTerm, ReadableTerms, ReadableGroup, ReadableExpr, ReadableAlts, ReadableFunction, IsReadable}
use Rattle.lambda_reader.proofs.Readability.{readable}
use Rattle.lambda_lift.specs.Headers.{names_of, bound_by, binders_of}
use Rattle.lambda_lift.proofs.Fits.{And, Below, FitsTerm, FitsTerms, FitsGroup, Fits, FitsAlts}

-- ---- names

named_below : (names : List (List ℕ)) (Kind : List ℕ → Type 0) (n : ℕ) → IsTextAt names Kind n
    → n < length names
named_below names Kind n h = get_within names n h.0 h.1

module _ (names : List (List ℕ)) where
  abbrev N : ℕ
  N = length names

  binders_below : (bs : List Binder) → All (IsBound names) bs → Below N (names_of bs)
  binders_below [] h = tt
  binders_below (b ∷ bs) h = (
    named_below names IsName b.name.0 (All-head (IsBound names) b bs h),
    binders_below bs (All-tail (IsBound names) b bs h),
  )

  pattern_below : (p : Pattern) → ReadablePattern names p → Below N (names_of (bound_by p))
  pattern_below (pattern.Con c fields) h = binders_below fields h.1
  pattern_below (pattern.Int v at) h = tt
  pattern_below (pattern.Default x) h = (named_below names IsName x.name.0 h, tt)

  group_below : (g : Group) → ReadableGroup names g → Below N (names_of (binders_of g))
  group_below NoBinds h = tt
  group_below (AndValue b head args rest) h =
      (named_below names IsName b.name.0 h.0, group_below rest h.3)
  group_below (AndFunction b params body rest) h =
      (named_below names IsName b.name.0 h.0, group_below rest h.4)

  mutual
    term_fits : (V : ℕ → Type 0) → ((x : ℕ) → V x) → (a : Term) → ReadableTerm names a
        → FitsTerm N V a
    term_fits V v (tree.Name n at) h = (v n, named_below names IsName n h)
    term_fits V v (tree.Con n at) h = tt
    term_fits V v (tree.Int i at) h = tt
    term_fits V v (tree.Bracket a xs at) h = (term_fits V v a h.0, terms_fit V v xs h.1)
    term_fits V v (tree.Lambda params body at) h = (
      h.0,
      binders_below params h.1,
      expr_fits (And V (names_of params)) (λ x. inl (v x)) body
          h.2,
    )

    terms_fit : (V : ℕ → Type 0) → ((x : ℕ) → V x) → (xs : Terms) → ReadableTerms names xs
        → FitsTerms N V xs
    terms_fit V v NoTerms h = tt
    terms_fit V v (AndTerm a xs) h = (term_fits V v a h.0, terms_fit V v xs h.1)

    group_fits : (V : ℕ → Type 0) → ((x : ℕ) → V x) → (g : Group) → ReadableGroup names g
        → FitsGroup N V g
    group_fits V v NoBinds h = tt
    group_fits V v (AndValue b head args rest) h =
        (term_fits V v head h.1, terms_fit V v args h.2, group_fits V v rest h.3)
    group_fits V v (AndFunction b params body rest) h
        = (
          h.1,
          binders_below params h.2,
          expr_fits (And V (names_of params)) (λ x. inl (v x)) body
              h.3,
          group_fits V v rest h.4,
        )

    expr_fits : (V : ℕ → Type 0) → ((x : ℕ) → V x) → (e : Expr) → ReadableExpr names e → Fits N V e
    expr_fits V v (App head args) h = (term_fits V v head h.0, terms_fit V v args h.1)
    expr_fits V v (Let group e) h =
        let bound = names_of (binders_of group) in (
          group_below group h.1,
          group_fits (And V bound) (λ x. inl (v x)) group h.1,
          expr_fits (And V bound) (λ x. inl (v x)) e h.2,
        )
    expr_fits V v (Case e alts) h = (expr_fits V v e h.1, alts_fit V v alts h.2)

    alts_fit : (V : ℕ → Type 0) → ((x : ℕ) → V x) → (xs : Alts) → ReadableAlts names xs
        → FitsAlts N V xs
    alts_fit V v NoAlts h = tt
    alts_fit V v (AndAlt p e xs) h = (
      pattern_below p h.0,
      expr_fits (And V (names_of (bound_by p))) (λ x. inl (v x)) e h.1,
      alts_fit V v xs h.2,
    )

-- ---- a program

pub record FunctionFits (N : ℕ) (f : Function) : Type 0 where
  pub name : f.name < N
  pub params : Below N (names_of f.params)
  pub body : Fits N (λ x. Unit {0}) f.body

pub record ProgramFits (c : Program) : Type 0 where
  pub constructors : AllOf (λ (d : Data). d.name < length c.names) c.constructors
  pub functions : AllOf (FunctionFits (length c.names)) c.functions

data_fit : (names : List (List ℕ)) (ds : List Data) → All (ReadableData names) ds
    → AllOf (λ (d : Data). d.name < length names) ds
data_fit names [] h = tt
data_fit names (d ∷ ds) h =
    let here = All-head (ReadableData names) d ds h in (
      named_below names IsConstructor d.name here.0,
      data_fit names ds (All-tail (ReadableData names) d ds h),
    )

functions_fit : (names : List (List ℕ)) (fs : List Function) → All (ReadableFunction names) fs
    → AllOf (FunctionFits (length names)) fs
functions_fit names [] h = tt
functions_fit names (f ∷ fs) h =
    let here = All-head (ReadableFunction names) f fs h in (
      record {
        name = named_below names IsName f.name here.0;
        params = binders_below names f.params here.1;
        body = expr_fits names (λ x. Unit {0}) (λ x. tt) f.body here.2;
      },
      functions_fit names fs (All-tail (ReadableFunction names) f fs h),
    )

pub tree_fits : (c : Program) → IsReadable c → ProgramFits c
tree_fits c h = record {
  constructors = data_fit c.names c.constructors h.constructors;
  functions
      = functions_fit c.names c.functions h.functions;
}

-- ---- a text's program

-- a number that is not out of range is in range
in_range : (k : ℤ) → ((IsInRange k → ⊥) → ⊥) → IsInRange k
in_range (pos n) h = go (nat_lt 2147483647 n) refl
  where
    go : (b : Bool) → nat_lt 2147483647 n ≡ b → IsInRange (pos n)
    go true e = absurd
        (h (λ r. let lt : 2147483647 < n = grind (arith, nat_tests) in omega (arith, ints, r.1)))
    go false e = let le : n ≤ 2147483647 = grind (arith, nat_tests)
        in (omega (arith, ints), omega (arith, ints))
in_range (negsuc n) h = go (nat_lt 2147483647 n) refl
  where
    go : (b : Bool) → nat_lt 2147483647 n ≡ b → IsInRange (negsuc n)
    go true e = absurd
        (h (λ r. let lt : 2147483647 < n = grind (arith, nat_tests) in omega (arith, ints, r.0)))
    go false e = let le : n ≤ 2147483647 = grind (arith, nat_tests)
        in (omega (arith, ints), omega (arith, ints))

all_in_range : (text : List ℕ) → BreaksNoReadingRule text → (us vs : List Piece)
    → IsTokens Lambdas text (us ++ vs) → AreInRange Lambdas vs
all_in_range text u us [] r = tt
all_in_range text u us (x ∷ vs) r = (
  λ digits. in_range (written_number x.bytes) (λ outside. u 3 x.at (NumberRange x.at (record {
    before = us;
    here = x;
    begins = begins_at text (us ++ (x ∷ vs)) us x vs (length text) [] r refl;
    integer = digits;
    outside = outside;
  }))),
  all_in_range text u (us ++ x ∷ []) vs (subst (IsTokens Lambdas text) (sym (one_last us x vs)) r),
)

short_text : (text : List ℕ) → BreaksNoReadingRule text → length text ≤ 1048576
short_text text u = go (nat_lt 1048576 (length text)) refl
  where
    go : (b : Bool) → nat_lt 1048576 (length text) ≡ b → length text ≤ 1048576
    go true e = absurd (u 5 1048576 (TextTooLong (grind (arith, nat_tests))))
    go false e = grind (arith, nat_tests)

-- each token has a byte
fewer : {at end : ℕ} {bytes rest : List ℕ} {pieces : List Piece}
    → Reads Lambdas at bytes pieces end rest → at + length pieces ≤ end
fewer (Stops at rest) = omega arith
fewer (Passes at n bytes pieces end rest h r) = let f = fewer r in omega arith
fewer (Takes at n bytes k pieces end rest h r) = let f = fewer r in let g = longest_some bytes n k h
    in omega arith

few : (text : List ℕ) (pieces : List Piece) → length text ≤ 1048576 → IsTokens Lambdas text pieces
    → length pieces ≤ 1048576
few text pieces short r = let f = fewer r in let g = ends_at r in omega arith

pub text_readable : (text : List ℕ) (c : Program) → BreaksNoReadingRule text → IsSourceText text c
    → IsReadable c
text_readable text c u t =
    readable unlimited_nesting c t.pieces t.program (all_in_range text u [] t.pieces t.tokens)
    (few text t.pieces (short_text text u) t.tokens)
