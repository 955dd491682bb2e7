-- In readable equations each name is a place in the table of names.
use Rattle.std.proofs.Common.{ℕ, ◌<◌, List, [], ◌∷◌, length}
use Rattle.std.specs.Prelude.{All}
use Rattle.std.proofs.lemmas.List.Elements.{All-head, All-tail}
use Rattle.seq.specs.Lists.{AllOf, In, here, there}
use Rattle.seq.proofs.Lists.{get_within, all_append}
use Rattle.seq.proofs.Member.{none_in}
use Rattle.core_reader.specs.declared.syntax.Binder.{Binder}
use Rattle.core_reader.specs.declared.syntax.Pattern.{Pattern}
use Rattle.core_reader.specs.declared.syntax.Pattern.TheVariants as pattern
use Rattle.core_reader.specs.Tree.{Term, Terms, NoTerms, AndTerm, Bind, Expr, App, Let, Case, Alts, NoAlts, AndAlt, Data}
use Rattle.core_reader.specs.Tree as core
use Rattle.core_reader.specs.Readable.{IsTextAt, IsNamed, IsBound, ReadableTerm, ReadableTerms, ReadableBind, ReadablePattern, ReadableExpr, ReadableAlts, ReadableData}
use Rattle.arity_check.specs.Pieces.{binders_of, bound_by}
use Rattle.match_compile.specs.Source.{Pat, Name, Int, Con, Pats, NoPats, AndPat, Equation, Source}
use Rattle.match_compile.specs.Parts.{names_in, names_of}
use Rattle.match_compile.specs.Readable.{ReadablePat, ReadablePats, ReadableEquation, IsReadable}
use Rattle.match_compile.proofs.AlikeFlats.{FitsTerm, FitsTerms}
use Rattle.match_compile.proofs.AlikeTerms.{BinderFits, AppFits, FitsExpr, FitsAlts}
use Rattle.match_compile.proofs.Placed.{WasRead}

-- ---- names of patterns

module _ (names : List (List ℕ)) where
  mutual
    pat_bound : (p : Pat) → ReadablePat names p → AllOf (IsBound names) (names_in p)
    pat_bound (Name b) h = (h, tt)
    pat_bound (Int k at) h = tt
    pat_bound (Con c ps) h = pats_bound ps h.1

    pats_bound : (ps : Pats) → ReadablePats names ps → AllOf (IsBound names) (names_of ps)
    pats_bound NoPats h = tt
    pats_bound (AndPat p ps) h = all_append (IsBound names) (names_in p) (names_of ps)
        (pat_bound p h.0) (pats_bound ps h.1)

one_of : {X : Type 0} (P : X → Type 0) (xs : List X) → AllOf P xs → (x : X) → In x xs → P x
one_of P [] h x i = none_in i
one_of P (y ∷ ys) h x here = h.0
one_of P (y ∷ ys) h x (there i) = one_of P ys h.1 x i

pub was_read : (c : Source) → IsReadable c → WasRead c
was_read c read =
    let of : (e : Equation) → In e c.equations → ReadableEquation c.names e
    = one_of (ReadableEquation c.names) c.equations read.equations in
    record {
      names = λ e i. (of e i).0;
      patterns = λ e i b j. one_of (IsBound c.names) (names_of e.pats)
          (pats_bound c.names e.pats (of e i).1) b j;
      bodies = λ e i. (of e i).2;
    }

-- ---- numbers below that of the names

module _ (names : List (List ℕ)) where
  abbrev N : ℕ
  N = length names

  text_below : (Kind : List ℕ → Type 0) (n : ℕ) → IsTextAt names Kind n → n < N
  text_below Kind n h = get_within names n h.0 h.1

  named_below : (n : ℕ) → IsNamed names n → n < N
  named_below n h = get_within names n h.0 h.1

  all_below : (bs : List Binder) → All (IsBound names) bs → AllOf (BinderFits N) bs
  all_below [] h = tt
  all_below (b ∷ bs) h = (
    named_below b.name.0 (All-head (IsBound names) b bs h),
    all_below bs (All-tail (IsBound names) b bs h),
  )

  each_below : (bs : List Binder) → AllOf (IsBound names) bs → AllOf (BinderFits N) bs
  each_below [] h = tt
  each_below (b ∷ bs) h = (named_below b.name.0 h.0, each_below bs h.1)

  pattern_below : (p : Pattern) → ReadablePattern names p → AllOf (BinderFits N) (bound_by p)
  pattern_below (pattern.Con c fields) h = all_below fields h.1
  pattern_below (pattern.Int v at) h = tt
  pattern_below (pattern.Default x) h = (named_below x.name.0 h, tt)

  mutual
    term_below : (a : Term) → ReadableTerm names a → FitsTerm N a
    term_below (core.Name n at) h = named_below n h
    term_below (core.Con n at) h = tt
    term_below (core.Int i at) h = tt
    term_below (core.Bracket a xs at) h = (term_below a h.0, terms_below xs h.1)

    terms_below : (xs : Terms) → ReadableTerms names xs → FitsTerms N xs
    terms_below NoTerms h = tt
    terms_below (AndTerm a xs) h = (term_below a h.0, terms_below xs h.1)

  binds_below : (group : List Bind) → All (ReadableBind names) group
      → AllOf (BinderFits N) (binders_of group) × AllOf (λ (b : Bind). AppFits N b.app) group
  binds_below [] h = (tt, tt)
  binds_below (b ∷ bs) h =
      let one : ReadableBind names b = All-head (ReadableBind names) b bs h in
      let more = binds_below bs (All-tail (ReadableBind names) b bs h) in (
        (named_below b.binder.name.0 one.0, more.0),
        (terms_below (AndTerm b.app.head b.app.args) one.1, more.1),
      )

  mutual
    expr_below : (e : Expr) → ReadableExpr names e → FitsExpr N e
    expr_below (App a) h = terms_below (AndTerm a.head a.args) h
    expr_below (Let group e) h = let g = binds_below group h.1 in (g.0, (g.1, expr_below e h.2))
    expr_below (Case e alts) h = (expr_below e h.1, alts_below alts h.2)

    alts_below : (xs : Alts) → ReadableAlts names xs → FitsAlts N xs
    alts_below NoAlts h = tt
    alts_below (AndAlt p e xs) h = (pattern_below p h.0, (expr_below e h.1, alts_below xs h.2))

-- ---- equations

pub record EquationFits (N : ℕ) (e : Equation) : Type 0 where
  pub name : e.name < N
  pub pats : AllOf (BinderFits N) (names_of e.pats)
  pub body : FitsExpr N e.body

all_fit : (names : List (List ℕ)) (es : List Equation) → AllOf (ReadableEquation names) es
    → AllOf (EquationFits (length names)) es
all_fit names [] h = tt
all_fit names (e ∷ es) h = (
  record {
    name = named_below names e.name h.0.0;
    pats
        = each_below names (names_of e.pats) (pats_bound names e.pats h.0.1);
    body
        = expr_below names e.body h.0.2;
  },
  all_fit names es h.1,
)

pub equations_fit : (c : Source) → IsReadable c → AllOf (EquationFits (length c.names)) c.equations
equations_fit c read = all_fit c.names c.equations read.equations

declared_below : (names : List (List ℕ)) (ds : List Data) → All (ReadableData names) ds
    → AllOf (λ (d : Data). d.name < length names) ds
declared_below names [] h = tt
declared_below names (d ∷ ds) h = (
  text_below names _ d.name (All-head (ReadableData names) d ds h).0,
  declared_below names ds (All-tail (ReadableData names) d ds h),
)

-- the names of its constructors are below the number of names too
pub constructors_fit : (c : Source) → IsReadable c → AllOf (λ (d : Data). d.name < length c.names)
    c.constructors
constructors_fit c read = declared_below c.names c.constructors read.constructors
