-- Reading the tokens of a text of equations, one after the other. A device of the proofs: no public
-- clause speaks of it.
use Rattle.std.specs.Prelude.{◌≡◌, ℕ, suc, pos, false, List, [], ◌∷◌, ◌++◌, cond, map, Result, Ok, Err}
use Rattle.std.specs.Global.{Vec}
use Rattle.core_reader.specs.declared.syntax.NameId.{NameId}
use Rattle.core_reader.specs.declared.syntax.Binder.{Binder}
use Rattle.core_reader.specs.declared.syntax.Data as code-data
use Rattle.core_reader.specs.declared.token.Token.{Token}
use Rattle.core_reader.specs.declared.token.Token.TheVariants as word
use Rattle.core_reader.specs.declared.token.Lexeme.{Lexeme}
use Rattle.core_reader.specs.declared.refusal.ReadRefusal.{ReadRefusal}
use Rattle.core_reader.specs.declared.refusal.ReadRefusal.TheVariants.{NumberRange, TooDeep}
use Rattle.core_reader.specs.Tree.{Expr, data_of}
use Rattle.core_reader.specs.Grammar.{NestingLimit, at_most_200}
use Rattle.core_reader.specs.ReadingOf.{Steps, Reading, run_of}
use Rattle.core_reader.specs.AroundOf as any
use Rattle.core_reader.specs.AroundOf.{next, enter, all, refuse, ExpressionContext, ContextState, Outside, Within, context_reading, steps}
use Rattle.core_reader.specs.Machine.{refused, Goes, Fails}
use Rattle.match_compile.specs.declared.source.Pat as code-pat
use Rattle.match_compile.specs.declared.source.Equation as code-equation
use Rattle.match_compile.specs.declared.reader.Parts.{Parts}
use Rattle.match_compile.specs.Source.{Pat, Name, Int, Con, Pats, NoPats, AndPat}
use Rattle.match_compile.specs.SourceOf.{pat_of, pats_of, equation_of}
use Rattle.match_compile.specs.Grammar.{Decl, Declares, Equates, SpellsDecls, constructors_of, equations_of}

abbrev pub binder : NameId → ℕ → Binder
binder n at = record { name = n; at = at }

abbrev pub with_last : Pats → Pat → Pats
with_last NoPats q = AndPat q NoPats
with_last (AndPat p ps) q = AndPat p (with_last ps q)

infixr 20 ◌⊹◌
abbrev pub ◌⊹◌ : Pats → Pats → Pats
NoPats ⊹ qs = qs
(AndPat p ps) ⊹ qs = AndPat p (ps ⊹ qs)

-- What patterns stand in: an equation, or a constructor's bracket behind others.
pub data Place : Type 0 where
  InLine : Place
  InBracket : Place → Pats → Binder → Place

-- how many brackets are open there
abbrev pub opens : Place → ℕ
opens InLine = 0
opens (InBracket k before c) = suc (opens k)

-- the declarations before an equation, and its name
pub record EquationStart : Type 0 where
  pub decls : List Decl
  pub name : NameId
  pub at : ℕ

abbrev pub declared : NameId → ℕ → ℕ → Decl
declared n at fields = Declares (record { name = n.0; fields = fields; at = at })

abbrev pub equated : EquationStart → Pats → Expr → Decl
equated b pats body =
    Equates (record { name = b.name.0; at = b.at; pats = pats; body = body })

pub data Own : Type 0 where
  Top : List Decl → Own
  DataName : List Decl → Own
  Count : List Decl → NameId → ℕ → Own
  DataEnd : List Decl → NameId → ℕ → ℕ → Own
  Matching : EquationStart → Place → Pats → Own
  Opened : EquationStart → Place → Pats → Own

-- where the body of an equation stands
pub data Hole : Type 0 where
  InEquation : EquationStart → Pats → Hole

abbrev pub Transition : Type 0
Transition = any.Move Own Hole (List Decl)

abbrev pub move : NestingLimit → Own → ℕ → Token → Transition
move l (Top ds) at word.Data = next (DataName ds)
move l (Top ds) at (word.Name n) =
    next (Matching (record { decls = ds; name = n; at = at }) InLine NoPats)
move l (Top ds) at word.End = all ds
move l (DataName ds) at (word.Con n) = next (Count ds n at)
move l (Count ds n p) at (word.Number false (pos size)) = next (DataEnd ds n p size)
move l (Count ds n p) at (word.Large false) = refuse (NumberRange at)
move l (DataEnd ds n p fields) at word.Semicolon = next (Top (ds ++ declared n p fields ∷ []))
move l (Matching b k held) at (word.Name n) =
    next (Matching b k (with_last held (Name (binder n at))))
move l (Matching b k held) at (word.Con n) =
    next (Matching b k (with_last held (Con (binder n at) NoPats)))
move l (Matching b k held) at (word.Number minus v) =
    next (Matching b k (with_last held (Int v at)))
move l (Matching b k held) at (word.Large minus) = refuse (NumberRange at)
move l (Matching b k held) at word.Open =
    cond (l (opens k)) (next (Opened b k held)) (refuse (TooDeep at))
move l (Matching b (InBracket k before c) held) at word.Close =
    next (Matching b k (with_last before (Con c held)))
move l (Matching b InLine held) at word.Equals = enter (InEquation b held)
move l (Opened b k held) at (word.Con n) = next (Matching b (InBracket k held (binder n at)) NoPats)
move l o at token = refuse (refused at token)

abbrev pub finish : Hole → Expr → ℕ → Token → Transition
finish (InEquation b pats) e at word.Semicolon = next (Top (b.decls ++ equated b pats e ∷ []))
finish h e at token = refuse (refused at token)

abbrev pub equations : ExpressionContext
equations = record {
  Own = Own;
  Hole = Hole;
  Whole = List Decl;
  start = Top [];
  step = move;
  give = finish;
  Spells = SpellsDecls;
}

-- the reading of a text of equations
abbrev pub equation_reading : Reading
equation_reading = context_reading equations

abbrev pub State : Type 0
State = ContextState Own Hole

abbrev pub top : List Decl → State
top ds = Outside (Top ds)

abbrev pub step : Steps State (List Decl)
step = steps equations

abbrev pub run : State → List Lexeme → Result (List Decl) ReadRefusal
run = run_of (steps equations) at_most_200

-- ---- what each part of the reader does

abbrev pub ReadsCount : List Lexeme → List Lexeme → Result ℕ ReadRefusal → Type 0
ReadsCount old new result =
    (ds : List Decl) (n : NameId) (p : ℕ)
    → Goes result (run (Outside (Count ds n p)) old) (λ size.
    run (Outside (DataEnd ds n p size)) new)

abbrev pub ReadsDecl : {X : Type 0} → (X → Decl) → List Lexeme → List Lexeme
    → Result X ReadRefusal → Type 0
ReadsDecl view old new result =
    (ds : List Decl)
    → Goes result (run (top ds) old) (λ x. run (top (ds ++ view x ∷ [])) new)

abbrev pub data_decl : code-data.Data → Decl
data_decl d = Declares (data_of d)

abbrev pub equation_decl : code-equation.Equation → Decl
equation_decl e = Equates (equation_of e)

-- A pattern was read behind others, in whatever it stands.
abbrev pub ReadsPat : ℕ → List Lexeme → List Lexeme → Result code-pat.Pat ReadRefusal → Type 0
ReadsPat depth old new result =
    (b : EquationStart) (k : Place) (held : Pats) → opens k ≡ depth
    → Goes result (run (Outside (Matching b k held)) old) (λ p.
    run (Outside (Matching b k (with_last held (pat_of p)))) new)

abbrev pub ReadsPats : ℕ → List Lexeme → List Lexeme → Result (Vec code-pat.Pat) ReadRefusal
    → Type 0
ReadsPats depth old new result =
    (b : EquationStart) (k : Place) → opens k ≡ depth
    → Goes result (run (Outside (Matching b k NoPats)) old) (λ ps.
    run (Outside (Matching b k (pats_of (map pat_of ps.items)))) new)

abbrev pub ReadsSource : List Lexeme → Result Parts ReadRefusal → Type 0
ReadsSource text (Ok parts) =
    (ds : List Decl) × (constructors_of ds ≡ map data_of parts.constructors.items)
    × (equations_of ds ≡ map equation_of parts.equations.items)
    × (run (top []) text ≡ Ok ds)
ReadsSource text (Err e) = Fails e (run (top []) text)
