-- Reading the declarations of Core one token after the other. A device of the proofs.
use Rattle.std.specs.Prelude.{ℕ, pos, false, List, [], ◌∷◌, ◌++◌, Result}
use Rattle.core_reader.specs.declared.syntax.NameId.{NameId}
use Rattle.core_reader.specs.declared.syntax.Binder.{Binder}
use Rattle.core_reader.specs.declared.syntax.Data as code-data
use Rattle.core_reader.specs.declared.syntax.Function as code-function
use Rattle.core_reader.specs.declared.token.Token.{Token}
use Rattle.core_reader.specs.declared.token.Token.TheVariants as word
use Rattle.core_reader.specs.declared.token.Lexeme.{Lexeme}
use Rattle.core_reader.specs.declared.refusal.ReadRefusal.{ReadRefusal}
use Rattle.core_reader.specs.declared.refusal.ReadRefusal.TheVariants.{NumberRange}
use Rattle.core_reader.specs.Tree.{Expr}
use Rattle.core_reader.specs.Tree as tree
use Rattle.core_reader.specs.Grammar.{NestingLimit, at_most_200, Decl, Declares, Defines, SpellsDecls}
use Rattle.core_reader.specs.ReadingOf.{Steps, Reading, run_of}
use Rattle.core_reader.specs.AroundOf as any
use Rattle.core_reader.specs.AroundOf.{next, enter, all, refuse, ExpressionContext, ContextState, Outside, Within, context_reading, steps}
use Rattle.core_reader.specs.Machine.{refused, Goes}

abbrev pub declared : NameId → ℕ → ℕ → Decl
declared n at fields = Declares (record { name = n.0; fields = fields; at = at })

abbrev pub function_declaration : NameId → ℕ → List Binder → Expr → Decl
function_declaration n at params body =
    Defines (record { name = n.0; at = at; params = params; body = body })

pub data Own : Type 0 where
  Top : List Decl → Own
  DataName : List Decl → Own
  Count : List Decl → NameId → ℕ → Own
  DataEnd : List Decl → NameId → ℕ → ℕ → Own
  Params : List Decl → NameId → ℕ → List Binder → Own

-- where the body of a function stands
pub data Hole : Type 0 where
  InFunction : List Decl → NameId → ℕ → List Binder → Hole

abbrev pub Move : Type 0
Move = any.Move Own Hole (List Decl)

abbrev pub move : Own → ℕ → Token → Move
move (Top ds) at word.Data = next (DataName ds)
move (Top ds) at (word.Name n) = next (Params ds n at [])
move (Top ds) at word.End = all ds
move (DataName ds) at (word.Con n) = next (Count ds n at)
move (Count ds n p) at (word.Number false (pos size)) = next (DataEnd ds n p size)
move (Count ds n p) at (word.Large false) = refuse (NumberRange at)
move (DataEnd ds n p fields) at word.Semicolon = next (Top (ds ++ declared n p fields ∷ []))
move (Params ds n p params) at (word.Name m) =
    next (Params ds n p (params ++ record { name = m; at = at } ∷ []))
move (Params ds n p params) at word.Equals = enter (InFunction ds n p params)
move o at token = refuse (refused at token)

abbrev pub finish : Hole → Expr → ℕ → Token → Move
finish (InFunction ds n p params) e at word.Semicolon =
    next (Top (ds ++ function_declaration n p params e ∷ []))
finish h e at token = refuse (refused at token)

abbrev pub declarations : ExpressionContext
declarations = record {
  Own = Own;
  Hole = Hole;
  Whole = List Decl;
  start = Top [];
  step = λ l o at token. move o at token;
  give = finish;
  Spells = SpellsDecls;
}

-- the reading of a text of Core
abbrev pub core : Reading
core = context_reading declarations

abbrev pub State : Type 0
State = ContextState Own Hole

abbrev pub top : List Decl → State
top ds = Outside (Top ds)

abbrev pub step : Steps State (List Decl)
step = steps declarations

abbrev pub run : NestingLimit → State → List Lexeme → Result (List Decl) ReadRefusal
run = run_of step

-- ---- what the parts of the reader do that read declarations

-- A count was read.
abbrev pub ReadsCount : List Lexeme → List Lexeme → Result ℕ ReadRefusal → Type 0
ReadsCount old new result =
    (ds : List Decl) (n : NameId) (p : ℕ)
    → Goes result (run at_most_200 (Outside (Count ds n p)) old) (λ size.
    run at_most_200 (Outside (DataEnd ds n p size)) new)

abbrev pub ReadsDecl : {X : Type 0} → (X → Decl) → List Lexeme → List Lexeme
    → Result X ReadRefusal → Type 0
ReadsDecl view old new result =
    (ds : List Decl)
    → Goes result (run at_most_200 (top ds) old) (λ x.
    run at_most_200 (top (ds ++ view x ∷ [])) new)

abbrev pub data_decl : code-data.Data → Decl
data_decl d = Declares (tree.data_of d)

abbrev pub function_decl : code-function.Function → Decl
function_decl f = Defines (tree.function f)
