-- Reading the tokens of a program with types, one after the other. A device of the proofs: no
-- public clause speaks of it.
use Rattle.std.specs.Prelude.{◌≡◌, ℕ, suc, Bool, true, false, cond, List, [], ◌∷◌, ◌++◌, map, Result, Ok, Err}
use Rattle.std.specs.Global.{Vec}
use Rattle.core_reader.specs.declared.syntax.NameId.{NameId}
use Rattle.core_reader.specs.declared.syntax.Binder.{Binder}
use Rattle.core_reader.specs.declared.syntax.Function as code-function
use Rattle.core_reader.specs.declared.token.Token.{Token}
use Rattle.core_reader.specs.declared.token.Token.TheVariants as word
use Rattle.core_reader.specs.declared.token.Further.TheVariants as further
use Rattle.core_reader.specs.declared.token.Lexeme.{Lexeme}
use Rattle.core_reader.specs.declared.refusal.ReadRefusal.{ReadRefusal}
use Rattle.core_reader.specs.declared.refusal.ReadRefusal.TheVariants.{TooDeep}
use Rattle.core_reader.specs.Tree.{Expr, function}
use Rattle.core_reader.specs.Grammar.{NestingLimit, at_most_200}
use Rattle.core_reader.specs.ReadingOf.{Reading, Steps, run_of}
use Rattle.core_reader.specs.AroundOf as any
use Rattle.core_reader.specs.AroundOf.{next, enter, all, refuse, ExpressionContext, ContextState, Outside, context_reading, steps}
use Rattle.core_reader.specs.Machine.{refused, Goes, Fails}
use Rattle.core_types.specs.declared.source.Written as code-written
use Rattle.core_types.specs.declared.source.Constructor as code-constructor
use Rattle.core_types.specs.declared.source.TypeDecl as code-type
use Rattle.core_types.specs.declared.source.Signature as code-signature
use Rattle.core_types.specs.declared.reader.Declarations.{Declarations}
use Rattle.core_types.specs.Source.{Written, WrittenTypes, Var, Named, Arrow, NoTypes, AndType, TypeDecl}
use Rattle.core_types.specs.SourceOf.{written, types_in, constructor_of, type_of, signature_of}
use Rattle.core_types.specs.Grammar.{Decl, Declares, Signs, Defines, SpellsDecls, types_of, signatures_of, functions_of}

abbrev pub binder : NameId → ℕ → Binder
binder n at = record { name = n; at = at }

abbrev pub with_last : WrittenTypes → Written → WrittenTypes
with_last NoTypes u = AndType u NoTypes
with_last (AndType t ts) u = AndType t (with_last ts u)

abbrev pub empty_type_decl : Binder → List Binder → TypeDecl
empty_type_decl b params = record { name = b; params = params; constructors = [] }

-- one more constructor
abbrev pub with_new_constructor : TypeDecl → Binder → WrittenTypes → TypeDecl
with_new_constructor d c ts = record {
  name = d.name;
  params = d.params;
  constructors = d.constructors ++ record { name = c; fields = ts } ∷ [];
}

abbrev pub signed : Binder → WrittenTypes → Written → Decl
signed f ts t = Signs (record { function = f; args = ts; result = t })

abbrev pub function_declaration : Binder → List Binder → Expr → Decl
function_declaration f params body =
    Defines (record { name = f.name.0; at = f.at; params = params; body = body })

-- Where a type of one piece stands: among the fields of a constructor, among the types of a
-- signature, among the arguments of a type in brackets, behind an arrow there, or first there.
pub data Frame : Type 0 where
  InFields : List Decl → TypeDecl → Binder → WrittenTypes → Frame
  InParts : List Decl → Binder → WrittenTypes → Frame
  InArguments : Frame → Binder → WrittenTypes → Frame
  InResult : Frame → Written → Frame
  InBrackets : Frame → Frame

-- how many brackets are open there
abbrev pub nests : Frame → ℕ
nests (InFields ds d c ts) = 0
nests (InParts ds f ts) = 0
nests (InArguments k b ts) = suc (nests k)
nests (InResult k t) = suc (nests k)
nests (InBrackets k) = suc (nests k)

pub data Own : Type 0 where
  Top : List Decl → Own
  TypeName : List Decl → Own
  TypeParams : List Decl → Binder → List Binder → Own
  ConName : List Decl → TypeDecl → Own
  Fields : List Decl → TypeDecl → Binder → WrittenTypes → Own
  SigName : List Decl → Own
  SigColon : List Decl → Binder → Own
  SigBehind : List Decl → Binder → WrittenTypes → Written → Own
  Params : List Decl → Binder → List Binder → Own
  OneType : Frame → Own
  Opened : Frame → Own
  Arguments : Frame → Binder → WrittenTypes → Own
  Behind : Frame → Written → Own
  Closing : Frame → Written → Own

-- where the body of a function stands
pub data Hole : Type 0 where
  InFunction : List Decl → Binder → List Binder → Hole

abbrev pub Transition : Type 0
Transition = any.Move Own Hole (List Decl)

-- A type of one piece was read.
abbrev pub given : Frame → Written → Own
given (InFields ds d c ts) t = Fields ds d c (with_last ts t)
given (InParts ds f ts) t = SigBehind ds f ts t
given (InArguments k b ts) t = Arguments k b (with_last ts t)
given (InResult k u) t = Closing k (Arrow u t)
given (InBrackets k) t = Behind k t

abbrev pub begin : NestingLimit → Frame → ℕ → Token → Transition
begin l k at (word.Name n) = next (given k (Var (binder n at)))
begin l k at (word.Con n) = next (given k (Named (binder n at) NoTypes))
begin l k at word.Open = cond (l (nests k)) (next (Opened k)) (refuse (TooDeep at))
begin l k at token = refuse (refused at token)

-- An arrow behind a type without arguments, in brackets.
abbrev pub arrow_behind : Frame → Binder → WrittenTypes → ℕ → Transition
arrow_behind k b NoTypes at = next (OneType (InResult k (Named b NoTypes)))
arrow_behind k b (AndType t ts) at = refuse (refused at word.Arrow)

abbrev pub move : NestingLimit → Own → ℕ → Token → Transition
move l (Top ds) at (word.Further further.TypeDecl) = next (TypeName ds)
move l (Top ds) at (word.Further further.Signature) = next (SigName ds)
move l (Top ds) at (word.Name n) = next (Params ds (binder n at) [])
move l (Top ds) at word.End = all ds
move l (TypeName ds) at (word.Con n) = next (TypeParams ds (binder n at) [])
move l (TypeParams ds b ps) at (word.Name n) = next (TypeParams ds b (ps ++ binder n at ∷ []))
move l (TypeParams ds b ps) at word.Equals = next (ConName ds (empty_type_decl b ps))
move l (ConName ds d) at (word.Con n) = next (Fields ds d (binder n at) NoTypes)
move l (Fields ds d c ts) at (word.Further further.Bar) =
    next (ConName ds (with_new_constructor d c ts))
move l (Fields ds d c ts) at word.Semicolon =
    next (Top (ds ++ Declares (with_new_constructor d c ts) ∷ []))
move l (Fields ds d c ts) at token = begin l (InFields ds d c ts) at token
move l (SigName ds) at (word.Name n) = next (SigColon ds (binder n at))
move l (SigColon ds f) at (word.Further further.Colon) = next (OneType (InParts ds f NoTypes))
move l (SigBehind ds f ts t) at word.Arrow = next (OneType (InParts ds f (with_last ts t)))
move l (SigBehind ds f ts t) at word.Semicolon = next (Top (ds ++ signed f ts t ∷ []))
move l (Params ds f ps) at (word.Name n) = next (Params ds f (ps ++ binder n at ∷ []))
move l (Params ds f ps) at word.Equals = enter (InFunction ds f ps)
move l (OneType k) at token = begin l k at token
move l (Opened k) at (word.Con n) = next (Arguments k (binder n at) NoTypes)
move l (Opened k) at token = begin l (InBrackets k) at token
move l (Arguments k b ts) at word.Close = next (given k (Named b ts))
move l (Arguments k b ts) at word.Arrow = arrow_behind k b ts at
move l (Arguments k b ts) at token = begin l (InArguments k b ts) at token
move l (Behind k t) at word.Close = next (given k t)
move l (Behind k t) at word.Arrow = next (OneType (InResult k t))
move l (Closing k t) at word.Close = next (given k t)
move l o at token = refuse (refused at token)

abbrev pub finish : Hole → Expr → ℕ → Token → Transition
finish (InFunction ds f ps) e at word.Semicolon =
    next (Top (ds ++ function_declaration f ps e ∷ []))
finish h e at token = refuse (refused at token)

abbrev pub declarations : ExpressionContext
declarations = record {
  Own = Own;
  Hole = Hole;
  Whole = List Decl;
  start = Top [];
  step = move;
  give = finish;
  Spells = SpellsDecls;
}

-- the reading of a text of a program with types
abbrev pub types : Reading
types = context_reading declarations

abbrev pub State : Type 0
State = ContextState Own Hole

abbrev pub step : Steps State (List Decl)
step = steps declarations

abbrev pub run : State → List Lexeme → Result (List Decl) ReadRefusal
run = run_of step at_most_200

abbrev pub at : Own → List Lexeme → Result (List Decl) ReadRefusal
at o ts = run (Outside o) ts

-- ---- what each part of the reader does

abbrev pub ReadsType : ℕ → List Lexeme → List Lexeme → Result code-written.Written ReadRefusal
    → Type 0
ReadsType depth old new result =
    (k : Frame) → nests k ≡ depth
    → Goes result (at (OneType k) old) (λ t. at (given k (written t)) new)

-- whether a type of one piece begins with a token
abbrev pub starts_type : Token → Bool
starts_type (word.Name n) = true
starts_type (word.Con n) = true
starts_type word.Open = true
starts_type token = false

-- A state that keeps types takes one more, in a frame, where one begins.
pub record CollectsTypes (state : WrittenTypes → Own) (frame : WrittenTypes → Frame) : Type 0 where
  pub keeps : (ts : WrittenTypes) (t : Written) → given (frame ts) t ≡ state (with_last ts t)
  pub begins : (ts : WrittenTypes) (p : ℕ) (token : Token) → starts_type token ≡ true
      → move at_most_200 (state ts) p token ≡ move at_most_200 (OneType (frame ts)) p token
  pub bad : (ts : WrittenTypes) (p : ℕ)
      → move at_most_200 (state ts) p word.Bad ≡ refuse (refused p word.Bad)

-- Types were read, one after the other, by whatever keeps them.
abbrev pub ReadsTypes : ℕ → List Lexeme → List Lexeme
    → Result (List code-written.Written) ReadRefusal → Type 0
ReadsTypes depth old new result =
    (state : WrittenTypes → Own) (frame : WrittenTypes → Frame) → CollectsTypes state frame
    → ((ts : WrittenTypes) → nests (frame ts) ≡ depth)
    → Goes result (at (state NoTypes) old) (λ ts. at (state (types_in ts)) new)

-- A type in brackets was read, of which this state is behind the `(` or further.
abbrev pub ReadsBracketedType : (Frame → Own) → ℕ → List Lexeme → List Lexeme
    → Result code-written.Written ReadRefusal → Type 0
ReadsBracketedType state depth old new result =
    (k : Frame) → suc (nests k) ≡ depth
    → Goes result (at (state k) old) (λ t. at (given k (written t)) new)

abbrev pub ReadsConstructor : List Lexeme → List Lexeme
    → Result code-constructor.Constructor ReadRefusal → Type 0
ReadsConstructor old new result =
    (ds : List Decl) (d : TypeDecl)
    → Goes result (at (ConName ds d) old) (λ c.
    at (Fields ds d c.name (types_in c.fields)) new)

abbrev pub ReadsConstructors : List Lexeme → List Lexeme
    → Result (Vec code-constructor.Constructor) ReadRefusal → Type 0
ReadsConstructors old new result =
    (ds : List Decl) (b : Binder) (ps : List Binder)
    → Goes result (at (ConName ds (empty_type_decl b ps)) old) (λ cs.
    at (Top (ds ++ Declares (record {
      name = b;
      params = ps;
      constructors = map constructor_of cs.items;
    }) ∷ [])) new)

-- The rest of a signature was read, behind its `:`.
abbrev pub ReadsSignatureRest : Binder → List Lexeme → List Lexeme
    → Result code-signature.Signature ReadRefusal → Type 0
ReadsSignatureRest f old new result =
    (ds : List Decl)
    → Goes result (at (OneType (InParts ds f NoTypes)) old) (λ s.
    at (Top (ds ++ Signs (signature_of s) ∷ [])) new)

-- A declaration was read.
abbrev pub ReadsDecl : {X : Type 0} → (X → Decl) → List Lexeme → List Lexeme
    → Result X ReadRefusal → Type 0
ReadsDecl view old new result =
    (ds : List Decl)
    → Goes result (at (Top ds) old) (λ x. at (Top (ds ++ view x ∷ [])) new)

abbrev pub type_decl : code-type.TypeDecl → Decl
type_decl t = Declares (type_of t)

abbrev pub signature_decl : code-signature.Signature → Decl
signature_decl s = Signs (signature_of s)

abbrev pub function_decl : code-function.Function → Decl
function_decl f = Defines (function f)

-- All declarations were read.
abbrev pub ReadsSource : List Lexeme → Result Declarations ReadRefusal → Type 0
ReadsSource text (Ok found) =
    (ds : List Decl) × (types_of ds ≡ map type_of found.types.items)
    × (signatures_of ds ≡ map signature_of found.signatures.items)
    × (functions_of ds ≡ map function found.functions.items)
    × (at (Top []) text ≡ Ok ds)
ReadsSource text (Err e) = Fails e (at (Top []) text)
