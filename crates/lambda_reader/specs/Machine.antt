-- Reading an expression one token after the other, with a stack of what is open. Lambdas and local
-- functions may stand in it or not. A device of the proofs: no clause of `read` speaks of it.
use Rattle.std.specs.Prelude.{ℕ, suc, Bool, List, [], ◌∷◌, ◌++◌, cond, Result, Ok, Err}
use Rattle.core_reader.specs.declared.syntax.NameId.{NameId}
use Rattle.core_reader.specs.declared.syntax.Binder.{Binder}
use Rattle.core_reader.specs.declared.syntax.Pattern.{Pattern}
use Rattle.core_reader.specs.declared.syntax.Pattern.TheVariants as pattern
use Rattle.core_reader.specs.declared.token.Token.{Token}
use Rattle.core_reader.specs.declared.token.Token.TheVariants as word
use Rattle.core_reader.specs.declared.token.Further.TheVariants.{Backslash}
use Rattle.core_reader.specs.declared.token.Lexeme.{Lexeme}
use Rattle.core_reader.specs.declared.refusal.ReadRefusal.{ReadRefusal}
use Rattle.core_reader.specs.declared.refusal.ReadRefusal.TheVariants.{BadByte, Syntax, NumberRange, TooDeep}
use Rattle.lambda_reader.specs.Tree.{Term, Terms, NoTerms, AndTerm, Group, NoBinds, AndValue, AndFunction, Expr, App, Let, Case, Alts, NoAlts, AndAlt}
use Rattle.lambda_reader.specs.Tree as tree
use Rattle.core_reader.specs.Grammar.{NestingLimit}
use Rattle.core_reader.specs.Machine.{refused}
use Rattle.core_reader.specs.ReadingOf as any
pub use Rattle.core_reader.specs.ReadingOf.{go, done, stop}

abbrev pub with_last : Terms → Term → Terms
with_last NoTerms b = AndTerm b NoTerms
with_last (AndTerm a xs) b = AndTerm a (with_last xs b)

infixr 20 ◌⊹◌
abbrev pub ◌⊹◌ : Alts → Alts → Alts
NoAlts ⊹ bs = bs
(AndAlt p e xs) ⊹ bs = AndAlt p e (xs ⊹ bs)

infixr 20 ◌⊕◌
abbrev pub ◌⊕◌ : Group → Group → Group
NoBinds ⊕ bs = bs
(AndValue b head args rest) ⊕ bs = AndValue b head args (rest ⊕ bs)
(AndFunction b params body rest) ⊕ bs = AndFunction b params body (rest ⊕ bs)

abbrev pub value : NameId → ℕ → Term → Terms → Group
value n at head args = AndValue (record { name = n; at = at }) head args NoBinds

abbrev pub local_function : NameId → ℕ → List Binder → Expr → Group
local_function n at params body = AndFunction (record { name = n; at = at }) params body NoBinds

mutual
  -- what an expression stands in
  pub data Cont : Type 0 where
    Outermost : Cont
    LetBody : Cont → Group → Cont
    Scrutinee : Cont → Cont
    AltBody : Cont → Expr → Alts → Pattern → Cont
    LambdaBody : Frame → Terms → ℕ → List Binder → Cont
    FunctionBody : Cont → Group → NameId → ℕ → List Binder → Cont

  -- what an application stands in
  pub data Frame : Type 0 where
    InBody : Cont → Frame
    InBind : Cont → Group → NameId → ℕ → Frame
    Inside : Frame → Terms → ℕ → Frame

-- how many constructs are open there
abbrev mutual
  pub nests : Cont → ℕ
  nests Outermost = 0
  nests (LetBody k binds) = suc (nests k)
  nests (Scrutinee k) = suc (nests k)
  nests (AltBody k e alts p) = suc (nests k)
  nests (LambdaBody k held at params) = suc (opens k)
  nests (FunctionBody k binds n at params) = suc (nests k)

  pub opens : Frame → ℕ
  opens (InBody k) = nests k
  opens (InBind k binds n at) = suc (nests k)
  opens (Inside k held at) = suc (opens k)

pub data State : Type 0 where
  Apply : Frame → Terms → State
  BindName : Cont → Group → State
  BindEquals : Cont → Group → NameId → ℕ → State
  FunctionNames : Cont → Group → NameId → ℕ → List Binder → State
  LambdaNames : Frame → Terms → ℕ → List Binder → State
  Ended : Cont → Expr → State
  Brace : Cont → Expr → State
  AltStart : Cont → Expr → Alts → State
  AltNames : Cont → Expr → Alts → NameId → ℕ → List Binder → State
  AltArrow : Cont → Expr → Alts → Pattern → State

abbrev pub Step : Type 0
Step = any.Step State Expr

-- An expression is whole, and the token stands after it. The outermost one leaves the token.
abbrev pub give : Cont → Expr → ℕ → Token → Step
give (LetBody k binds) e at token = give k (Let binds e) at token
give Outermost e at token = done e
give (Scrutinee k) e at word.Of = go (Brace k e)
give (AltBody k s alts p) e at word.Semicolon = go (AltStart k s (alts ⊹ AndAlt p e NoAlts))
give (AltBody k s alts p) e at word.CloseBrace = go (Ended k (Case s (alts ⊹ AndAlt p e NoAlts)))
give (LambdaBody k held p params) e at word.Close =
    go (Apply k (with_last held (tree.Lambda params e p)))
give (FunctionBody k binds n p params) e at word.Semicolon =
    go (BindName k (binds ⊕ local_function n p params e))
give (FunctionBody k binds n p params) e at word.In =
    go (Apply (InBody (LetBody k (binds ⊕ local_function n p params e))) NoTerms)
give k e at token = stop (refused at token)

-- whether lambdas and local functions may stand
module _ (lambdas : Bool) where
  abbrev pub step : NestingLimit → State → ℕ → Token → Step
  step l (Apply k held) at (word.Name n) = go (Apply k (with_last held (tree.Name n.0 at)))
  step l (Apply k held) at (word.Con n) = go (Apply k (with_last held (tree.Con n.0 at)))
  step l (Apply k held) at (word.Number minus v) = go (Apply k (with_last held (tree.Int v at)))
  step l (Apply k held) at (word.Large minus) = stop (NumberRange at)
  step l (Apply k held) at word.Open =
      cond (l (opens k)) (go (Apply (Inside k held at) NoTerms)) (stop (TooDeep at))
  step l (Apply (Inside k held p) NoTerms) at (word.Further Backslash) =
      cond lambdas (go (LambdaNames k held at [])) (stop (Syntax at))
  step l (Apply (Inside k held p) (AndTerm a xs)) at word.Close =
      go (Apply k (with_last held (tree.Bracket a xs p)))
  step l (Apply (InBind k binds n p) (AndTerm a xs)) at word.Semicolon =
      go (BindName k (binds ⊕ value n p a xs))
  step l (Apply (InBind k binds n p) (AndTerm a xs)) at word.In =
      go (Apply (InBody (LetBody k (binds ⊕ value n p a xs))) NoTerms)
  step l (Apply (InBody k) NoTerms) at word.Let =
      cond (l (nests k)) (go (BindName k NoBinds)) (stop (TooDeep at))
  step l (Apply (InBody k) NoTerms) at word.Case =
      cond (l (nests k)) (go (Apply (InBody (Scrutinee k)) NoTerms)) (stop (TooDeep at))
  step l (Apply (InBody k) (AndTerm a xs)) at token = give k (App a xs) at token
  step l (BindName k binds) at (word.Name n) = go (BindEquals k binds n at)
  step l (BindName k (AndValue b head args rest)) at word.In =
      go (Apply (InBody (LetBody k (AndValue b head args rest))) NoTerms)
  step l (BindName k (AndFunction b params body rest)) at word.In =
      go (Apply (InBody (LetBody k (AndFunction b params body rest))) NoTerms)
  step l (BindEquals k binds n p) at word.Equals = go (Apply (InBind k binds n p) NoTerms)
  step l (BindEquals k binds n p) at (word.Name m) =
      cond lambdas (go (FunctionNames k binds n p (record { name = m; at = at } ∷ [])))
      (stop (Syntax at))
  step l (FunctionNames k binds n p params) at (word.Name m) =
      go (FunctionNames k binds n p (params ++ record { name = m; at = at } ∷ []))
  step l (FunctionNames k binds n p params) at word.Equals =
      go (Apply (InBody (FunctionBody k binds n p params)) NoTerms)
  step l (LambdaNames k held p params) at (word.Name m) =
      go (LambdaNames k held p (params ++ record { name = m; at = at } ∷ []))
  step l (LambdaNames k held p (b ∷ params)) at word.Arrow =
      go (Apply (InBody (LambdaBody k held p (b ∷ params))) NoTerms)
  step l (Ended k e) at token = give k e at token
  step l (Brace k e) at word.OpenBrace = go (AltStart k e NoAlts)
  step l (AltStart k s alts) at (word.Con n) = go (AltNames k s alts n at [])
  step l (AltStart k s alts) at (word.Name n) =
      go (AltArrow k s alts (pattern.Default (record { name = n; at = at })))
  step l (AltStart k s alts) at (word.Number minus v) = go (AltArrow k s alts (pattern.Int v at))
  step l (AltStart k s alts) at (word.Large minus) = stop (NumberRange at)
  step l (AltStart k s (AndAlt p e alts)) at word.CloseBrace =
      go (Ended k (Case s (AndAlt p e alts)))
  step l (AltNames k s alts n p names) at (word.Name m) =
      go (AltNames k s alts n p (names ++ record { name = m; at = at } ∷ []))
  step l (AltNames k s alts n p names) at word.Arrow =
      go (Apply (InBody (AltBody k s alts
      (pattern.Con (record { name = n; at = p }) names))) NoTerms)
  step l (AltArrow k s alts p) at word.Arrow = go (Apply (InBody (AltBody k s alts p)) NoTerms)
  step l s at token = stop (refused at token)

-- an expression, and the tokens behind it
pub record ReadResult : Type 0 where
  pub expr : Expr
  pub rest : List Lexeme

abbrev pub follow : Step → List Lexeme → (State → Result ReadResult ReadRefusal)
    → Result ReadResult ReadRefusal
follow (go s) ts next = next s
follow (done e) ts next = Ok (record { expr = e; rest = ts })
follow (stop er) ts next = Err er

unfoldable pub run : Bool → NestingLimit → State → List Lexeme → Result ReadResult ReadRefusal
run lambdas l s [] = follow (step lambdas l s 0 word.Bad) [] (λ s. Err (BadByte 0))
run lambdas l s (t ∷ ts) =
    follow (step lambdas l s t.at t.token) (t ∷ ts) (λ s. run lambdas l s ts)
