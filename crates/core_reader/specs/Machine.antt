-- Reading an expression one token after the other, with a stack of what is open. A device of the
-- proofs: no clause of `read` speaks of it.
use Rattle.std.specs.Prelude.{◌≡◌, ℕ, suc, Bool, true, false, List, [], ◌∷◌, ◌++◌, cond, map, Result, Ok, Err}
use Rattle.std.specs.Global.{Vec}
use Rattle.core_reader.specs.declared.syntax.NameId.{NameId}
use Rattle.core_reader.specs.declared.syntax.Binder.{Binder}
use Rattle.core_reader.specs.declared.syntax.Pattern.{Pattern}
use Rattle.core_reader.specs.declared.syntax.Pattern.TheVariants as pattern
use Rattle.core_reader.specs.declared.syntax.Atom.{Atom}
use Rattle.core_reader.specs.declared.syntax.App as app
use Rattle.core_reader.specs.declared.syntax.Bind as bind
use Rattle.core_reader.specs.declared.syntax.Expr as expr
use Rattle.core_reader.specs.declared.syntax.Alt as alternative
use Rattle.core_reader.specs.declared.token.Token.{Token}
use Rattle.core_reader.specs.declared.token.Token.TheVariants as word
use Rattle.core_reader.specs.declared.token.Lexeme.{Lexeme}
use Rattle.core_reader.specs.declared.refusal.ReadRefusal.{ReadRefusal}
use Rattle.core_reader.specs.declared.refusal.ReadRefusal.TheVariants.{BadByte, Syntax, NumberRange, TooDeep, TextTooLong, Memory}
use Rattle.core_reader.specs.Tree.{Term, Terms, NoTerms, AndTerm, Application, Bind, Expr, App, Let, Case, Alts, NoAlts, AndAlt, Data, Function, terms_of, alts_of}
use Rattle.core_reader.specs.Tree as tree
use Rattle.core_reader.specs.Grammar.{NestingLimit, at_most_200, binders}
use Rattle.core_reader.specs.ReadingOf as any
pub use Rattle.core_reader.specs.ReadingOf.{go, done, stop}

abbrev pub with_last : Terms → Term → Terms
with_last NoTerms b = AndTerm b NoTerms
with_last (AndTerm a xs) b = AndTerm a (with_last xs b)

infixr 20 ◌⊹◌
abbrev pub ◌⊹◌ : Alts → Alts → Alts
NoAlts ⊹ bs = bs
(AndAlt p e xs) ⊹ bs = AndAlt p e (xs ⊹ bs)

abbrev pub binding : NameId → ℕ → Term → Terms → Bind
binding n at head args =
    record { binder = record { name = n; at = at }; app = record { head = head; args = args } }

abbrev pub applied : Term → Terms → Expr
applied head args = App (record { head = head; args = args })

-- what an expression stands in
pub data Cont : Type 0 where
  Outermost : Cont
  LetBody : Cont → List Bind → Cont
  Scrutinee : Cont → Cont
  AltBody : Cont → Expr → Alts → Pattern → Cont

-- what an application stands in
pub data Frame : Type 0 where
  InBody : Cont → Frame
  InBind : Cont → List Bind → NameId → ℕ → Frame
  Inside : Frame → Terms → ℕ → Frame

-- how many constructs are open there
abbrev pub nests : Cont → ℕ
nests Outermost = 0
nests (LetBody k binds) = suc (nests k)
nests (Scrutinee k) = suc (nests k)
nests (AltBody k e alts p) = suc (nests k)

abbrev pub opens : Frame → ℕ
opens (InBody k) = nests k
opens (InBind k binds n at) = suc (nests k)
opens (Inside k held at) = suc (opens k)

pub data State : Type 0 where
  Apply : Frame → Terms → State
  BindName : Cont → List Bind → State
  BindEquals : Cont → List Bind → NameId → ℕ → State
  Ended : Cont → Expr → State
  Brace : Cont → Expr → State
  AltStart : Cont → Expr → Alts → State
  AltNames : Cont → Expr → Alts → NameId → ℕ → List Binder → State
  AltArrow : Cont → Expr → Alts → Pattern → State

abbrev pub Step : Type 0
Step = any.Step State Expr

abbrev pub refused : ℕ → Token → ReadRefusal
refused at word.Bad = BadByte at
refused at token = Syntax at

-- An expression is whole, and the token stands after it. The outermost one leaves the token.
abbrev pub give : Cont → Expr → ℕ → Token → Step
give (LetBody k binds) e at token = give k (Let binds e) at token
give Outermost e at token = done e
give (Scrutinee k) e at word.Of = go (Brace k e)
give (AltBody k s alts p) e at word.Semicolon = go (AltStart k s (alts ⊹ AndAlt p e NoAlts))
give (AltBody k s alts p) e at word.CloseBrace = go (Ended k (Case s (alts ⊹ AndAlt p e NoAlts)))
give k e at token = stop (refused at token)

abbrev pub step : NestingLimit → State → ℕ → Token → Step
step l (Apply k held) at (word.Name n) = go (Apply k (with_last held (tree.Name n.0 at)))
step l (Apply k held) at (word.Con n) = go (Apply k (with_last held (tree.Con n.0 at)))
step l (Apply k held) at (word.Number minus v) = go (Apply k (with_last held (tree.Int v at)))
step l (Apply k held) at (word.Large minus) = stop (NumberRange at)
step l (Apply k held) at word.Open =
    cond (l (opens k)) (go (Apply (Inside k held at) NoTerms)) (stop (TooDeep at))
step l (Apply (Inside k held p) (AndTerm a xs)) at word.Close =
    go (Apply k (with_last held (tree.Bracket a xs p)))
step l (Apply (InBind k binds n p) (AndTerm a xs)) at word.Semicolon =
    go (BindName k (binds ++ binding n p a xs ∷ []))
step l (Apply (InBind k binds n p) (AndTerm a xs)) at word.In =
    go (Apply (InBody (LetBody k (binds ++ binding n p a xs ∷ []))) NoTerms)
step l (Apply (InBody k) NoTerms) at word.Let =
    cond (l (nests k)) (go (BindName k [])) (stop (TooDeep at))
step l (Apply (InBody k) NoTerms) at word.Case =
    cond (l (nests k)) (go (Apply (InBody (Scrutinee k)) NoTerms)) (stop (TooDeep at))
step l (Apply (InBody k) (AndTerm a xs)) at token = give k (applied a xs) at token
step l (BindName k binds) at (word.Name n) = go (BindEquals k binds n at)
step l (BindName k (b ∷ binds)) at word.In = go (Apply (InBody (LetBody k (b ∷ binds))) NoTerms)
step l (BindEquals k binds n p) at word.Equals = go (Apply (InBind k binds n p) NoTerms)
step l (Ended k e) at token = give k e at token
step l (Brace k e) at word.OpenBrace = go (AltStart k e NoAlts)
step l (AltStart k s alts) at (word.Con n) = go (AltNames k s alts n at [])
step l (AltStart k s alts) at (word.Name n) =
    go (AltArrow k s alts (pattern.Default (record { name = n; at = at })))
step l (AltStart k s alts) at (word.Number minus v) = go (AltArrow k s alts (pattern.Int v at))
step l (AltStart k s alts) at (word.Large minus) = stop (NumberRange at)
step l (AltStart k s (AndAlt p e alts)) at word.CloseBrace = go (Ended k (Case s (AndAlt p e alts)))
step l (AltNames k s alts n p names) at (word.Name m) =
    go (AltNames k s alts n p (names ++ record { name = m; at = at } ∷ []))
step l (AltNames k s alts n p names) at word.Arrow =
    go (Apply (InBody (AltBody k s alts (pattern.Con (record { name = n; at = p }) names))) NoTerms)
step l (AltArrow k s alts p) at word.Arrow = go (Apply (InBody (AltBody k s alts p)) NoTerms)
step l s at token = stop (refused at token)

-- an expression, and the tokens behind it
pub record Found : Type 0 where
  pub expr : Expr
  pub rest : List Lexeme

abbrev pub follow : Step → List Lexeme → (State → Result Found ReadRefusal)
    → Result Found ReadRefusal
follow (go s) ts next = next s
follow (done e) ts next = Ok (record { expr = e; rest = ts })
follow (stop er) ts next = Err er

unfoldable pub run : NestingLimit → State → List Lexeme → Result Found ReadRefusal
run l s [] = follow (step l s 0 word.Bad) [] (λ s. Err (BadByte 0))
run l s (t ∷ ts) = follow (step l s t.at t.token) (t ∷ ts) (λ s. run l s ts)

-- the token that stands next, and what stands behind it
abbrev pub front : List Lexeme → Lexeme
front [] = record { at = 0; token = word.Bad }
front (t ∷ ts) = t

abbrev pub behind : List Lexeme → List Lexeme
behind [] = []
behind (t ∷ ts) = ts

abbrev pub starts_atom : Token → Bool
starts_atom (word.Name n) = true
starts_atom (word.Con n) = true
starts_atom (word.Number minus size) = true
starts_atom (word.Large minus) = true
starts_atom word.Open = true
starts_atom token = false

abbrev pub is_name : Token → Bool
is_name (word.Name n) = true
is_name token = false

abbrev pub refusal : Lexeme → ReadRefusal
refusal x = refused x.at x.token

-- A reading goes on as f says where the result is Ok, and has the refusal otherwise, unless memory
-- ran out.
abbrev pub Fails : {Y : Type 0} → ReadRefusal → Result Y ReadRefusal → Type 0
Fails (BadByte at) read = read ≡ Err (BadByte at)
Fails (Syntax at) read = read ≡ Err (Syntax at)
Fails (NumberRange at) read = read ≡ Err (NumberRange at)
Fails (TooDeep at) read = read ≡ Err (TooDeep at)
Fails TextTooLong read = read ≡ Err TextTooLong
Fails (Memory e) read = Unit {0}

abbrev pub IsMemory : ReadRefusal → Type 0
IsMemory (Memory e) = Unit {0}
IsMemory e = ⊥

abbrev pub Goes : {X Y : Type 0} → Result X ReadRefusal → Result Y ReadRefusal
    → (X → Result Y ReadRefusal) → Type 0
Goes (Ok x) read on = read ≡ on x
Goes (Err e) read on = Fails e read

-- ---- what each part of the reader does, in every frame that it may stand in

-- the arguments that were read so far, and an application as a list with its head
abbrev pub terms : List Atom → Terms
terms xs = terms_of (map tree.term xs)

abbrev pub whole : app.App → Terms
whole a = AndTerm (tree.application a).head (tree.application a).args

abbrev pub binds_of : List bind.Bind → List Bind
binds_of bs = map tree.bind bs

abbrev pub alternatives : List alternative.Alt → Alts
alternatives xs = alts_of (map tree.alternative xs)

abbrev pub ReadsAtom : ℕ → List Lexeme → List Lexeme → Result Atom ReadRefusal → Type 0
ReadsAtom depth old new result =
    (k : Frame) (held : Terms) → opens k ≡ depth
    → Goes result (run at_most_200 (Apply k held) old) (λ a.
    run at_most_200 (Apply k (with_last held (tree.term a))) new)

abbrev pub ReadsApp : ℕ → List Lexeme → List Lexeme → Result app.App ReadRefusal → Type 0
ReadsApp depth old new result =
    (k : Frame) → opens k ≡ depth
    → Goes result (run at_most_200 (Apply k NoTerms) old) (λ a.
    run at_most_200 (Apply k (whole a)) new)

-- The same in a binding.
abbrev pub ReadsHeaded : ℕ → List Lexeme → List Lexeme → Result app.App ReadRefusal → Type 0
ReadsHeaded depth old new result =
    (k : Cont) (bs : List Bind) (n : NameId) (p : ℕ) → suc (nests k) ≡ depth
    → Goes result (run at_most_200 (Apply (InBind k bs n p) NoTerms) old) (λ a.
    run at_most_200 (Apply (InBind k bs n p) (whole a)) new)

abbrev pub ReadsBind : ℕ → List Lexeme → List Lexeme → Result bind.Bind ReadRefusal → Type 0
ReadsBind depth old new result =
    (k : Cont) (bs : List Bind) → suc (nests k) ≡ depth
    → Goes result (run at_most_200 (BindName k bs) old) (λ b.
    run at_most_200 (Apply (InBind k bs b.binder.name b.binder.at) (whole b.app)) new)

abbrev pub ReadsBinds : ℕ → List Lexeme → List Lexeme → Result (Vec bind.Bind) ReadRefusal → Type 0
ReadsBinds depth old new result =
    (k : Cont) → suc (nests k) ≡ depth
    → Goes result (run at_most_200 (BindName k []) old) (λ bs.
    run at_most_200 (Apply (InBody (LetBody k (binds_of bs.items))) NoTerms) new)

abbrev pub ReadsExpr : ℕ → List Lexeme → List Lexeme → Result expr.Expr ReadRefusal → Type 0
ReadsExpr depth old new result =
    (k : Cont) → nests k ≡ depth
    → Goes result (run at_most_200 (Apply (InBody k) NoTerms) old) (λ e.
    run at_most_200 (Ended k (tree.expr e)) new)

-- The wanted token was taken, or it is another one.
abbrev pub Takes : Token → List Lexeme → List Lexeme → Result (Unit {0}) ReadRefusal → Type 0
Takes wanted old new (Ok u) = ((front old).token ≡ wanted) × (new ≡ behind old)
Takes wanted old new (Err e) = ((front old).token ≡ wanted → ⊥) × (e ≡ refusal (front old))

abbrev pub ReadsAlts : ℕ → List Lexeme → List Lexeme
    → Result (Vec alternative.Alt) ReadRefusal → Type 0
ReadsAlts depth old new result =
    (k : Cont) (e : Expr) → suc (nests k) ≡ depth
    → Goes result (run at_most_200 (AltStart k e NoAlts) old) (λ xs.
    run at_most_200 (Ended k (Case e (alternatives xs.items))) new)

abbrev pub ReadsPattern : List Lexeme → List Lexeme → Result Pattern ReadRefusal → Type 0
ReadsPattern old new result =
    (k : Cont) (e : Expr) (xs : Alts)
    → Goes result (run at_most_200 (AltStart k e xs) old) (λ p.
    run at_most_200 (Apply (InBody (AltBody k e xs p)) NoTerms) new)

-- The names of a list were read, or memory ran out.
abbrev pub ReadsNames : List Lexeme → List Lexeme → Result (Vec Binder) ReadRefusal → Type 0
ReadsNames old new (Ok names) = old ≡ binders names.items ++ new
ReadsNames old new (Err e) = IsMemory e
