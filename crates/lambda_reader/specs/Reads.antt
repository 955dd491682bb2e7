-- What each part of the reader does, in every frame that it may stand in. A device of the proofs.
use Rattle.std.specs.Prelude.{◌≡◌, ℕ, suc, Bool, List, map, Result, Ok, Err}
use Rattle.std.specs.Global.{Vec}
use Rattle.core_reader.specs.declared.syntax.NameId.{NameId}
use Rattle.core_reader.specs.declared.syntax.Pattern.{Pattern}
use Rattle.lambda_reader.specs.declared.syntax.Atom.{Atom}
use Rattle.lambda_reader.specs.declared.syntax.App as app
use Rattle.lambda_reader.specs.declared.syntax.Bind as bind
use Rattle.lambda_reader.specs.declared.syntax.Expr as expr
use Rattle.lambda_reader.specs.declared.syntax.Alt as alternative
use Rattle.core_reader.specs.declared.token.Token.TheVariants as word
use Rattle.core_reader.specs.declared.token.Lexeme.{Lexeme}
use Rattle.core_reader.specs.declared.refusal.ReadRefusal.{ReadRefusal}
use Rattle.lambda_reader.specs.Tree.{Terms, NoTerms, AndTerm, Group, NoBinds, Expr, Case, Alts, NoAlts}
use Rattle.lambda_reader.specs.Code as code
use Rattle.core_reader.specs.Grammar.{at_most_200}
use Rattle.core_reader.specs.Machine.{front, refusal, Goes, Fails}
use Rattle.lambda_reader.specs.Machine.{Cont, LetBody, AltBody, nests, Frame, InBody, InBind, Inside, opens, State, Apply, BindName, Ended, AltStart, go, stop, step, run, with_last, ◌⊕◌}

abbrev pub whole : app.App → Terms
whole a = AndTerm (code.application a).head (code.application a).args

abbrev pub terms : List Atom → Terms
terms xs = code.terms_of (map code.term xs)

abbrev pub group : List bind.Bind → Group
group bs = code.group_of (map code.member bs)

abbrev pub alternatives : List alternative.Alt → Alts
alternatives xs = code.alts_of (map code.alternative xs)

module _ (lambdas : Bool) where
  abbrev pub ReadsAtom : ℕ → List Lexeme → List Lexeme → Result Atom ReadRefusal → Type 0
  ReadsAtom depth old new result =
      (k : Frame) (held : Terms) → opens k ≡ depth
      → Goes result (run lambdas at_most_200 (Apply k held) old) (λ a.
      run lambdas at_most_200 (Apply k (with_last held (code.term a))) new)

  abbrev pub ReadsApp : ℕ → List Lexeme → List Lexeme → Result app.App ReadRefusal → Type 0
  ReadsApp depth old new result =
      (k : Frame) → opens k ≡ depth
      → Goes result (run lambdas at_most_200 (Apply k NoTerms) old) (λ a.
      run lambdas at_most_200 (Apply k (whole a)) new)

  -- What stands in a bracket was read behind its `(`, with the `)`.
  abbrev pub ReadsInside : (at : ℕ) → ℕ → List Lexeme → List Lexeme → Result Atom ReadRefusal
      → Type 0
  ReadsInside at depth old new result =
      (k : Frame) (held : Terms) → suc (opens k) ≡ depth
      → Goes result (run lambdas at_most_200 (Apply (Inside k held at) NoTerms) old) (λ a.
      run lambdas at_most_200 (Apply k (with_last held (code.term a))) new)

  -- An application was read that a name of a group stands for.
  abbrev pub ReadsHeaded : ℕ → List Lexeme → List Lexeme → Result app.App ReadRefusal → Type 0
  ReadsHeaded depth old new result =
      (k : Cont) (bs : Group) (n : NameId) (p : ℕ) → suc (nests k) ≡ depth
      → Goes result (run lambdas at_most_200 (Apply (InBind k bs n p) NoTerms) old) (λ a.
      run lambdas at_most_200 (Apply (InBind k bs n p) (whole a)) new)

  -- A member of a group is whole in this state: `;` leads to the next one, `in` to the body, and
  -- the token that stands next does not go on if it is neither.
  pub record IsBehind (s : State) (k : Cont) (bs : Group) (x : Lexeme) : Type 0 where
    pub next : (at : ℕ) → step lambdas at_most_200 s at word.Semicolon ≡ go (BindName k bs)
    pub body : (at : ℕ) → step lambdas at_most_200 s at word.In
        ≡ go (Apply (InBody (LetBody k bs)) NoTerms)
    pub others : (x.token ≡ word.Semicolon → ⊥) → (x.token ≡ word.In → ⊥)
        → step lambdas at_most_200 s x.at x.token ≡ stop (refusal x)

  abbrev pub ReadsMember : ℕ → List Lexeme → List Lexeme → Result bind.Bind ReadRefusal → Type 0
  ReadsMember depth old new (Ok b) =
      (k : Cont) (bs : Group) → suc (nests k) ≡ depth
      → (s : State)
      × (run lambdas at_most_200 (BindName k bs) old ≡ run lambdas at_most_200 s new)
      × IsBehind s k (bs ⊕ code.member b NoBinds) (front new)
  ReadsMember depth old new (Err e) =
      (k : Cont) (bs : Group) → suc (nests k) ≡ depth
      → Fails e (run lambdas at_most_200 (BindName k bs) old)

  abbrev pub ReadsGroup : ℕ → List Lexeme → List Lexeme
      → Result (Vec bind.Bind) ReadRefusal → Type 0
  ReadsGroup depth old new result =
      (k : Cont) → suc (nests k) ≡ depth
      → Goes result (run lambdas at_most_200 (BindName k NoBinds) old) (λ bs.
      run lambdas at_most_200 (Apply (InBody (LetBody k (group bs.items))) NoTerms) new)

  abbrev pub ReadsExpr : ℕ → List Lexeme → List Lexeme → Result expr.Expr ReadRefusal → Type 0
  ReadsExpr depth old new result =
      (k : Cont) → nests k ≡ depth
      → Goes result (run lambdas at_most_200 (Apply (InBody k) NoTerms) old) (λ e.
      run lambdas at_most_200 (Ended k (code.expr e)) new)

  abbrev pub ReadsAlts : ℕ → List Lexeme → List Lexeme
      → Result (Vec alternative.Alt) ReadRefusal → Type 0
  ReadsAlts depth old new result =
      (k : Cont) (e : Expr) → suc (nests k) ≡ depth
      → Goes result (run lambdas at_most_200 (AltStart k e NoAlts) old) (λ xs.
      run lambdas at_most_200 (Ended k (Case e (alternatives xs.items))) new)

  abbrev pub ReadsPattern : List Lexeme → List Lexeme → Result Pattern ReadRefusal → Type 0
  ReadsPattern old new result =
      (k : Cont) (e : Expr) (xs : Alts)
      → Goes result (run lambdas at_most_200 (AltStart k e xs) old) (λ p.
      run lambdas at_most_200 (Apply (InBody (AltBody k e xs p)) NoTerms) new)
