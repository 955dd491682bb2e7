-- Whatever was read can be completed to an expression.
use Rattle.std.proofs.Common.{◌≡◌, ℕ, Bool, false, List, [], ◌∷◌, ◌++◌, map, Ok, None, refl, sym, subst, ◌∙◌}
use Rattle.std.specs.Prelude.{codes}
use Rattle.core_reader.specs.declared.dialect.Dialect.{Dialect}
use Rattle.core_reader.specs.declared.dialect.Dialect.TheVariants as dialect
use Rattle.core_reader.specs.declared.syntax.Binder.{Binder}
use Rattle.core_reader.specs.declared.syntax.Pattern.TheVariants as pattern
use Rattle.core_reader.specs.declared.token.Lexeme.{Lexeme}
use Rattle.lambda_reader.specs.Tree.{Term, Terms, NoTerms, AndTerm, Group, Expr, App, Let, Case, NoAlts, AndAlt}
use Rattle.lambda_reader.specs.Tree as tree
use Rattle.core_reader.specs.Grammar.{NestingLimit, lexeme, name_id}
use Rattle.core_reader.specs.TokensOf.{Piece}
use Rattle.core_reader.specs.WordsOf.{said, keyword_or_name, keyword_of, number_in}
use Rattle.core_reader.specs.Machine.{starts_atom, front}
use Rattle.lambda_reader.specs.Machine.{Cont, Outermost, LetBody, Scrutinee, AltBody, LambdaBody, FunctionBody, Frame, InBody, InBind, Inside, BindName, BindEquals, FunctionNames, LambdaNames, Ended, Brace, AltStart, AltNames, AltArrow, State, Apply, run, with_last, ◌⊹◌, ◌⊕◌, value, local_function}
use Rattle.core_reader.proofs.Ending.{piece, constructor}
use Rattle.lambda_reader.proofs.Taking.{ended_app, let_ends}

-- ---- the tokens that complete what was read

mutual
  -- after a whole expression
  pub closing : Cont → List Piece
  closing Outermost = []
  closing (LetBody k binds) = closing k
  closing (Scrutinee k) = piece (codes "of") ∷ piece (codes "{") ∷ constructor ∷ piece (codes "->")
      ∷ constructor ∷ piece (codes "}") ∷ closing k
  closing (AltBody k s alts p) = piece (codes "}") ∷ closing k
  closing (LambdaBody k held p params) = piece (codes ")") ∷ closing_frame k
  closing (FunctionBody k binds n p params) = piece (codes "in") ∷ constructor ∷ closing k

  -- after a whole application
  pub closing_frame : Frame → List Piece
  closing_frame (InBody k) = closing k
  closing_frame (InBind k binds n p) = piece (codes "in") ∷ constructor ∷ closing k
  closing_frame (Inside k held at) = piece (codes ")") ∷ closing_frame k

pub ending : State → List Piece
ending (Apply k held) = constructor ∷ closing_frame k
ending (BindName k binds) = piece (codes "a") ∷ piece (codes "=") ∷ constructor ∷ piece (codes "in")
    ∷ constructor ∷ closing k
ending (BindEquals k binds n p) = piece (codes "=") ∷ constructor ∷ piece (codes "in") ∷ constructor
    ∷ closing k
ending (FunctionNames k binds n p params) = piece (codes "=") ∷ constructor ∷ piece (codes "in") ∷
    constructor ∷ closing k
ending (LambdaNames k held p params) = piece (codes "a") ∷ piece (codes "->") ∷ constructor ∷ piece
    (codes ")") ∷ closing_frame k
ending (Ended k e) = closing k
ending (Brace k e) = piece (codes "{") ∷ constructor ∷ piece (codes "->") ∷ constructor ∷ piece
    (codes "}") ∷ closing k
ending (AltStart k s alts) = constructor ∷ piece (codes "->") ∷ constructor ∷ piece (codes "}") ∷
    closing k
ending (AltNames k s alts n p names) = piece (codes "->") ∷ constructor ∷ piece (codes "}") ∷
    closing k
ending (AltArrow k s alts p) = piece (codes "->") ∷ constructor ∷ piece (codes "}") ∷ closing k

no_keyword : (d : Dialect) → keyword_of d (codes "a") ≡ None
no_keyword dialect.Core = refl
no_keyword dialect.Modules = refl
no_keyword dialect.Lambdas = refl
no_keyword dialect.Types = refl

IsMore : Terms → Type 0
IsMore NoTerms = ⊥
IsMore (AndTerm a xs) = Unit {0}

more_last : (xs : Terms) (a : Term) → IsMore (with_last xs a)
unfolding IsMore
more_last NoTerms a = tt
more_last (AndTerm b xs) a = tt

-- with the words and signs of any dialect, before a token that goes on with no application
module _ (lambdas : Bool) (d : Dialect) (names : List (List ℕ)) (x : Lexeme) (rest : List Lexeme)
    (other : starts_atom x.token ≡ false) (l : NestingLimit) where
  abbrev before : List Piece → List Lexeme
  before us = map (said d names) us ++ x ∷ rest

  abbrev Reaches : State → List Lexeme → Type 0
  Reaches s ts = (e : Expr) × (run lambdas l s ts ≡ Ok (record { expr = e; rest = x ∷ rest }))

  closing_ends : (k : Cont) → starts_atom (front (before (closing k))).token ≡ false
  unfolding closing
  closing_ends Outermost = other
  closing_ends (LetBody k binds) = closing_ends k
  closing_ends (Scrutinee k) = refl
  closing_ends (AltBody k s alts p) = refl
  closing_ends (LambdaBody k held p params) = refl
  closing_ends (FunctionBody k binds n p params) = refl

  -- one constructor is an expression
  begins : (k : Cont) → ((e : Expr) → Reaches (Ended k e) (before (closing k)))
      → Reaches (Apply (InBody k) NoTerms) (before (constructor ∷ closing k))
  unfolding run
  begins k later =
      let head = tree.Con (number_in names (codes "A")) 0 in
      let r = later (App head NoTerms) in
      (r.0, ended_app lambdas l k head NoTerms (before (closing k)) (closing_ends k) ∙ r.1)

  -- the body of a group, behind `in`
  in_body : (k : Cont) (binds : Group) → ((e : Expr) → Reaches (Ended k e) (before (closing k)))
      → Reaches (Apply (InBody (LetBody k binds)) NoTerms) (before (constructor ∷ closing k))
  unfolding closing
  in_body k binds later = begins (LetBody k binds)
      (λ e. let r = later (Let binds e) in
      (r.0, let_ends lambdas l k binds e (before (closing k)) ∙ r.1))

  mutual
    unfolding run closing closing_frame IsMore

    ends_cont : (k : Cont) (e : Expr) → Reaches (Ended k e) (before (closing k))
    ends_cont Outermost e = (e, refl)
    ends_cont (LetBody k binds) e =
        let r = ends_cont k (Let binds e) in
        (r.0, let_ends lambdas l k binds e (before (closing k)) ∙ r.1)
    ends_cont (Scrutinee k) e =
        let first = name_id (number_in names (codes "A")) in
        ends_cont k
        (Case e (AndAlt (pattern.Con (record { name = first; at = 0 }) [])
        (App (tree.Con first.0 0) NoTerms) NoAlts))
    ends_cont (AltBody k s alts p) e = ends_cont k (Case s (alts ⊹ AndAlt p e NoAlts))
    ends_cont (LambdaBody k held p params) e = ends_frame k
        (with_last held (tree.Lambda params e p)) (more_last held (tree.Lambda params e p))
    ends_cont (FunctionBody k binds n p params) e = in_body k (binds ⊕ local_function n p params e)
        (λ f. ends_cont k f)

    ends_frame : (k : Frame) (xs : Terms) → IsMore xs
        → Reaches (Apply k xs) (before (closing_frame k))
    ends_frame (InBody k) NoTerms h = absurd h
    ends_frame (InBody k) (AndTerm a xs) h =
        let r = ends_cont k (App a xs) in
        (r.0, ended_app lambdas l k a xs (before (closing k)) (closing_ends k) ∙ r.1)
    ends_frame (InBind k binds n p) NoTerms h = absurd h
    ends_frame (InBind k binds n p) (AndTerm a xs) h
        = in_body k (binds ⊕ value n p a xs) (λ f. ends_cont k f)
    ends_frame (Inside k held at) NoTerms h = absurd h
    ends_frame (Inside k held at) (AndTerm a xs) h = ends_frame k
        (with_last held (tree.Bracket a xs at)) (more_last held (tree.Bracket a xs at))

  begins_at : (k : Cont) → Reaches (Apply (InBody k) NoTerms) (before (constructor ∷ closing k))
  begins_at k = begins k (ends_cont k)

  ends_app_of : (k : Frame) (held : Terms) → Reaches (Apply k held)
      (before (constructor ∷ closing_frame k))
  unfolding run closing closing_frame
  ends_app_of k held =
      let head = tree.Con (number_in names (codes "A")) 0 in
      ends_frame k (with_last held head) (more_last held head)

  arrow : (k : Frame) (held : Terms) (p : ℕ) (params : List Binder) (b : Binder)
      → Reaches (LambdaNames k held p (params ++ b ∷ []))
      (before (piece (codes "->") ∷ constructor ∷ piece (codes ")") ∷ closing_frame k))
  unfolding run closing closing_frame
  arrow k held p [] b = begins_at (LambdaBody k held p (b ∷ []))
  arrow k held p (c ∷ params) b = begins_at (LambdaBody k held p (c ∷ (params ++ b ∷ [])))

  pub ends : (s : State) → Reaches s (before (ending s))
  unfolding run ending closing closing_frame
  ends (Apply k held) = ends_app_of k held
  ends (BindName k binds) =
      let more = piece (codes "=") ∷ constructor ∷ piece (codes "in") ∷ constructor ∷ closing k in
      subst (λ o. Reaches (BindName k binds)
      (lexeme 0 (keyword_or_name names (codes "a") o) ∷ before more)) (sym (no_keyword d))
      (ends_app_of (InBind k binds (name_id (number_in names (codes "a"))) 0) NoTerms)
  ends (BindEquals k binds n p) = ends_app_of (InBind k binds n p) NoTerms
  ends (FunctionNames k binds n p params) = begins_at (FunctionBody k binds n p params)
  ends (LambdaNames k held p params) =
      let more = piece (codes "->") ∷ constructor ∷ piece (codes ")") ∷ closing_frame k in
      subst (λ o. Reaches (LambdaNames k held p params)
      (lexeme 0 (keyword_or_name names (codes "a") o) ∷ before more)) (sym (no_keyword d))
      (arrow k held p params (record { name = name_id (number_in names (codes "a")); at = 0 }))
  ends (Ended k e) = ends_cont k e
  ends (Brace k e) = begins_at
      (AltBody k e NoAlts
      (pattern.Con (record { name = name_id (number_in names (codes "A")); at = 0 }) []))
  ends (AltStart k s alts) = begins_at
      (AltBody k s alts
      (pattern.Con (record { name = name_id (number_in names (codes "A")); at = 0 }) []))
  ends (AltNames k s alts n p params) = begins_at
      (AltBody k s alts (pattern.Con (record { name = n; at = p }) params))
  ends (AltArrow k s alts p) = begins_at (AltBody k s alts p)
