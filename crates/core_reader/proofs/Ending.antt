-- Whatever was read can be completed to an expression.
use Rattle.std.proofs.Common.{◌≡◌, ℕ, false, List, [], ◌∷◌, ◌++◌, map, Ok, None, refl, sym, subst, ◌∙◌}
use Rattle.std.specs.Prelude.{codes}
use Rattle.core_reader.specs.declared.dialect.Dialect.{Dialect}
use Rattle.core_reader.specs.declared.dialect.Dialect.TheVariants as dialect
use Rattle.core_reader.specs.declared.syntax.Pattern.TheVariants as pattern
use Rattle.core_reader.specs.declared.token.Lexeme.{Lexeme}
use Rattle.core_reader.specs.Tree.{Term, Terms, NoTerms, AndTerm, Expr, Let, Case, NoAlts, AndAlt}
use Rattle.core_reader.specs.Tree as tree
use Rattle.core_reader.specs.Grammar.{NestingLimit, lexeme, name_id}
use Rattle.core_reader.specs.TokensOf.{Piece}
use Rattle.core_reader.specs.WordsOf.{said, keyword_of, keyword_or_name, number_in}
use Rattle.core_reader.specs.Machine.{Cont, Outermost, LetBody, Scrutinee, AltBody, Frame, InBody, InBind, Inside, BindName, BindEquals, Ended, Brace, AltStart, AltNames, AltArrow, starts_atom, State, Apply, run, with_last, ◌⊹◌, binding, applied, front}
use Rattle.core_reader.proofs.Taking.{ended_app, let_ends}

-- ---- the tokens that complete what was read

abbrev pub piece : List ℕ → Piece
piece w = record { bytes = w; at = 0 }

abbrev pub constructor : Piece
constructor = piece (codes "A")

-- after a whole expression
pub closing : Cont → List Piece
closing Outermost = []
closing (LetBody k binds) = closing k
closing (Scrutinee k) = piece (codes "of") ∷ piece (codes "{") ∷ constructor ∷ piece (codes "->") ∷
    constructor ∷ piece (codes "}") ∷ closing k
closing (AltBody k s alts p) = piece (codes "}") ∷ closing k

-- after a whole application
pub closing_frame : Frame → List Piece
closing_frame (InBody k) = closing k
closing_frame (InBind k binds n p) = piece (codes "in") ∷ constructor ∷ closing k
closing_frame (Inside k held at) = piece (codes ")") ∷ closing_frame k

pub ending : State → List Piece
ending (Apply k held) = constructor ∷ closing_frame k
ending (BindName k binds) = piece (codes "a") ∷ piece (codes "=") ∷ constructor ∷ piece (codes "in")
    ∷ constructor ∷ closing k
ending (BindEquals k binds n p) = piece (codes "=") ∷ constructor ∷ piece (codes "in") ∷ constructor
    ∷ closing k
ending (Ended k e) = closing k
ending (Brace k e) = piece (codes "{") ∷ constructor ∷ piece (codes "->") ∷ constructor ∷ piece
    (codes "}") ∷ closing k
ending (AltStart k s alts) = constructor ∷ piece (codes "->") ∷ constructor ∷ piece (codes "}") ∷
    closing k
ending (AltNames k s alts n p names) = piece (codes "->") ∷ constructor ∷ piece (codes "}") ∷
    closing k
ending (AltArrow k s alts p) = piece (codes "->") ∷ constructor ∷ piece (codes "}") ∷ closing k

IsMore : Terms → Type 0
IsMore NoTerms = ⊥
IsMore (AndTerm a xs) = Unit {0}

more_last : (xs : Terms) (a : Term) → IsMore (with_last xs a)
unfolding IsMore
more_last NoTerms a = tt
more_last (AndTerm b xs) a = tt

no_keyword : (d : Dialect) → keyword_of d (codes "a") ≡ None
no_keyword dialect.Core = refl
no_keyword dialect.Modules = refl
no_keyword dialect.Lambdas = refl
no_keyword dialect.Types = refl

-- with the words and signs of any dialect, before a token that goes on with no application
module _ (d : Dialect) (names : List (List ℕ)) (x : Lexeme) (rest : List Lexeme)
    (other : starts_atom x.token ≡ false) where
  abbrev before : List Piece → List Lexeme
  before us = map (said d names) us ++ x ∷ rest

  abbrev Reaches : NestingLimit → State → List Lexeme → Type 0
  Reaches l s ts = (e : Expr) × (run l s ts ≡ Ok (record { expr = e; rest = x ∷ rest }))

  closing_ends : (k : Cont) → starts_atom (front (before (closing k))).token ≡ false
  unfolding closing
  closing_ends Outermost = other
  closing_ends (LetBody k binds) = closing_ends k
  closing_ends (Scrutinee k) = refl
  closing_ends (AltBody k s alts p) = refl

  ends_cont : (l : NestingLimit) (k : Cont) (e : Expr) → Reaches l (Ended k e) (before (closing k))
  unfolding run closing
  ends_cont l Outermost e = (e, refl)
  ends_cont l (LetBody k binds) e =
      let r = ends_cont l k (Let binds e) in
      (r.0, let_ends l k binds e (before (closing k)) ∙ r.1)
  ends_cont l (Scrutinee k) e =
      let first = name_id (number_in names (codes "A")) in
      ends_cont l k
      (Case e (AndAlt (pattern.Con (record { name = first; at = 0 }) [])
      (applied (tree.Con first.0 0) NoTerms) NoAlts))
  ends_cont l (AltBody k s alts p) e = ends_cont l k (Case s (alts ⊹ AndAlt p e NoAlts))

  begins : (l : NestingLimit) (k : Cont) → Reaches l (Apply (InBody k) NoTerms)
      (before (constructor ∷ closing k))
  unfolding run
  begins l k =
      let head = tree.Con (number_in names (codes "A")) 0 in
      let r = ends_cont l k (applied head NoTerms) in
      (r.0, ended_app l k head NoTerms (before (closing k)) (closing_ends k) ∙ r.1)

  ends_frame : (l : NestingLimit) (k : Frame) (xs : Terms) → IsMore xs
      → Reaches l (Apply k xs) (before (closing_frame k))
  unfolding run closing closing_frame IsMore
  ends_frame l k NoTerms h = absurd h
  ends_frame l (InBody k) (AndTerm a xs) h =
      let r = ends_cont l k (applied a xs) in
      (r.0, ended_app l k a xs (before (closing k)) (closing_ends k) ∙ r.1)
  ends_frame l (InBind k binds n p) (AndTerm a xs) h
      = begins l (LetBody k (binds ++ binding n p a xs ∷ []))
  ends_frame l (Inside k held at) (AndTerm a xs) h = ends_frame l k
      (with_last held (tree.Bracket a xs at)) (more_last held (tree.Bracket a xs at))

  ends_app_of : (l : NestingLimit) (k : Frame) (held : Terms)
      → Reaches l (Apply k held) (before (constructor ∷ closing_frame k))
  unfolding run closing closing_frame
  ends_app_of l k held =
      let head = tree.Con (number_in names (codes "A")) 0 in
      ends_frame l k (with_last held head) (more_last held head)

  pub ends : (l : NestingLimit) (s : State) → Reaches l s (before (ending s))
  unfolding run ending closing closing_frame
  ends l (Apply k held) = ends_app_of l k held
  ends l (BindName k binds) =
      let rest = piece (codes "=") ∷ constructor ∷ piece (codes "in") ∷ constructor ∷ closing k in
      subst (λ o. Reaches l (BindName k binds)
      (lexeme 0 (keyword_or_name names (codes "a") o) ∷ before rest)) (sym (no_keyword d))
      (ends_app_of l (InBind k binds (name_id (number_in names (codes "a"))) 0) NoTerms)
  ends l (BindEquals k binds n p) = ends_app_of l (InBind k binds n p) NoTerms
  ends l (Ended k e) = ends_cont l k e
  ends l (Brace k e) = begins l
      (AltBody k e NoAlts
      (pattern.Con (record { name = name_id (number_in names (codes "A")); at = 0 }) []))
  ends l (AltStart k s alts) = begins l
      (AltBody k s alts
      (pattern.Con (record { name = name_id (number_in names (codes "A")); at = 0 }) []))
  ends l (AltNames k s alts n p params) = begins l
      (AltBody k s alts (pattern.Con (record { name = n; at = p }) params))
  ends l (AltArrow k s alts p) = begins l (AltBody k s alts p)
