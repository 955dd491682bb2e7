-- What a reading of a text owes, in any language: its states know what they were led to by, each
-- can
-- be completed, and what spells a thing is read as that thing.
use Rattle.std.proofs.lemmas.List.{append-nil}
use Rattle.std.proofs.Common.{Result, ◌≡◌, ℕ, Bool, true, false, cond, List, [], ◌∷◌, ◌++◌, Ok, refl, map, sym, ap, ◌∙◌, append_assoc}
use Rattle.std.specs.Prelude.{ℤ, pos}
use Rattle.core_reader.specs.declared.syntax.NameId.{NameId}
use Rattle.core_reader.specs.declared.syntax.Binder.{Binder}
use Rattle.core_reader.specs.declared.dialect.Dialect.{Dialect}
use Rattle.core_reader.specs.declared.token.Token.{Token}
use Rattle.core_reader.specs.declared.token.Token.TheVariants as word
use Rattle.core_reader.specs.declared.token.Lexeme.{Lexeme}
use Rattle.core_reader.specs.declared.refusal.ReadRefusal.{ReadRefusal}
use Rattle.core_reader.specs.declared.refusal.ReadRefusal.TheVariants.{BadByte, Syntax, NumberRange, TooDeep, TextTooLong, Memory}
use Rattle.core_reader.specs.Grammar.{NestingLimit, unlimited_nesting, at_most_200, lexeme, binders}
use Rattle.core_reader.specs.TokensOf.{Piece}
use Rattle.core_reader.specs.WordsOf.{said}
use Rattle.core_reader.specs.NamesOf.{names_of}
use Rattle.core_reader.specs.ProgramsOf.{Language}
use Rattle.core_reader.specs.ReadingOf.{Step, go, done, stop, Steps, Reading, run_of}
use Rattle.core_reader.specs.Machine.{refused, IsMemory, Fails}
use Rattle.core_reader.proofs.NamingOf.{Texts}

abbrev pub IsOpening : Token → Type 0
IsOpening word.Open = Unit {0}
IsOpening word.Let = Unit {0}
IsOpening word.Case = Unit {0}
IsOpening token = ⊥

-- a token behind which nothing is read
abbrev pub IsLast : Token → Type 0
IsLast word.Bad = Unit {0}
IsLast word.End = Unit {0}
IsLast (word.Large minus) = Unit {0}
IsLast token = ⊥

-- the lexemes of pieces, and the end
abbrev pub ended : Dialect → Texts → List Piece → List Lexeme
ended d names us = map (said d names) us ++ lexeme 0 word.End ∷ []

-- What was read is what the next state knows, or spells what is answered.
abbrev pub Good : {S A : Type 0} → (NestingLimit → S → List Lexeme → Type 0)
    → (NestingLimit → A → List Lexeme → Type 0) → NestingLimit → Step S A → List Lexeme → Type 0
Good Consumed Spells l (go s) ts = Consumed l s ts
Good Consumed Spells l (done a) ts = (us : List Lexeme) × (end : ℕ) × Spells l a us
    × (ts ≡ us ++ lexeme end word.End ∷ [])
Good Consumed Spells l (stop e) ts = Unit {0}

-- ---- what the other limits do at a step of the reading

abbrev pub Verdict : {S A : Type 0} → Steps S A → S → ℕ → Token → Step S A → Type 0
Verdict step s at token (go next) = step unlimited_nesting s at token ≡ go next
Verdict step s at token (done a) = step unlimited_nesting s at token ≡ done a
Verdict step s at token (stop (BadByte p)) = (at ≡ p) × (token ≡ word.Bad)
Verdict step s at token (stop (Syntax p)) = (at ≡ p)
    × (step unlimited_nesting s at token ≡ stop (Syntax p)) × (token ≡ word.Bad → ⊥)
Verdict step s at token (stop (NumberRange p)) = (at ≡ p) × (minus : Bool)
    × (token ≡ word.Large minus) × (step unlimited_nesting s at token ≡ stop (NumberRange p))
Verdict {S = S} step s at token (stop (TooDeep p)) = (at ≡ p) × (next : S)
    × (step unlimited_nesting s at token ≡ go next) × IsOpening token
Verdict step s at token (stop TextTooLong) = ⊥
Verdict step s at token (stop (Memory e)) = ⊥

-- a step that depends on no limit
abbrev pub Plain : {S A : Type 0} → ℕ → Token → Step S A → Type 0
Plain at token (go next) = Unit {0}
Plain at token (done a) = Unit {0}
Plain at token (stop (BadByte p)) = (at ≡ p) × (token ≡ word.Bad)
Plain at token (stop (Syntax p)) = (at ≡ p) × (token ≡ word.Bad → ⊥)
Plain at token (stop (NumberRange p)) = (at ≡ p) × (minus : Bool) × (token ≡ word.Large minus)
Plain at token (stop (TooDeep p)) = ⊥
Plain at token (stop TextTooLong) = ⊥
Plain at token (stop (Memory e)) = ⊥

pub refused_plain : (S A : Type 0) (at : ℕ) (token : Token)
    → Plain {S = S} {A = A} at token (stop (refused at token))
refused_plain S A at word.Bad = (refl, refl)
refused_plain S A at token = (refl, λ e. cc)

pub by_plain : {S A : Type 0} (step : Steps S A) (s : S) (at : ℕ) (token : Token) (st : Step S A)
    → step unlimited_nesting s at token ≡ st → Plain at token st → Verdict step s at token st
by_plain step s at token (go next) p h = p
by_plain step s at token (done a) p h = p
by_plain step s at token (stop (BadByte q)) p h = h
by_plain step s at token (stop (Syntax q)) p h = (h.0, p, h.1)
by_plain step s at token (stop (NumberRange q)) p h = (h.0, h.1, h.2, p)
by_plain step s at token (stop (TooDeep q)) p h = absurd h
by_plain step s at token (stop TextTooLong) p h = absurd h
by_plain step s at token (stop (Memory e)) p h = absurd h

pub opened : {S A : Type 0} (step : Steps S A) (s next : S) (at : ℕ) (token : Token) (b : Bool)
    → step unlimited_nesting s at token ≡ go next → IsOpening token
    → Verdict step s at token (cond b (go next) (stop (TooDeep at)))
opened step s next at token true p h = p
opened step s next at token false p h = (refl, next, p, h)

abbrev pub Accepts : {S A : Type 0} → Steps S A → S → ℕ → Bool → ℤ → Type 0
Accepts {S = S} step s at minus v = (next : S) ×
    (step unlimited_nesting s at (word.Number minus v) ≡ go next)

-- ---- the laws

pub record Laws (d : Dialect) (r : Reading) : Type 1 where
  -- the tokens before a state
  pub Consumed : NestingLimit → r.State → List Lexeme → Type 0
  pub begins : (l : NestingLimit) → Consumed l r.start []
  pub sound : (l : NestingLimit) (s : r.State) (ts : List Lexeme) (at : ℕ) (token : Token)
      → Consumed l s ts → Good Consumed r.Spells l (r.step l s at token)
      (ts ++ lexeme at token ∷ [])
  -- tokens that complete what was read
  pub ending : r.State → List Piece
  pub ends : (names : Texts) (l : NestingLimit) (s : r.State) → (a : r.Tree)
      × (run_of r.step l s (ended d names (ending s)) ≡ Ok a)
  pub whole : (l : NestingLimit) (a : r.Tree) (ts : List Lexeme) (end : ℕ) (rest : List Lexeme)
      → r.Spells l a ts → run_of r.step l r.start (ts ++ lexeme end word.End ∷ rest) ≡ Ok a
  pub judged : (s : r.State) (at : ℕ) (token : Token)
      → Verdict r.step s at token (r.step at_most_200 s at token)
  -- where an integer out of the range may stand, that number may
  pub large_goes : (s : r.State) (at p : ℕ) (minus : Bool) (v : ℤ)
      → r.step unlimited_nesting s at (word.Large minus) ≡ stop (NumberRange p)
      → (minus ≡ false → (n : ℕ) × (v ≡ pos n)) → Accepts r.step s at minus v
  pub large_stops : (s : r.State) (at p : ℕ) (minus : Bool) (v : ℤ)
      → r.step unlimited_nesting s at (word.Large minus) ≡ stop (Syntax p)
      → r.step unlimited_nesting s at (word.Number minus v) ≡ stop (Syntax p)
  pub last_stays : (s next : r.State) (at : ℕ) (token : Token) → IsLast token
      → r.step at_most_200 s at token ≡ go next → ⊥
  pub done_last : (s : r.State) (at : ℕ) (token : Token) (a : r.Tree)
      → r.step at_most_200 s at token ≡ done a → token ≡ word.End

-- The reading reads a language: what the grammar derives from tokens is made of what they spell.
pub record ReadsLanguage {P : Type 0} (d : Dialect) (r : Reading) (Derives : Language P)
    : Type 1 where
  pub laws : Laws d r
  pub tree : (l : NestingLimit) (p : P) (ps : List Piece) → Derives l p ps → r.Tree
  pub spelled : (l : NestingLimit) (p : P) (ps : List Piece) (h : Derives l p ps)
      → r.Spells l (tree l p ps h) (map (said d (names_of d ps)) ps)
  pub made : (l : NestingLimit) (a : r.Tree) (ps : List Piece)
      → r.Spells l a (map (said d (names_of d ps)) ps) → (p : P) × Derives l p ps
  pub same : (l : NestingLimit) (p q : P) (ps : List Piece) (h : Derives l p ps)
      (g : Derives l q ps) → tree l p ps h ≡ tree l q ps g → p ≡ q

-- ---- the names of a list

module _ {S R : Type 0} (run : S → List Lexeme → R) (state : List Binder → S)
    (keeps : (names : List Binder) (n : NameId) (at : ℕ) (rest : List Lexeme)
    → run (state names) (lexeme at (word.Name n) ∷ rest) ≡ run
    (state (names ++ record { name = n; at = at } ∷ [])) rest) where
  -- what keeps names takes all names that stand next
  pub takes_names : (ps qs : List Binder) (rest : List Lexeme)
      → run (state ps) (binders qs ++ rest) ≡ run (state (ps ++ qs)) rest
  takes_names ps [] rest = ap (λ w. run (state w) rest) (sym (append-nil ps))
  takes_names ps (q ∷ qs) rest =
      keeps ps q.name q.at (binders qs ++ rest) ∙ takes_names (ps ++ q ∷ []) qs rest ∙ ap
      (λ w. run (state w) rest) (append_assoc ps (q ∷ []) qs)

  pub reads_names : (names : List Binder) (old new : List Lexeme) → old ≡ binders names ++ new
      → run (state []) old ≡ run (state names) new
  reads_names names old new e = ap (run (state [])) e ∙ takes_names [] names new

pub memory_fails : {Y : Type 0} (e : ReadRefusal) (read : Result Y ReadRefusal) → IsMemory e
    → Fails e read
memory_fails (BadByte p) read h = absurd h
memory_fails (Syntax p) read h = absurd h
memory_fails (NumberRange p) read h = absurd h
memory_fails (TooDeep p) read h = absurd h
memory_fails TextTooLong read h = absurd h
memory_fails (Memory e) read h = tt
