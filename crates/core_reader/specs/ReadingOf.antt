-- Reading one token after the other, in any language: a state holds what was read, and a token
-- leads to the next one. A device of the proofs: no clause of `read` speaks of it.
use Rattle.std.specs.Prelude.{ℕ, List, [], ◌∷◌, Result, Ok, Err}
use Rattle.core_reader.specs.declared.token.Token.{Token}
use Rattle.core_reader.specs.declared.token.Lexeme.{Lexeme}
use Rattle.core_reader.specs.declared.refusal.ReadRefusal.{ReadRefusal}
use Rattle.core_reader.specs.declared.refusal.ReadRefusal.TheVariants.{BadByte}
use Rattle.core_reader.specs.Grammar.{NestingLimit}

-- The reading goes on, has all, or is refused.
pub data Step (S A : Type 0) : Type 0 where
  go : S → Step S A
  done : A → Step S A
  stop : ReadRefusal → Step S A

-- what a token at a place does in a state, with as many open constructs as there is room for
abbrev pub Steps : Type 0 → Type 0 → Type 0
Steps S A = NestingLimit → S → ℕ → Token → Step S A

abbrev pub follow : {S A : Type 0} → Step S A → (S → Result A ReadRefusal) → Result A ReadRefusal
follow (go s) next = next s
follow (done a) next = Ok a
follow (stop e) next = Err e

unfoldable pub run_of : {S A : Type 0} → Steps S A → NestingLimit → S
    → List Lexeme → Result A ReadRefusal
run_of step l s [] = Err (BadByte 0)
run_of step l s (t ∷ ts) = follow (step l s t.at t.token) (λ s. run_of step l s ts)

-- A reading of a text: its states, what it makes of a text, and which tokens spell that.
pub record Reading : Type 1 where
  pub State : Type 0
  pub Tree : Type 0
  pub start : State
  pub step : Steps State Tree
  pub Spells : NestingLimit → Tree → List Lexeme → Type 0
