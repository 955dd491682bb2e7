-- Reading a text in which expressions of Core stand, one token after the other. A device of the
-- proofs.
use Rattle.std.specs.Prelude.{ℕ, List}
use Rattle.core_reader.specs.declared.token.Token.{Token}
use Rattle.core_reader.specs.declared.token.Lexeme.{Lexeme}
use Rattle.core_reader.specs.declared.refusal.ReadRefusal.{ReadRefusal}
use Rattle.core_reader.specs.Tree.{Expr, NoTerms}
use Rattle.core_reader.specs.Grammar.{NestingLimit}
use Rattle.core_reader.specs.ReadingOf.{Step, go, done, stop, Steps, Reading}
use Rattle.core_reader.specs.Machine as expression
use Rattle.core_reader.specs.Machine.{Outermost, InBody, Apply}

-- A token outside of expressions: the reading goes on, an expression begins behind the token, all
-- was read, or the token is refused.
pub data Move (O H A : Type 0) : Type 0 where
  next : O → Move O H A
  enter : H → Move O H A
  all : A → Move O H A
  refuse : ReadRefusal → Move O H A

-- What stands around expressions: the states there, the places of expressions, what a token does,
-- also behind a whole expression, and which tokens spell what is made.
pub record ExpressionContext : Type 1 where
  pub Own : Type 0
  pub Hole : Type 0
  pub Whole : Type 0
  pub start : Own
  pub step : NestingLimit → Own → ℕ → Token → Move Own Hole Whole
  pub give : Hole → Expr → ℕ → Token → Move Own Hole Whole
  pub Spells : NestingLimit → Whole → List Lexeme → Type 0

pub data ContextState (O H : Type 0) : Type 0 where
  Outside : O → ContextState O H
  Within : H → expression.State → ContextState O H

abbrev pub step_of_move : {O H A : Type 0} → Move O H A → Step (ContextState O H) A
step_of_move (next o) = go (Outside o)
step_of_move (enter h) = go (Within h (Apply (InBody Outermost) NoTerms))
step_of_move (all a) = done a
step_of_move (refuse e) = stop e

abbrev pub within : {O H A : Type 0} → (H → Expr → ℕ → Token → Move O H A) → H → ℕ → Token
    → Step expression.State Expr → Step (ContextState O H) A
within give h at token (go s) = go (Within h s)
within give h at token (done e) = step_of_move (give h e at token)
within give h at token (stop er) = stop er

abbrev pub steps : (r : ExpressionContext) → Steps (ContextState r.Own r.Hole) r.Whole
steps r l (Outside o) at token = step_of_move (r.step l o at token)
steps r l (Within h s) at token = within r.give h at token (expression.step l s at token)

abbrev pub context_reading : ExpressionContext → Reading
context_reading r = record {
  State = ContextState r.Own r.Hole;
  Tree = r.Whole;
  start = Outside r.start;
  step = steps r;
  Spells = r.Spells;
}
