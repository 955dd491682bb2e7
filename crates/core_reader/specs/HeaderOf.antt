-- Reading a text that has a header of its own before declarations of Core. A device of the proofs.
use Rattle.std.specs.Prelude.{◌≡◌, ℕ, List, [], ◌++◌}
use Rattle.core_reader.specs.declared.token.Token.{Token}
use Rattle.core_reader.specs.declared.token.Lexeme.{Lexeme}
use Rattle.core_reader.specs.declared.refusal.ReadRefusal.{ReadRefusal}
use Rattle.core_reader.specs.Grammar.{NestingLimit, Decl, SpellsDecls}
use Rattle.core_reader.specs.ReadingOf.{Step, go, done, stop, Steps, Reading}
use Rattle.core_reader.specs.Declaring.{State, top, step}

-- The header goes on, is whole before the token, or the token is refused.
pub data HeaderStep (S H : Type 0) : Type 0 where
  on : S → HeaderStep S H
  over : H → HeaderStep S H
  wrong : ReadRefusal → HeaderStep S H

-- A header: its states, what it says, and which tokens spell that.
pub record Header : Type 1 where
  pub Stage : Type 0
  pub Said : Type 0
  pub start : Stage
  pub step : Stage → ℕ → Token → HeaderStep Stage Said
  pub Spells : Said → List Lexeme → Type 0

-- what a text says: its header and its declarations
pub record TextWithHeader (H : Type 0) : Type 0 where
  pub header : H
  pub decls : List Decl

pub data HeadedTextState (S H : Type 0) : Type 0 where
  Ahead : S → HeadedTextState S H
  Behind : H → State → HeadedTextState S H

abbrev pub behind : {S H : Type 0} → H → Step State (List Decl)
    → Step (HeadedTextState S H) (TextWithHeader H)
behind h (go s) = go (Behind h s)
behind h (done ds) = done (record { header = h; decls = ds })
behind h (stop e) = stop e

-- The token behind a header begins the declarations.
abbrev pub headed : {S H : Type 0} → NestingLimit → ℕ → Token → HeaderStep S H
    → Step (HeadedTextState S H) (TextWithHeader H)
headed l at token (on s) = go (Ahead s)
headed l at token (over h) = behind h (step l (top []) at token)
headed l at token (wrong e) = stop e

abbrev pub steps : (h : Header) → Steps (HeadedTextState h.Stage h.Said) (TextWithHeader h.Said)
steps h l (Ahead s) at token = headed l at token (h.step s at token)
steps h l (Behind x s) at token = behind x (step l s at token)

-- the header's tokens, and those of the declarations
abbrev pub SpellsTextWithHeader : (h : Header) → NestingLimit
    → TextWithHeader h.Said → List Lexeme → Type 0
SpellsTextWithHeader h l x ts =
    (us vs : List Lexeme) × h.Spells x.header us × SpellsDecls l x.decls vs × (ts ≡ us ++ vs)

abbrev pub header_reading : Header → Reading
header_reading h = record {
  State = HeadedTextState h.Stage h.Said;
  Tree = TextWithHeader h.Said;
  start = Ahead h.start;
  step = steps h;
  Spells = SpellsTextWithHeader h;
}
