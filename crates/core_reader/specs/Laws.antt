-- What the definitions of texts and their rules say by themselves.
use Rattle.std.specs.Prelude.{◌≡◌, ℕ, List}
use Rattle.core_reader.specs.Tree.{Program}
use Rattle.core_reader.specs.Tokens.{Piece, IsTokens}
use Rattle.core_reader.specs.Programs.{IsText}
use Rattle.core_reader.specs.Rules.{IsFirstUnread, IsUnbroken}
use Rattle.core_reader.specs.Readable.{IsReadable}

-- At most one rule is the first that a text breaks, at one place.
abbrev pub RefusalIsUnique : Type 0
RefusalIsUnique =
    (text : List ℕ) (k at k' at' : ℕ) → IsFirstUnread text k at
    → IsFirstUnread text k' at' → (k ≡ k') × (at ≡ at')

abbrev pub TokensAreUnique : Type 0
TokensAreUnique =
    (text : List ℕ) (us vs : List Piece) → IsTokens text us → IsTokens text vs → us ≡ vs

abbrev pub ProgramIsUnique : Type 0
ProgramIsUnique = (text : List ℕ) (p q : Program) → IsText text p → IsText text q → p ≡ q

-- The program of a text that breaks no rule is readable.
abbrev pub AcceptedIsReadable : Type 0
AcceptedIsReadable = (text : List ℕ) (p : Program) → IsUnbroken text → IsText text p → IsReadable p
