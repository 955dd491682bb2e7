-- A canonical text stands for its program, and reads back as it.
use Rattle.std.specs.Prelude.{ℕ, ◌≤◌, List, length, Result, Ok, Err}
use Rattle.core_reader.specs.declared.syntax.Core.{Core}
use Rattle.core_reader.specs.declared.refusal.ReadRefusal.{ReadRefusal}
use Rattle.core_reader.specs.declared.refusal.ReadRefusal.TheVariants as refusal
use Rattle.core_reader.specs.Tree.{Program, program}
use Rattle.core_reader.specs.Programs.{IsText}
use Rattle.core_reader.specs.Rules.{IsUnbroken}
use Rattle.core_reader.specs.Readable.{IsReadable}
use Rattle.core_print.specs.Canonical.{canonical}
use Rattle.core_print.specs.Depth.{program_depth}
use Rattle.core_print.specs.Same.{SameProgram}
use Rattle.limits.specs.Limits.{most_bytes, most_open}

-- The text breaks no rule, and it stands for the program, the places and the numbers of the names
-- aside.
pub record TextStandsForProgram (text : List ℕ) (p : Program) : Type 0 where
  pub unbroken : IsUnbroken text
  pub read : Program
  pub is_text : IsText text read
  pub same : SameProgram p read
  pub no_other : (q : Program) → IsText text q → SameProgram p q

-- A canonical text that is neither too long nor too deep stands for its program.
abbrev pub CanonicalTextReadsBack : Type 0
CanonicalTextReadsBack =
    (p : Program) → IsReadable p → length (canonical p) ≤ most_bytes
    → program_depth p ≤ most_open → TextStandsForProgram (canonical p) p

-- Whatever it is that a canonical text stands for is the same program, however long the text is and
-- however deep the program.
abbrev pub CanonicalTextIsOfOneProgram : Type 0
CanonicalTextIsOfOneProgram =
    (p q : Program) → IsReadable p → IsText (canonical p) q → SameProgram p q

abbrev pub IsMemory : ReadRefusal → Type 0
IsMemory (refusal.Memory e) = Unit {0}
IsMemory refused = ⊥

-- What the reader may answer to the canonical text of a program: the same program, and no refusal
-- but want of memory.
abbrev pub RereadsSameProgram : Program → Result Core ReadRefusal → Type 0
RereadsSameProgram p (Ok again) = SameProgram p (program again)
RereadsSameProgram p (Err e) = IsMemory e
