-- Texts that are accepted, and the first rule that each other text breaks.
use Rattle.std.specs.Prelude.{◌≡◌, ℕ, List}
use Rattle.core_reader.specs.Tree as tree
use Rattle.core_reader.specs.Text.{IsText, IsFirstUnread, IsUnbroken}
use Rattle.core_reader.specs.Size.{program_size}
use Rattle.arity_check.specs.Accepted as check
use Rattle.arity_check.specs.Accepted.{IsFirstBroken}
use Rattle.arity_check.specs.Normal.{IsNormalForm}
use Rattle.arity_check.specs.Program.{Program, program as program_of}
use Rattle.text_commands.specs.declared.accept.Accepted.{Accepted}
use Rattle.text_commands.specs.declared.status.Status.{Status}
use Rattle.text_commands.specs.Writing.{IsTransformFailure}

-- Which rule a text breaks first, and where: one of the text, else one of its program.
pub data IsRefusedBy (text : List ℕ) : (rule number : ℕ) → Type 0 where
  Unread : (rule at : ℕ) → IsFirstUnread text rule at → IsRefusedBy text rule at
  Unaccepted : (rule at : ℕ) (p : tree.Program) → IsUnbroken text → IsText text p
      → IsFirstBroken p rule at → IsRefusedBy text rule at

-- The text breaks no rule, and stands for a program that has this normal form.
pub record IsAccepted (text : List ℕ) (source : tree.Program) (program : Program) : Type 0 where
  pub read : IsUnbroken text
  pub stands : IsText text source
  pub unbroken : check.BreaksNoRule source
  pub normal : IsNormalForm source program

-- the text breaks none of the rules of reading and checking
pub record IsAcceptable (text : List ℕ) : Type 0 where
  pub source : tree.Program
  pub program : Program
  pub accepted : IsAccepted text source program

-- a text that breaks no rule stands for one program, of one normal form
abbrev pub OneAcceptedProgram : Type 0
OneAcceptedProgram =
    (text : List ℕ) (source source' : tree.Program) (p p' : Program)
    → IsAccepted text source p → IsAccepted text source' p' → (source ≡ source') × (p ≡ p')

-- why a text is not read
abbrev pub IsTextRefusal : (text : List ℕ) → Status → Type 0
IsTextRefusal text status = IsTransformFailure IsFirstUnread text status

-- why a text has no program
abbrev pub IsAcceptFailure : (text : List ℕ) → Status → Type 0
IsAcceptFailure text status = IsTransformFailure IsRefusedBy text status

-- what is kept of an accepted text: the normal form and the size
pub record IsAcceptedAs (text : List ℕ) (kept : Accepted) : Type 0 where
  pub source : tree.Program
  pub accepted : IsAccepted text source (program_of kept.program)
  pub size : kept.size ≡ program_size source
