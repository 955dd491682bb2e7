-- What the image of a text needs, told as a text, and what each status says of it.
use Rattle.std.specs.Prelude.{◌≡◌, ℕ, ◌*◌, List, [], ◌∷◌, ◌++◌, codes, decimal}
use Rattle.grin_syntax.specs.SameOutside.{names_of}
use Rattle.grin_io.specs.Changes.{SinkChange}
use Rattle.grin_compile.specs.Limits.{greatest, heap_bytes}
use Rattle.grin_compile.specs.Words.{start_words, code_words, most_steps}
use Rattle.text_commands.specs.declared.status.Status.{Status}
use Rattle.text_commands.specs.Writing.{Writes}
use Rattle.grin_driver.specs.Outcome.{IsRunRefusal, IsImageOf}

-- ---- the lines

-- a line with one number
unfoldable pub number_line : (name : List ℕ) → (number : ℕ) → List ℕ
number_line name number = name ++ (codes " " ++ (decimal number ++ codes "\n"))

-- a line with the bytes of a frame of so many words, and the words of code
unfoldable pub needs_line : (name : List ℕ) → (frame code : ℕ) → List ℕ
needs_line name frame code =
    name ++ (codes " frame " ++ (decimal (4 * frame) ++ (codes " code "
    ++ (decimal code ++ codes "\n"))))

-- a line for each procedure: its name, its frame and its code
abbrev pub procedure_lines : (names : List (List ℕ)) → (frames code : List ℕ) → List ℕ
procedure_lines [] frames code = []
procedure_lines (name ∷ names) [] code = []
procedure_lines (name ∷ names) (frame ∷ frames) [] = []
procedure_lines (name ∷ names) (frame ∷ frames) (words ∷ code) =
    needs_line name frame words ++ procedure_lines names frames code

-- What an image needs: the words before its procedures, the bytes of a cell, the most that a frame
-- has and the most steps that the start or an entry takes, and then a line for each procedure.
abbrev pub needs_text : (names : List (List ℕ)) → (frames code addresses : List ℕ) → (cell : ℕ)
    → List ℕ
needs_text names frames code addresses cell =
    number_line (codes "start code") (start_words code addresses)
    ++ (number_line (codes "cell") cell
    ++ (needs_line (codes "most") (greatest frames) (most_steps code addresses)
    ++ procedure_lines names frames (code_words code addresses)))

-- ---- of a text

-- these bytes tell what an image needs that is made of the text
pub record IsNeedsText (text : List ℕ) (cells stack : ℕ) (bytes : List ℕ) : Type 0 where
  pub file : List ℕ
  pub from : IsImageOf text cells stack file
  pub is_text :
      bytes
      ≡ needs_text (names_of from.made.g.procs) from.made.frames from.made.code from.made.addresses
      (heap_bytes from.made.g 1)

-- The status of a text of whose image it is told what it needs, with so many cells and bytes of
-- stack, and what became of the sink: puts of the pieces of what is told, and none at a refusal or
-- for want of memory.
abbrev pub IsNeedsOutcome :
    {K : Type 0} → SinkChange K → (text : List ℕ) → (cells stack : ℕ) → Status → Type 0
IsNeedsOutcome o text cells stack status =
    Writes (λ text. IsNeedsText text cells stack) IsRunRefusal o text status
