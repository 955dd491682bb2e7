-- The listing of a text's code, and what each status says of it.
use Rattle.std.specs.Prelude.{◌≡◌, ℕ, ◌+◌, ◌/◌, ◌%◌, List, [], ◌∷◌, ◌++◌, codes, nat_lt, if◌then◌else◌, Option, Some, None}
use Rattle.rv32_isa.specs.declared.instr.Instr.{Instr}
use Rattle.rv32_isa.specs.Table.{instr_of}
use Rattle.rv32_isa.specs.Text.{assembly_text}
use Rattle.rv32_layout.specs.Places.{AllDecode}
use Rattle.grin_io.specs.Changes.{SinkChange}
use Rattle.text_commands.specs.declared.status.Status.{Status}
use Rattle.grin_driver.specs.Outcome.{IsRunRefusal, IsImageOf}
use Rattle.text_commands.specs.Writing.{Writes}
use Rattle.limits.specs.Limits.{code_start}

-- ---- the lines

-- a digit below 16, in lower case
abbrev pub hex_digit : ℕ → ℕ
hex_digit n = if nat_lt n 10 then n + 48 else n + 87

-- the eight digits of a number below 2^32
unfoldable pub hex_word : ℕ → List ℕ
hex_word n =
    hex_digit (n / 0x10000000) ∷ hex_digit (n / 0x1000000 % 16)
    ∷ hex_digit (n / 0x100000 % 16) ∷ hex_digit (n / 0x10000 % 16)
    ∷ hex_digit (n / 0x1000 % 16) ∷ hex_digit (n / 0x100 % 16)
    ∷ hex_digit (n / 0x10 % 16) ∷ hex_digit (n % 16) ∷ []

-- the text of an instruction, if there is one
abbrev pub instr_text : Option Instr → List ℕ
instr_text None = []
instr_text (Some i) = assembly_text i

-- the address of a word, the word, and the text of its instruction
unfoldable pub code_line : (address word : ℕ) → List ℕ
code_line address word =
    hex_word address ++ (codes " " ++ (hex_word word ++ (codes " "
    ++ (instr_text (instr_of word) ++ codes "\n"))))

-- a line for each word, of which the first stands at this address
abbrev pub lines_from : (address : ℕ) → List ℕ → List ℕ
lines_from address [] = []
lines_from address (word ∷ words) = code_line address word ++ lines_from (address + 4) words

-- the listing of the code of an image
abbrev pub code_listing : List ℕ → List ℕ
code_listing words = lines_from code_start words

-- ---- of a text

-- these words are the code of an image that is made of the text, and each of them is an instruction
pub record IsCodeOf (text : List ℕ) (cells stack : ℕ) (code : List ℕ) : Type 0 where
  pub file : List ℕ
  pub from : IsImageOf text cells stack file
  pub is_code : from.made.code ≡ code
  pub decode : AllDecode code

-- these bytes are the listing of the code of an image that is made of the text, each word of which
-- is an instruction
pub record IsCodeListing (text : List ℕ) (cells stack : ℕ) (bytes : List ℕ) : Type 0 where
  pub file : List ℕ
  pub from : IsImageOf text cells stack file
  pub decode : AllDecode from.made.code
  pub is_listing : bytes ≡ code_listing from.made.code

-- The status of a text whose code is listed, and what became of the sink: puts of the listing's
-- pieces, and none at a refusal or for want of memory.
abbrev pub IsCodeListOutcome :
    {K : Type 0} → SinkChange K → (text : List ℕ) → (cells stack : ℕ) → Status → Type 0
IsCodeListOutcome o text cells stack status =
    Writes (λ text. IsCodeListing text cells stack) IsRunRefusal o text status
