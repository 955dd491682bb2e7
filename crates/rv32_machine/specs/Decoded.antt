-- Instructions that are kept decoded, each with its address.
use Rattle.std.specs.Prelude.{◌≡◌, ℕ, ◌%◌, List, All, false, true, Option, Some, None, length}
use Rattle.rv32_isa.specs.Table.{instr_of}
use Rattle.rv32_machine.specs.declared.memory.Right.TheVariants.{Execute}
use Rattle.rv32_machine.specs.declared.memory.Access.TheVariants.{At, Outside as outside}
use Rattle.rv32_machine.specs.declared.store.Decoded.{Decoded}
use Rattle.rv32_machine.specs.declared.store.Fetched.{Fetched}
use Rattle.rv32_machine.specs.declared.store.Fetched.TheVariants.{Instr, Illegal, Outside}
use Rattle.rv32_machine.specs.Memory.{Stretch, access, segment_at, bytes_at, little_endian, is_in}
use Rattle.rv32_machine.specs.Starts.{Starts}

-- so many bytes at a place of memory are the word that an instruction is fetched from
abbrev pub IsWordAt : List Stretch → (address word : ℕ) → (segment offset : ℕ) → Type 0
IsWordAt memory address word segment offset =
    (access Execute memory address 4 ≡ At segment offset)
    × (little_endian (bytes_at memory segment offset 4) ≡ word)

-- what stands at an address: an instruction, a word that is none, or nothing that may be executed
abbrev pub IsFetchResult : List Stretch → (address : ℕ) → Fetched → Type 0
IsFetchResult memory address (Instr i) =
    (segment offset word : ℕ) × IsWordAt memory address word segment offset
    × (instr_of word ≡ Some i)
IsFetchResult memory address (Illegal word) =
    (segment offset : ℕ) × IsWordAt memory address word segment offset × (instr_of word ≡ None)
IsFetchResult memory address (Outside a) = access Execute memory address 4 ≡ outside a

-- the instruction stands at its address, in a segment that can't be written
pub record IsCachedInstr (memory : List Stretch) (d : Decoded) : Type 0 where
  pub segment : ℕ
  pub offset : ℕ
  pub word : ℕ
  pub stands : IsWordAt memory d.address word segment offset
  pub decodes : instr_of word ≡ Some d.instr
  pub fixed : (segment_at memory segment).write ≡ false

-- no two segments share an address
abbrev pub SegmentsAreDisjoint : List Stretch → Type 0
SegmentsAreDisjoint memory =
    (address m n : ℕ) → is_in address (segment_at memory m) ≡ true
    → is_in address (segment_at memory n) ≡ true → m ≡ n

-- the segments, where they begin, and so many instructions that are kept; a place with an address
-- that is no multiple of four is empty
pub record IsMemoryWithCache (memory : List Stretch) (begins : ℕ → Option ℕ)
    (decoded : List Decoded)
    : Type 0 where
  pub apart : SegmentsAreDisjoint memory
  pub starts : Starts memory (length memory) begins
  pub places : length decoded ≡ 65536
  pub kept : All (λ d. d.address % 4 ≡ 0 → IsCachedInstr memory d) decoded
