-- Data that is used by words: a segment for the heap and one for the stack, behind the code's.
use Rattle.std.specs.Prelude.{◌≡◌, ℕ, ◌+◌, ◌-◌, ◌*◌, ◌/◌, ◌%◌, ◌^◌, ◌<◌, ◌≤◌, ◌⊎◌, List, [], ◌∷◌, ◌++◌, length, nat_lt, true, false, if◌then◌else◌}
use Rattle.std.proofs.Common.{get_or, set}
use Rattle.rv32_machine.specs.Memory.{Stretch, end_of, bytes_of}

-- words as bytes, little-endian
abbrev pub words_bytes : List ℕ → List ℕ
words_bytes [] = []
words_bytes (w ∷ ws) = bytes_of 4 w ++ words_bytes ws

abbrev pub AreWords : List ℕ → Type 0
AreWords [] = Unit {0}
AreWords (w ∷ ws) = (w < 2 ^ 32) × AreWords ws

-- a segment of words that may be written
abbrev pub word_segment : ℕ → List ℕ → Stretch
word_segment first ws = record { first = first; write = true; exec = false; bytes = words_bytes ws }

-- the first addresses of the heap and of the stack
pub record Bases : Type 0 where
  pub heap : ℕ
  pub stack : ℕ

-- the words of the heap and of the stack
pub record Words : Type 0 where
  pub heap : List ℕ
  pub stack : List ℕ

-- the code, the heap, the stack, and whatever else there is
abbrev pub memory_of : Stretch → Bases → Words → List Stretch → List Stretch
memory_of c b w rest = c ∷ word_segment b.heap w.heap ∷ word_segment b.stack w.stack ∷ rest

-- the code may not be written and stands below the heap, and the heap below the stack
pub record MemoryIsLaidOut (c : Stretch) (b : Bases) (w : Words) : Type 0 where
  pub fixed : c.write ≡ false
  pub code_below : end_of c ≤ b.heap
  pub heap_below : b.heap + 4 * length w.heap ≤ b.stack
  pub heap_four : b.heap % 4 ≡ 0
  pub stack_four : b.stack % 4 ≡ 0
  pub heap_words : AreWords w.heap
  pub stack_words : AreWords w.stack

-- the number of the word at an address
abbrev pub word_index : (base address : ℕ) → ℕ
word_index base address = (address - base) / 4

abbrev pub IsWordIndex : (base : ℕ) → List ℕ → (address : ℕ) → Type 0
IsWordIndex base ws address =
    (address ≡ base + 4 * word_index base address) × (word_index base address < length ws)

-- a word of the heap or of the stack stands at this address
abbrev pub IsWord : Bases → Words → ℕ → Type 0
IsWord b w address = IsWordIndex b.heap w.heap address ⊎ IsWordIndex b.stack w.stack address

abbrev pub word_at : Bases → Words → ℕ → ℕ
word_at b w address =
    if nat_lt address b.stack then get_or w.heap (word_index b.heap address) 0
    else get_or w.stack (word_index b.stack address) 0

abbrev pub with_word : Bases → Words → ℕ → ℕ → Words
with_word b w address v =
    if nat_lt address b.stack then record {
      heap = set w.heap (word_index b.heap address) v;
      stack = w.stack;
    }
    else record { heap = w.heap; stack = set w.stack (word_index b.stack address) v }
