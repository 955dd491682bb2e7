-- The rules of an executable, and which broken one a refusal names.
use Rattle.std.specs.Prelude.{◌≡◌, ◌≢◌, ℕ, ◌+◌, ◌*◌, ◌%◌, ◌^◌, ◌<◌, ◌≤◌, ◌⊎◌, List, [], ◌∷◌, IsTrue, length, take, slice_index_or, slice_index, Any, filter, sum_by}
use Rattle.elf32.specs.declared.header.ProgramHeader.{ProgramHeader}
use Rattle.elf32.specs.declared.refusal.ElfRefusal.{ElfRefusal}
use Rattle.elf32.specs.declared.refusal.ElfRefusal.TheVariants.{ImageTooLong, TooShort, NotElf, NotRiscv32Exec, HeaderOutside, SegmentOutside, SegmentsOverlap, EntryOutside, SegmentsTooLarge, Memory}
use Rattle.elf32.specs.Image.{Image}
use Rattle.elf32.specs.Headers.{half_at, entry_of, headers_offset, header_size, header_count, headers_of, is_loadable, image_of}

-- class 1 is 32 bits, data 1 the least byte first, type 2 an executable, machine 243 RISC-V
pub record IsRiscv32Exec (file : List ℕ) : Type 0 where
  pub class : slice_index file 4 ≡ 1
  pub order : slice_index file 5 ≡ 1
  pub type : half_at file 16 ≡ 2
  pub machine : half_at file 18 ≡ 243
  pub headers : 0 < header_count file → header_size file ≡ 32

-- bytes past the file's end, more bytes in the file than in memory, or addresses past 2^32
abbrev pub SegmentIsOutOfBounds : ℕ → ProgramHeader → Type 0
SegmentIsOutOfBounds len h =
    IsTrue (is_loadable h)
    × (((0 < h.file_size) × (len < h.offset + h.file_size))
    ⊎ ((h.memory_size < h.file_size) ⊎ (2 ^ 32 < h.addr + h.memory_size)))

-- the address belongs to the header's segment
abbrev pub Covers : ProgramHeader → ℕ → Type 0
Covers h address = IsTrue (is_loadable h) × (h.addr ≤ address) × (address < h.addr + h.memory_size)

-- a header that loads nothing stands for one past the last
abbrev pub no_header : ProgramHeader
no_header = record { kind = 0; offset = 0; addr = 0; file_size = 0; memory_size = 0; flags = 0 }

abbrev pub header : List ProgramHeader → ℕ → ProgramHeader
header headers i = slice_index_or headers i no_header

-- header j shares an address with an earlier one
abbrev pub Overlaps : List ProgramHeader → ℕ → Type 0
Overlaps headers j =
    (i : ℕ) × (address : ℕ) × (i < j) × Covers (header headers i) address
    × Covers (header headers j) address

abbrev pub IsLeast : (ℕ → Type 0) → ℕ → Type 0
IsLeast P i = P i × ((k : ℕ) → k < i → P k → ⊥)

-- the segment may be executed (PF_X) and has the entry
abbrev pub IsExecutableAtEntry : ℕ → ProgramHeader → Type 0
IsExecutableAtEntry entry h = (h.flags % 2 ≡ 1) × Covers h entry

-- the sizes of the loadable segments in memory, added up
abbrev pub loaded_size : List ProgramHeader → ℕ
loaded_size headers = sum_by (λ h. h.memory_size) (filter is_loadable headers)

-- what breaks a rule
abbrev pub Breaks : ElfRefusal → List ℕ → Type 0
Breaks ImageTooLong file = 1342177280 < length file
Breaks TooShort file = length file < 52
Breaks NotElf file = take 4 file ≢ (0x7F ∷ 0x45 ∷ 0x4C ∷ 0x46 ∷ [])
Breaks NotRiscv32Exec file = IsRiscv32Exec file → ⊥
Breaks HeaderOutside file =
    (0 < header_count file) × (length file < headers_offset file + 32 * header_count file)
Breaks (SegmentOutside i) file =
    IsLeast (λ k. SegmentIsOutOfBounds (length file) (header (headers_of file) k)) i
Breaks (SegmentsOverlap j) file = IsLeast (Overlaps (headers_of file)) j
Breaks EntryOutside file = Any (IsExecutableAtEntry (entry_of file)) (headers_of file) → ⊥
Breaks SegmentsTooLarge file = 2147483648 < loaded_size (headers_of file)
Breaks (Memory e) file = ⊥

-- the number of a rule; want of memory is none
abbrev pub rule : ElfRefusal → ℕ
rule ImageTooLong = 40
rule TooShort = 41
rule NotElf = 42
rule NotRiscv32Exec = 43
rule HeaderOutside = 44
rule (SegmentOutside i) = 45
rule (SegmentsOverlap j) = 46
rule EntryOutside = 47
rule SegmentsTooLarge = 48
rule (Memory e) = 0

-- no rule below this number is broken
abbrev pub KeepsBelow : ℕ → List ℕ → Type 0
KeepsBelow n file = (r : ElfRefusal) → rule r < n → Breaks r file → ⊥

-- the segments of the headers are as a program needs them
pub record IsSound (file : List ℕ) : Type 0 where
  pub inside : (i : ℕ) → SegmentIsOutOfBounds (length file) (header (headers_of file) i) → ⊥
  pub apart : (j : ℕ) → Overlaps (headers_of file) j → ⊥
  pub entered : Any (IsExecutableAtEntry (entry_of file)) (headers_of file)
  pub small : loaded_size (headers_of file) ≤ 2147483648

-- a refusal names the broken rule with the smallest number; want of memory may come at any point
abbrev pub NamesLeastBrokenRule : ElfRefusal → List ℕ → Type 0
NamesLeastBrokenRule (Memory e) file = Unit {0}
NamesLeastBrokenRule r file = Breaks r file × KeepsBelow (rule r) file

-- the file breaks no rule, and this is the program that its headers say
pub record Loads (file : List ℕ) (image : Image) : Type 0 where
  pub unbroken : KeepsBelow 49 file
  pub program : image ≡ image_of file
