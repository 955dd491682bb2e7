-- What the headers of an ELF file say, by the object file chapters of the System V ABI.
use Rattle.std.specs.Prelude.{ℕ, zero, suc, ◌+◌, ◌/◌, ◌%◌, List, [], ◌∷◌, Bool, nat_eq, take, drop, map, filter}
use Rattle.byteorder.specs.Endian.{little_number}
use Rattle.elf32.specs.declared.header.ProgramHeader.{ProgramHeader}
use Rattle.elf32.specs.Image.{ImageSegment, Image}

-- the number of two bytes, and of four, at an offset
abbrev pub half_at : List ℕ → ℕ → ℕ
half_at file offset = little_number 2 (drop offset file)

abbrev pub word_at : List ℕ → ℕ → ℕ
word_at file offset = little_number 4 (drop offset file)

abbrev pub entry_of : List ℕ → ℕ
entry_of file = word_at file 24

-- where the program headers begin, how long one is, and how many there are
abbrev pub headers_offset : List ℕ → ℕ
headers_offset file = word_at file 28

abbrev pub header_size : List ℕ → ℕ
header_size file = half_at file 42

abbrev pub header_count : List ℕ → ℕ
header_count file = half_at file 44

abbrev pub header_at : List ℕ → ℕ → ProgramHeader
header_at file offset = record {
  kind = word_at file offset;
  offset = word_at file (offset + 4);
  addr = word_at file (offset + 8);
  file_size = word_at file (offset + 16);
  memory_size = word_at file (offset + 20);
  flags = word_at file (offset + 24);
}

-- so many program headers from an offset on
abbrev pub headers_from : List ℕ → (offset count : ℕ) → List ProgramHeader
headers_from file offset zero = []
headers_from file offset (suc n) = header_at file offset ∷ headers_from file (offset + 32) n

unfoldable pub headers_of : List ℕ → List ProgramHeader
headers_of file = headers_from file (headers_offset file) (header_count file)

-- its type is PT_LOAD
abbrev pub is_loadable : ProgramHeader → Bool
is_loadable h = nat_eq h.kind 1

-- PF_X is bit 0 of the flags, PF_W bit 1
abbrev pub part_of : List ℕ → ProgramHeader → ImageSegment
part_of file h = record {
  addr = h.addr;
  size = h.memory_size;
  bytes = take h.file_size (drop h.offset file);
  write = nat_eq (h.flags / 2 % 2) 1;
  exec = nat_eq (h.flags % 2) 1;
}

-- the program: the segments of the loadable headers, in their order
abbrev pub image_of : List ℕ → Image
image_of file = record {
  entry = entry_of file;
  segments = map (part_of file) (filter is_loadable (headers_of file));
}
