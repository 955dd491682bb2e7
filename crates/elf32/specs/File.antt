-- The file of a compiled program, by the object file chapters of the System V ABI (ELF header,
-- program header) and the RISC-V ELF psABI: the ELF header, three program headers, zeros up to
-- offset 4096, and the words of the code.
use Rattle.std.specs.Prelude.{ℕ, ◌+◌, ◌-◌, ◌*◌, ◌<◌, ◌≤◌, List, [], ◌∷◌, ◌++◌, length, replicate, true, false}
use Rattle.std.specs.List.{flat_map}
use Rattle.byteorder.specs.Endian.{little_bytes}
use Rattle.elf32.specs.Image.{Image}
use Rattle.limits.specs.Limits.{code_start, heap_start, stack_end, most_code}

-- numbers of two bytes each, and of four, the least byte first
abbrev pub halfword_bytes : List ℕ → List ℕ
halfword_bytes numbers = flat_map (little_bytes 2) numbers

abbrev pub words : List ℕ → List ℕ
words numbers = flat_map (little_bytes 4) numbers

-- the mark of ELF, then 32 bits, least byte first, version 1
abbrev pub identification : List ℕ
identification = 0x7F ∷ 0x45 ∷ 0x4C ∷ 0x46 ∷ 1 ∷ 1 ∷ 1 ∷ 0 ∷ 0 ∷ 0 ∷ 0 ∷ 0 ∷ 0 ∷ 0 ∷ 0 ∷ 0 ∷ []

-- type 2 is an executable, machine 243 RISC-V, version 1; the entry is where the code
-- starts, and three program headers of 32 bytes begin at offset 52; there are no sections and no
-- flags
abbrev pub elf_header : List ℕ
elf_header =
    identification
    ++ halfword_bytes (2 ∷ 243 ∷ [])
    ++ words (1 ∷ code_start ∷ 52 ∷ 0 ∷ 0 ∷ [])
    ++ halfword_bytes (52 ∷ 32 ∷ 3 ∷ 0 ∷ 0 ∷ 0 ∷ [])

-- a loadable segment, whose physical address is its virtual one
abbrev pub program_header : (offset addr file_size memory_size flags align : ℕ) → List ℕ
program_header offset addr file_size memory_size flags align =
    words (1 ∷ offset ∷ addr ∷ addr ∷ file_size ∷ memory_size ∷ flags ∷ align ∷ [])

-- flags 5 are to read and to execute, 6 to read and to write
abbrev pub headers : (code_size heap_bytes stack_bytes : ℕ) → List ℕ
headers code_size heap_bytes stack_bytes =
    elf_header
    ++ program_header 4096 code_start code_size code_size 5 4096
    ++ program_header 0 heap_start 0 heap_bytes 6 4
    ++ program_header 0 (stack_end - stack_bytes) 0 stack_bytes 6 4

-- the headers have 148 bytes, so the code begins at offset 4096
unfoldable pub file_of : (code : List ℕ) (heap_bytes stack_bytes : ℕ) → List ℕ
file_of code heap_bytes stack_bytes =
    headers (4 * length code) heap_bytes stack_bytes ++ replicate 3948 0 ++ words code

-- there is code, of at most so many words, and the heap ends before the stack begins
pub record SizesFitLayout (code : List ℕ) (heap_bytes stack_bytes : ℕ) : Type 0 where
  pub some : 0 < length code
  pub code_fits : length code ≤ most_code
  pub data_fits : heap_start + heap_bytes + stack_bytes ≤ stack_end

-- the program that the file stands for: the code, a heap of zeros and a stack of zeros
abbrev pub program : (code : List ℕ) (heap_bytes stack_bytes : ℕ) → Image
program code heap_bytes stack_bytes = record {
  entry = code_start;
  segments =
      record {
        addr = code_start;
        size = 4 * length code;
        bytes = words code;
        write = false;
        exec = true;
      }
      ∷ record { addr = heap_start; size = heap_bytes; bytes = []; write = true; exec = false }
      ∷ record {
        addr = stack_end - stack_bytes;
        size = stack_bytes;
        bytes = [];
        write = true;
        exec = false;
      }
      ∷ [];
}
