-- The limits of texts, programs and images.
use Rattle.std.specs.Prelude.{ℕ}

-- the most bytes of a text: rule 5
abbrev pub most_bytes : ℕ
most_bytes = 1048576

-- the most brackets, lets and cases that are open at one place of a text: rule 4
abbrev pub most_open : ℕ
most_open = 200

-- the largest size of a program whose evaluations and applications are spelled out: rule 36
abbrev pub largest_program : ℕ
largest_program = 131072

-- cells of a heap: where the command line says none, and the most
abbrev pub default_cells : ℕ
default_cells = 1000000

abbrev pub most_cells : ℕ
most_cells = 8000000

-- bytes of a stack: where the command line says none, the fewest and the most
abbrev pub default_stack : ℕ
default_stack = 1048576

abbrev pub least_stack : ℕ
least_stack = 1024

abbrev pub most_stack : ℕ
most_stack = 67108864

-- instructions of a run: where the command line says none, and the most
abbrev pub default_steps : ℕ
default_steps = 1000000000

abbrev pub most_steps : ℕ
most_steps = 1000000000000

-- the most words of the code of an image
abbrev pub most_code : ℕ
most_code = 268435456

-- the address of the first byte of the code, of the first byte of the heap, and the one behind the
-- last byte of the stack
abbrev pub code_start : ℕ
code_start = 65536

abbrev pub heap_start : ℕ
heap_start = 0x50000000

abbrev pub stack_end : ℕ
stack_end = 0x78000000
