-- Memory: segments of bytes with rights.
use Rattle.std.specs.Prelude.{◌≡◌, ℕ, zero, suc, ◌+◌, ◌-◌, ◌*◌, ◌/◌, ◌%◌, ◌^◌, List, [], ◌∷◌, ◌++◌, Bool, true, false, ◌&&◌, nat_eq, nat_lt, nat_le, ◌<◌, ◌≤◌, if◌then◌else◌, length, take, drop, replicate, Option, Some, None, slice_index_or, slice_set}
use Rattle.elf32.specs.Image.{ImageSegment}
use Rattle.rv32_machine.specs.declared.memory.Right.{Right}
use Rattle.rv32_machine.specs.declared.memory.Right.TheVariants.{Read, Write, Execute}
use Rattle.rv32_machine.specs.declared.memory.Access.{Access}
use Rattle.rv32_machine.specs.declared.memory.Access.TheVariants.{At, Outside}

-- a segment in memory: its first address, its rights and its bytes
pub record Stretch : Type 0 where
  pub first : ℕ
  pub write : Bool
  pub exec : Bool
  pub bytes : List ℕ

-- the segment that a program asks for: its bytes, and then zeros
abbrev pub stretch_of : ImageSegment → Stretch
stretch_of p =
    record {
      first = p.addr;
      write = p.write;
      exec = p.exec;
      bytes = p.bytes ++ replicate (p.size - length p.bytes) 0;
    }

abbrev pub no_stretch : Stretch
no_stretch = record { first = 0; write = false; exec = false; bytes = [] }

-- a load needs a segment, a store one that may be written, an instruction one that may be executed
abbrev pub allows : Right → Stretch → Bool
allows Read s = true
allows Write s = s.write
allows Execute s = s.exec

abbrev pub end_of : Stretch → ℕ
end_of s = s.first + length s.bytes

abbrev pub is_in : ℕ → Stretch → Bool
is_in address s = nat_le s.first address && nat_lt address (end_of s)

-- the number of the segment that allows it and has the address, counted from n: the first one, if
-- there were several
abbrev pub place_from : Right → ℕ → ℕ → List Stretch → Option ℕ
place_from right address n [] = None
place_from right address n (s ∷ rest) =
    if allows right s && is_in address s then Some n else place_from right address (n + 1) rest

abbrev pub segment_at : List Stretch → ℕ → Stretch
segment_at memory n = slice_index_or memory n no_stretch

abbrev pub within : (address len n : ℕ) → Stretch → Access
within address len n s =
    if nat_le (address + len) (end_of s) then At n (address - s.first)
    else Outside (end_of s % 2 ^ 32)

abbrev pub at_place : List Stretch → (address len : ℕ) → Option ℕ → Access
at_place memory address len None = Outside address
at_place memory address len (Some n) = within address len n (segment_at memory n)

-- where an access goes, which stands in one segment; else the first of its addresses that is not in
-- the segment of the first one, or the first one itself where no segment serves
unfoldable pub access : Right → List Stretch → (address len : ℕ) → Access
access right memory address len = at_place memory address len (place_from right address 0 memory)

-- a number as so many bytes, the low one first, and back
abbrev pub bytes_of : ℕ → ℕ → List ℕ
bytes_of zero v = []
bytes_of (suc n) v = v % 256 ∷ bytes_of n (v / 256)

abbrev pub little_endian : List ℕ → ℕ
little_endian [] = 0
little_endian (b ∷ bs) = b + 256 * little_endian bs

-- the bytes at a place
abbrev pub bytes_at : List Stretch → (segment offset len : ℕ) → List ℕ
bytes_at memory segment offset len = take len (drop offset (segment_at memory segment).bytes)

-- bytes put over others, from an offset on
abbrev pub put_over : List ℕ → ℕ → List ℕ → List ℕ
put_over old offset [] = old
put_over old offset (b ∷ bs) = put_over (slice_set old offset b) (offset + 1) bs

abbrev pub with_bytes : Stretch → List ℕ → Stretch
with_bytes s bytes = record { first = s.first; write = s.write; exec = s.exec; bytes = bytes }

abbrev pub stored_at : List Stretch → (segment offset : ℕ) → List ℕ → List Stretch
stored_at memory segment offset new =
    let s = segment_at memory segment in
    slice_set memory segment (with_bytes s (put_over s.bytes offset new))

-- bytes stored where an access goes; nothing changes outside
abbrev pub stored_to : List Stretch → List ℕ → Access → List Stretch
stored_to memory new (Outside address) = memory
stored_to memory new (At n offset) = stored_at memory n offset new

-- the place and so many bytes there are in memory
abbrev pub IsInside : List Stretch → ℕ → Access → Type 0
IsInside memory len (At n offset) =
    (n < length memory) × (offset + len ≤ length (segment_at memory n).bytes)
IsInside memory len (Outside address) = Unit {0}

-- the number is that of the segment where an access that begins at the address goes, or, where none
-- serves, how many there are
abbrev pub IsPlace : Right → (address : ℕ) → List Stretch → (number : ℕ) → Type 0
IsPlace right address memory number =
    place_from right address 0 memory
    ≡ (if nat_lt number (length memory) then Some number else None)

-- the segment at the place has the right
abbrev pub IsAllowed : Right → List Stretch → Access → Type 0
IsAllowed right memory (At n offset) = allows right (segment_at memory n) ≡ true
IsAllowed right memory (Outside address) = Unit {0}

abbrev pub read_at : List Stretch → (len : ℕ) → Access → Option (List ℕ)
read_at memory len (At n offset) = Some (bytes_at memory n offset len)
read_at memory len (Outside address) = None

-- the bytes of a range, where it is in one segment; a length of 0 is in every range
abbrev pub range_bytes : List Stretch → (address len : ℕ) → Option (List ℕ)
range_bytes memory address len =
    if nat_eq len 0 then Some [] else read_at memory len (access Read memory address len)
