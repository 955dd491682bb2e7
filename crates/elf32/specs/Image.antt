-- A program to run: the segments of memory that it asks for, and where it begins.
use Rattle.std.specs.Prelude.{ℕ, Bool, IsTrue, ◌+◌, ◌^◌, ◌<◌, ◌≤◌, List, length, AllPairs, Any, sum_by}

-- a segment: `bytes` stand at its first address, `addr`, and zeros follow up to `size`
pub record ImageSegment : Type 0 where
  pub addr : ℕ
  pub size : ℕ
  pub bytes : List ℕ
  pub write : Bool
  pub exec : Bool

pub record Image : Type 0 where
  pub entry : ℕ
  pub segments : List ImageSegment

-- an address of the segment; a segment of size 0 has none
abbrev pub ContainsAddress : ImageSegment → ℕ → Type 0
ContainsAddress p address = (p.addr ≤ address) × (address < p.addr + p.size)

-- the bytes fit into the segment, and it ends where the addresses of 32 bits end, or before
pub record IsSoundSegment (p : ImageSegment) : Type 0 where
  pub bytes_fit : length p.bytes ≤ p.size
  pub ends : p.addr + p.size ≤ 2 ^ 32

abbrev pub SegmentsDoNotOverlap : ImageSegment → ImageSegment → Type 0
SegmentsDoNotOverlap p q = (address : ℕ) → ContainsAddress p address → ¬ ContainsAddress q address

-- the first instruction may be executed
abbrev pub EntryIsExecutable : ℕ → ImageSegment → Type 0
EntryIsExecutable entry p = IsTrue p.exec × ContainsAddress p entry

-- the sizes of the segments, added up
abbrev pub memory_size : List ImageSegment → ℕ
memory_size segments = sum_by (λ p. p.size) segments

pub record IsLoadable (i : Image) : Type 0 where
  pub apart : AllPairs SegmentsDoNotOverlap i.segments
  pub entered : Any (EntryIsExecutable i.entry) i.segments
  pub small : memory_size i.segments ≤ 2147483648
