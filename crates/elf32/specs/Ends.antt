-- Where segments that are apart end, by where they begin.
use Rattle.std.specs.Prelude.{◌≡◌, ℕ, ◌+◌, ◌<◌, ◌≤◌, List, Option, Some, IsSome, IsTrue}
use Rattle.elf32.specs.declared.header.ProgramHeader.{ProgramHeader}
use Rattle.elf32.specs.Headers.{is_loadable}
use Rattle.elf32.specs.Rules.{Overlaps, header}

-- of the segments that begin below the limit, the last one begins at s and ends at e
pub record IsLastSegmentBelow (ends : ℕ → Option ℕ) (limit s e : ℕ) : Type 0 where
  pub below : s < limit
  pub ends_there : ends s ≡ Some e
  pub last : (t : ℕ) → t < limit → IsSome (ends t) → t ≤ s

-- the ends of the segments of the first n headers, which are apart
pub record AreSegmentEnds (headers : List ProgramHeader) (n : ℕ) (ends : ℕ → Option ℕ)
    : Type 0 where
  pub found : (s e : ℕ) → ends s ≡ Some e
      → (k : ℕ) × (k < n) × IsTrue (is_loadable (header headers k)) × ((header headers k).addr ≡ s)
      × (s + (header headers k).memory_size ≡ e) × (s < e)
  pub listed : (k : ℕ) → k < n → IsTrue (is_loadable (header headers k))
      → 0 < (header headers k).memory_size
      → ends (header headers k).addr
      ≡ Some ((header headers k).addr + (header headers k).memory_size)
  pub apart : (k : ℕ) → k < n → Overlaps headers k → ⊥
