-- Bytes of a segment that are kept, and zeros behind them that nothing keeps.
use Rattle.std.specs.Prelude.{ℕ, ◌-◌, ◌≤◌, ◌++◌, List, length, replicate}

-- bytes, and as many zeros as the size still wants
abbrev pub with_zeros : ℕ → List ℕ → List ℕ
with_zeros size bytes = bytes ++ replicate (size - length bytes) 0

-- so many bytes are kept, no more than the size, and there is room for all
abbrev pub HasRoom : (size kept capacity : ℕ) → Type 0
HasRoom size kept capacity = (kept ≤ size) × (size ≤ capacity)
