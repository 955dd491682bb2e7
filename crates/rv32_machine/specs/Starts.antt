-- Segments by where they begin.
use Rattle.std.specs.Prelude.{◌≡◌, ℕ, ◌<◌, List, Option, Some, IsSome, true}
use Rattle.rv32_machine.specs.Memory.{Stretch, is_in, segment_at}

-- those of the first segments that have addresses are listed by their first ones
pub record Starts (memory : List Stretch) (many : ℕ) (starts : ℕ → Option ℕ) : Type 0 where
  pub found : (s n : ℕ) → starts s ≡ Some n → is_in s (segment_at memory n) ≡ true
  pub listed : (n address : ℕ) → n < many → is_in address (segment_at memory n) ≡ true
      → IsSome (starts (segment_at memory n).first)
