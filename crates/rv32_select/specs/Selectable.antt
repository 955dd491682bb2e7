-- What instructions are selected for: formed programs of some size, places that fit them, and room
-- in limits.
use Rattle.std.specs.Prelude.{◌≡◌, ℕ, ◌*◌, ◌%◌, ◌≤◌, ◌<◌, length, Some, slice_get}
use Rattle.low_code.specs.Tree.{Procedure, Program}
use Rattle.low_code.specs.Formed.{Formed}
use Rattle.low_code.specs.Size.{program_size}
use Rattle.register_alloc.specs.Assignment.{Assignment, words_at}
use Rattle.register_alloc.specs.Fits.{Fits}
use Rattle.limits.specs.Limits.{largest_program, most_cells, least_stack, most_stack}

pub record Selectable (l : Program) (a : Assignment) (cells stack : ℕ) : Type 0 where
  pub formed : Formed l
  pub fits : Fits l a
  pub few_params : (f : ℕ) (q : Procedure) → slice_get l.procs f ≡ Some q → length q.params ≤ 16
  pub few_results : (f : ℕ) (q : Procedure) → slice_get l.procs f ≡ Some q → q.results ≤ 13
  pub width : (1 ≤ l.width) × (l.width ≤ 14)
  pub size : program_size l ≤ 25165824
  pub procedures : length l.procs ≤ largest_program
  pub globals : length l.globals ≤ largest_program
  pub frames : (f : ℕ) → 4 * words_at a f < 268435456
  pub few_cells : (1 ≤ cells) × (cells ≤ most_cells)
  pub stack_bytes : (least_stack ≤ stack) × (stack ≤ most_stack) × (stack % 4 ≡ 0)
