-- What a larger bound on the units changes.
use Rattle.std.specs.Prelude.{◌≡◌, ◌≢◌, ℕ, ◌+◌, ◌≤◌, List}
use Rattle.arity_check.specs.Program.{Program}
use Rattle.core_meaning.specs.Heap.{Delayed}
use Rattle.core_meaning.specs.Evaluation.{State, within}
use Rattle.core_meaning.specs.Printing.{PrintedRun, Going, print, printed}
use Rattle.headline.specs.Carries.{IsPrefixOf}

-- b goes on from where a stood: no output is lost, cells, depth and bytes taken are no fewer, and
-- where a has ended nothing changes
pub record RunExtends (a b : PrintedRun) : Type 0 where
  pub output : IsPrefixOf a.out b.out
  pub cells : a.cells ≤ b.cells
  pub depth : a.depth ≤ b.depth
  pub used : a.used ≤ b.used
  pub ended : a.end ≢ Going → b ≡ a

abbrev pub LargerBoundExtendsRun : Type 0
LargerBoundExtendsRun =
    (p : Program) (i : List ℕ) (m n : ℕ) → m ≤ n → RunExtends (printed p i m) (printed p i n)

-- the numbers by which evaluation and the printing loop recurse end nothing by themselves: from the
-- units left on, each number gives the same
pub record RecursionAddsNoBound : Type 0 where
  pub evaluation : (p : Program) (n m : ℕ) (t : Delayed) (d : ℕ) (s : State)
      → s.left ≤ n → within p (n + m) t d s ≡ within p n t d s
  pub printing : (p : Program) (n m a : ℕ) (out : List ℕ) (s : State) → s.left ≤ n
      → print p (n + m) a out s ≡ print p n a out s
