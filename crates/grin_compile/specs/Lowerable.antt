-- Programs of GRIN of which code can be made.
use Rattle.std.specs.Prelude.{◌≤◌, ℕ, length}
use Rattle.grin_syntax.specs.Tree.{Program}
use Rattle.grin_syntax.specs.Formed.{Formed}
use Rattle.grin_meaning.specs.Ready.{Ready, IsVectorised}
use Rattle.grin_meaning.specs.Slim.{Slim}
use Rattle.low_translate.specs.Lowers.{TargetsFitCells}
use Rattle.limits.specs.Limits.{largest_program}

-- well formed and vectorised, and slim beside a program that is not too large
pub record IsLowerable (g : Program) : Type 0 where
  pub formed : Formed g
  pub ready : Ready g
  pub vectorised : IsVectorised g
  pub narrow : TargetsFitCells g
  pub size : ℕ
  pub largest : ℕ
  pub slim : Slim size largest g
  pub fits : size ≤ largest_program
  pub largest_fits : largest ≤ size
  pub few_procs : length g.procs ≤ size
  pub few_globals : length g.globals ≤ 4096
