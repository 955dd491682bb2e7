-- A program is small beside its size.
use Rattle.grin_syntax.specs.Tree.{Program}
use Rattle.grin_meaning.specs.Slim.{Slim}
use Rattle.inline_theory.specs.Size.{size, largest_procedure}

abbrev pub IsLinearInSize : Type 0
IsLinearInSize = (g : Program) → Slim (size g) (largest_procedure g) g
