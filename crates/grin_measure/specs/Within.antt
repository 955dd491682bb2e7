-- How the counts of a program stand to the bounds of a slim one.
use Rattle.std.specs.Prelude.{◌≡◌, ◌*◌, ◌≤◌}
use Rattle.grin_syntax.specs.Tree.{Program}
use Rattle.inline_theory.specs.Size.{size, largest_procedure}
use Rattle.grin_measure.specs.declared.counts.Counts.{Counts}
use Rattle.grin_measure.specs.declared.measure.Sizes.{Sizes}
use Rattle.inline_theory.specs.Expanded.{saturated_at_64_bits}

pub record HasSizes (g : Program) (s : Sizes) : Type 0 where
  pub program : s.program ≡ saturated_at_64_bits (size g)
  pub largest : s.largest ≡ saturated_at_64_bits (largest_procedure g)

pub record Within (all own : Counts) (s : Sizes) : Type 0 where
  pub weight : all.weight ≤ 48 * s.program
  pub calls : all.calls ≤ s.program
  pub words : own.words ≤ 20 * s.largest
