-- Parts that are numbered.
use Rattle.std.specs.Prelude.{ℕ}
use Rattle.flow_system.specs.declared.fact.Part.{Part}
use Rattle.flow_system.specs.declared.fact.Part.TheVariants.{Field, Word}
use Rattle.points_to.specs.declared.give.Numbering.{Numbering}
use Rattle.points_to.specs.declared.give.Numbering.TheVariants.{Words, Fields}

abbrev pub numbered_part : Numbering → ℕ → Part
numbered_part Words j = Word j
numbered_part (Fields t) j = Field t j
