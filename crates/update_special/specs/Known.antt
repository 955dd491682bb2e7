-- What the code keeps of a program and a solution, and what it says of a variable.
use Rattle.std.specs.Prelude.{ℕ, List}
use Rattle.points_to.specs.Found.{found}
use Rattle.update_special.specs.declared.blocks.Tags.{Tags}
use Rattle.update_special.specs.Updates.{tags_of}

-- the tags in the set of a variable
abbrev pub tags_by_solution : Tags → ℕ → List ℕ
tags_by_solution t = tags_of t.count (found t.flow.now)
