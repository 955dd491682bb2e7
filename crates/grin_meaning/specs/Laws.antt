-- The law of keeping.
use Rattle.grin_syntax.specs.Tree.{Program}
use Rattle.grin_meaning.specs.Keeps.{Keeps}

-- what keeps what keeps a program keeps it
abbrev pub PreservationComposes : Type 0
PreservationComposes = (g h k : Program) → Keeps g h → Keeps h k → Keeps g k
