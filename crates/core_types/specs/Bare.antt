-- Heads and arguments without brackets that have no arguments.
use Rattle.std.specs.Prelude.{ℕ}
use Rattle.core_reader.specs.Tree.{Term, Name, Con, Int, Bracket, NoTerms, AndTerm}

abbrev pub bare : Term → Term
bare (Name n at) = Name n at
bare (Con n at) = Con n at
bare (Int k at) = Int k at
bare (Bracket head NoTerms at) = bare head
bare (Bracket head (AndTerm a args) at) = Bracket head (AndTerm a args) at

-- the place of a head or an argument
abbrev pub place_of : Term → ℕ
place_of (Name n at) = at
place_of (Con n at) = at
place_of (Int k at) = at
place_of (Bracket head args at) = at
