-- What holds of all equations that were read: their names have texts of their kinds, and they are
-- not too large.
use Rattle.std.specs.Prelude.{ℕ, ◌+◌, ◌*◌, ◌<◌, ◌^◌, List, All}
use Rattle.seq.specs.Lists.{AllOf}
use Rattle.core_reader.specs.Words.{IsInRange}
use Rattle.core_reader.specs.Readable.{IsConstructor, IsTextAt, IsNamed, IsBound, ReadableExpr, ReadableData, AreDistinct}
use Rattle.match_compile.specs.Source.{Pat, Name, Int, Con, Pats, NoPats, AndPat, Equation, Source}
use Rattle.match_compile.specs.Sizes.{source_size, tests}

abbrev mutual
  pub ReadablePat : List (List ℕ) → Pat → Type 0
  ReadablePat names (Name b) = IsBound names b
  ReadablePat names (Int k at) = IsInRange k
  ReadablePat names (Con c ps) = IsTextAt names IsConstructor c.name.0 × ReadablePats names ps

  pub ReadablePats : List (List ℕ) → Pats → Type 0
  ReadablePats names NoPats = Unit {0}
  ReadablePats names (AndPat p ps) = ReadablePat names p × ReadablePats names ps

abbrev pub ReadableEquation : List (List ℕ) → Equation → Type 0
ReadableEquation names e =
    IsNamed names e.name × ReadablePats names e.pats × ReadableExpr names e.body

pub record IsReadable (c : Source) : Type 0 where
  pub different : AreDistinct c.names
  pub constructors : All (ReadableData c.names) c.constructors
  pub equations : AllOf (ReadableEquation c.names) c.equations
  pub size : source_size c + 16 * tests c < 2 ^ 64
