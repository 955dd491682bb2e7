-- The names and the constructors in patterns, each in text order, and the number of tests.
use Rattle.std.specs.Prelude.{ℕ, suc, List, [], ◌∷◌, ◌++◌, ◌+◌}
use Rattle.core_reader.specs.declared.syntax.Binder.{Binder}
use Rattle.match_compile.specs.Source.{Pat, Name, Int, Con, Pats, NoPats, AndPat}

abbrev pub count : Pats → ℕ
count NoPats = 0
count (AndPat p ps) = suc (count ps)

abbrev mutual
  pub names_in : Pat → List Binder
  names_in (Name b) = b ∷ []
  names_in (Int k at) = []
  names_in (Con c ps) = names_of ps

  pub names_of : Pats → List Binder
  names_of NoPats = []
  names_of (AndPat p ps) = names_in p ++ names_of ps

abbrev mutual
  -- the constructors, each with the number of its patterns
  pub constructors_in : Pat → List (Binder × ℕ)
  constructors_in (Name b) = []
  constructors_in (Int k at) = []
  constructors_in (Con c ps) = (c, count ps) ∷ constructors_of ps

  pub constructors_of : Pats → List (Binder × ℕ)
  constructors_of NoPats = []
  constructors_of (AndPat p ps) = constructors_in p ++ constructors_of ps

-- the integer and constructor patterns
abbrev mutual
  pub tests_in : Pat → ℕ
  tests_in (Name b) = 0
  tests_in (Int k at) = 1
  tests_in (Con c ps) = suc (tests_of ps)

  pub tests_of : Pats → ℕ
  tests_of NoPats = 0
  tests_of (AndPat p ps) = tests_in p + tests_of ps
