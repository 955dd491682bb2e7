-- What the definitions of texts with lambdas say by themselves.
use Rattle.std.specs.Prelude.{◌≡◌, ℕ, List}
use Rattle.lambda_reader.specs.Tree.{Program}
use Rattle.lambda_reader.specs.Programs.{IsSourceText}

-- A text stands for one program at most.
abbrev pub ProgramIsUnique : Type 0
ProgramIsUnique =
    (text : List ℕ) (p q : Program) → IsSourceText text p → IsSourceText text q → p ≡ q
