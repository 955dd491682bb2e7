-- The relation says of texts with lambdas and of equations what their evaluators do.
use Rattle.lambda_reader.specs.Tree.{Program}
use Rattle.lambda_lift.specs.Meaning as lambdas
use Rattle.match_compile.specs.Form.{Equations}
use Rattle.match_compile.specs.ByEquations as equations
use Rattle.natural_semantics.specs.any.Laws.{SaysWhatRunsDo}
use Rattle.natural_texts.specs.Lambdas.{lambda_program}
use Rattle.natural_texts.specs.Equations.{equation_program}

abbrev pub RelationOfLambdas : Type 0
RelationOfLambdas = (c : Program) → SaysWhatRunsDo (lambda_program c) (lambdas.printed c)

abbrev pub RelationOfEquations : Type 0
RelationOfEquations = (q : Equations) → SaysWhatRunsDo (equation_program q) (equations.printed q)
