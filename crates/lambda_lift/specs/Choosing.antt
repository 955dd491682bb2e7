-- Which of two rules is broken first, and the text that is lifted. A device of the proofs.
use Rattle.std.specs.Prelude.{◌≢◌, ℕ, List, ◌++◌, codes, nat_lt, cond, map, Option, Some, None}
use Rattle.core_reader.specs.declared.syntax.Data as code-data
use Rattle.core_reader.specs.Tree.{data_of}
use Rattle.lambda_reader.specs.declared.syntax.Function as code
use Rattle.lambda_reader.specs.Tree.{Program}
use Rattle.lambda_reader.specs.Code.{function}
use Rattle.lambda_lift.specs.declared.refusal.LiftRefusal.{LiftRefusal}
use Rattle.lambda_lift.specs.declared.refusal.LiftRefusal.TheVariants.{TooManyParameters, ReservedLift}

-- by the first places where too many parameters are met and where a reserved name stands
abbrev pub earliest_refusal : Option ℕ → Option ℕ → Option LiftRefusal
earliest_refusal None None = None
earliest_refusal None (Some at) = Some (ReservedLift at)
earliest_refusal (Some place) None = Some (TooManyParameters place)
earliest_refusal (Some place) (Some at) =
    Some (cond (nat_lt at place) (ReservedLift at) (TooManyParameters place))

-- the text with these names, constructors and functions
abbrev pub program_of_parts : List (List ℕ) → List code-data.Data → List code.Function → Program
program_of_parts names constructors functions = record {
  names = names;
  constructors = map data_of constructors;
  functions = map function functions;
}

-- the name does not begin with `lift'`
abbrev pub IsUnreservedName : List ℕ → Type 0
IsUnreservedName w = (rest : List ℕ) → w ≢ codes "lift'" ++ rest
