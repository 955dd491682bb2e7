-- Lifting keeps what a readable tree means.
use Rattle.std.proofs.Common.{arith, length-append}
use Rattle.core_meaning.proofs.Valid.{valid_is_well_formed, different_places}
use Rattle.lambda_lift.specs.Abstractions.{abstractions}
use Rattle.lambda_lift.specs.Lifted.{lifted, lifted_bodies, lifted_functions}
use Rattle.lambda_lift.specs.Laws.{LiftingTreesPreservesMeaning}
use Rattle.lambda_lift.proofs.Fresh.{few_lifted, different}
use Rattle.lambda_lift.proofs.Texts.{tree_fits}
use Rattle.lambda_lift.proofs.Program.{lifted_long}
use Rattle.lambda_lift.proofs.Whole.{keeps}

pub trees_keep : LiftingTreesPreservesMeaning
trees_keep c p read free ok nf =
    let fits = tree_fits c read in
    let few = few_lifted c ok in
    let long = length-append (lifted_bodies c 0 c.functions) (lifted_functions c 0 (abstractions c))
    in
    let many = lifted_long c fits 0 (abstractions c) in
    let names = different c read free (omega (arith, few, long, many)) in
    keeps c p fits ok nf
    (valid_is_well_formed (lifted c) p nf ok (different_places (lifted c).names names))
