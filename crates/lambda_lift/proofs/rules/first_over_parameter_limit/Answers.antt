use Rattle.std.proofs.Common.{◌≡◌, List, [], map, refl, ◌∙◌, arith}
use Rattle.lambda_reader.specs.declared.syntax.Function.{Function}
use Rattle.lambda_reader.specs.Tree.{Program}
use Rattle.lambda_reader.specs.Code.{expr, function}
use Rattle.lambda_lift.specs.Headers.{within}
use Rattle.lambda_lift.specs.Abstractions.{in_expr, in_functions}
use Rattle.lambda_lift.specs.Gathered.{program_of_names}
use Rattle.lambda_lift.specs.Broadest.{too_broad}
use Rattle.lambda_lift.proofs.Folding.{one_more, no_more}
use Rattle.lambda_lift.proofs.Broadness.{broad_joined, broad_none}
use Rattle.lambda_lift.proofs.rules.first_over_parameter_limit.Goals as goal

pub loop-function-preserved : goal.loop-function-preserved
loop-function-preserved c =
    let d : Program = program_of_names c.args.words.now in
    let x : Function = c.function-item.result in
    let first : c.in_ok-first.first ≡ too_broad d c.loop-function.first
    (in_expr d (within d x.params []) (expr x.body)) =
    c.in_ok-first.ensures.first ∙
    (λ i. too_broad d c.loop-function.first
    (in_expr d (within d (c.as_slice-params.ensures i) (c.new-scope.ensures i)) (expr x.body)))
    in
    one_more (too_broad d) (λ (fs : List Function). in_functions d (map function fs))
    (λ f. in_expr d (within d f.params []) (expr f.body)) (broad_joined d) (λ f fs. refl)
    c.args.functions.now c.loop-function.function-index x (omega arith) c.function-item.is
    c.loop-function.first c.in_ok-first.first _ first c.loop-function.invariant

pub returns : goal.returns
returns c =
    let d : Program = program_of_names c.args.words.now in
    no_more (too_broad d) (λ (fs : List Function). in_functions d (map function fs)) (broad_none d)
    refl c.args.functions.now c.loop-function.function-index (omega arith) c.loop-function.first
    _ c.loop-function.invariant
