use Rattle.std.proofs.Common.{◌≡◌, ◌+◌, [], ◌∷◌, ◌++◌, map, length, sym, ap, ◌∙◌, rules}
use Rattle.std.proofs.lemmas.List.{map-append}
use Rattle.std.proofs.lemmas.Iterator.Adapters.{YieldsList-from_vec}
use Rattle.std.proofs.lemmas.Iterator.Consumers.{YieldsList-end}
use Rattle.seq.proofs.Lists.{map_same}
use Rattle.core_reader.specs.Tree as core
use Rattle.lambda_reader.specs.declared.syntax.Function as code-function
use Rattle.lambda_reader.specs.Tree.{Program}
use Rattle.lambda_reader.specs.Code.{function}
use Rattle.lambda_lift.specs.Headers.{within}
use Rattle.lambda_lift.specs.Abstractions.{in_expr, in_functions}
use Rattle.lambda_lift.specs.Lifted.{lift, lifted_bodies}
use Rattle.lambda_lift.specs.Gathered.{program_of_names}
use Rattle.lambda_lift.specs.Growing.{with_lifted_functions}
use Rattle.lambda_lift.proofs.Grown.{grows_joined, grows_none, made_count}
use Rattle.lambda_lift.proofs.Members.{in_functions_more, lifted_bodies_more}
use Rattle.lambda_lift.proofs.lifted.bodies.Goals as goal

pub loop-function-init : goal.loop-function-init
loop-function-init c = record {
  made = sym (grows_none (program_of_names c.args.words.now) (map core.function c.args.made.now));
  bodies = ap (map core.function) c.new-bodies.ensures;
}

pub loop-function-preserved : goal.loop-function-preserved
loop-function-preserved c =
    let d : Program = program_of_names c.args.words.now in
    let start = c.args.made.now in
    let before = c.loop-function.yielded in
    let x : code-function.Function = c.in-Some.function in
    let f = function x in
    let fs = map function before in
    let more : map function (before ++ x ∷ []) ≡ fs ++ f ∷ [] = map-append function before (x ∷ [])
    in
    let many : length c.loop-function.made ≡ length start + length (in_functions d fs)
    = made_count d start c.loop-function.made (in_functions d fs) c.loop-function.invariant.made
    in
    let empty : c.new-scope.result ≡ [] = c.new-scope.ensures in
    let body : core.expr c.in_ok-body.body ≡ lift d (within d f.params [])
    (length start + length (in_functions d fs)) f.body =
    c.in_ok-body.ensures.lifted ∙
    (λ i. lift d (within d (c.as_slice.ensures i) (empty i)) (many i) f.body) in
    record {
      made =
          c.in_ok-body.ensures.made ∙ ap
          (λ bs. with_lifted_functions d (map core.function c.loop-function.made)
          (in_expr d (within d bs c.new-scope.result) f.body)) c.as_slice.ensures ∙
          (λ i. with_lifted_functions d (c.loop-function.invariant.made i)
          (in_expr d (within d f.params (empty i)) f.body))
          ∙ sym (grows_joined d (map core.function start) (in_functions d fs)
          (in_expr d (within d f.params []) f.body))
          ∙ sym (ap (with_lifted_functions d (map core.function start))
          (ap (in_functions d) more ∙ in_functions_more d fs f));
      bodies =
          ap (map core.function) c.in_ok-push.ensures.ok ∙ map-append core.function
          c.loop-function.bodies (_ ∷ [])
          ∙ (λ i. (c.loop-function.invariant.bodies i)
          ++ record { name = x.name.0; at = x.at; params = x.params; body = body i } ∷ [])
          ∙ sym (ap (lifted_bodies d (length start)) more ∙ lifted_bodies_more d (length start) fs
          f);
    }

pub returns-clause-made : goal.returns-clause-made
returns-clause-made c =
    let d : Program = program_of_names c.args.words.now in
    let all = YieldsList-end (YieldsList-from_vec c.args.functions (search rules) (search rules))
    c.loop-function.yielded c.loop-function.function-iterator c.loop-function.yielded_by _
    c.next.new.self c.in-None.is c.next.ensures.steps in
    let read : c.loop-function.yielded ≡ c.args.functions
    = sym (map_same c.loop-function.yielded) ∙ all.0 in
    c.loop-function.invariant.made ∙ ap
    (λ fs. with_lifted_functions d (map core.function c.args.made.now)
    (in_functions d (map function fs))) read

pub returns-clause-lifted : goal.returns-clause-lifted
returns-clause-lifted c =
    let d : Program = program_of_names c.args.words.now in
    let all = YieldsList-end (YieldsList-from_vec c.args.functions (search rules) (search rules))
    c.loop-function.yielded c.loop-function.function-iterator c.loop-function.yielded_by _
    c.next.new.self c.in-None.is c.next.ensures.steps in
    let read : c.loop-function.yielded ≡ c.args.functions
    = sym (map_same c.loop-function.yielded) ∙ all.0 in
    c.loop-function.invariant.bodies ∙ ap
    (λ fs. lifted_bodies d (length c.args.made.now) (map function fs)) read
