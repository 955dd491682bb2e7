use Rattle.std.proofs.Common.{[], ◌++◌, ap, ◌∙◌}
use Rattle.std.proofs.lemmas.List.{append-nil}
use Rattle.lambda_reader.specs.Code.{expr}
use Rattle.arity_check.specs.Scope.{Scope}
use Rattle.lambda_lift.specs.Headers.{names_of, is_local}
use Rattle.lambda_lift.specs.Free.{uses}
use Rattle.lambda_lift.specs.Gathered.{program_of_names, scope_names, collected_in_scope}
use Rattle.lambda_lift.proofs.Gathers.{gathered_free}
use Rattle.lambda_lift.proofs.free.first_free_names.Goals as goal

pub returns : goal.returns
returns c =
    let names = c.args.words.now in
    let s : Scope = c.args.scope.now in
    let e = expr c.args.body.now in
    c.in_ok-under.ensures.found
    ∙ (λ i. collected_in_scope names s c.args.limit (c.new-found.ensures i)
    (uses (names_of c.args.params.now ++ scope_names (c.new-inside.ensures i)) e))
    ∙ ap (λ xs. collected_in_scope names s c.args.limit [] (uses xs e))
    (append-nil (names_of c.args.params.now))
    ∙ gathered_free (is_local (program_of_names names) s) c.args.limit
    (uses (names_of c.args.params.now) e)
