use Rattle.std.proofs.Common.{◌≡◌, [], ap, ◌∙◌}
use Rattle.arity_check.specs.Known.{Known, meaning}
use Rattle.arity_check.specs.Scope.{means}
use Rattle.arity_check.proofs.Names.{meaning_means}
use Rattle.lambda_lift.specs.Headers.{program_headers, stands_for_local}
use Rattle.lambda_lift.specs.Gathered.{program_of_names}
use Rattle.lambda_lift.proofs.words.Words.is_local.Goals as goal

pub returns : goal.returns
returns c =
    let same : c.self.inside.names ≡ c.args.self.now = cc in
    c.is_a_local.ensures
    ∙ ap (stands_for_local (program_of_names []))
    (c.meaning_of_name.ensures ∙ ap (λ (k : Known). meaning k c.args.scope.now c.args.name.0)
    c.self.invariant ∙ meaning_means (program_headers (program_of_names c.self.inside.names))
    c.args.scope.now c.args.name.0)
    ∙ ap (λ names. stands_for_local (program_of_names [])
    (means (program_headers (program_of_names names)) c.args.scope.now c.args.name.0)) same
