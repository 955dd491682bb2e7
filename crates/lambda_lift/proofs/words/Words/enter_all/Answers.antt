use Rattle.std.proofs.Common.{◌≡◌, ap, ◌∙◌}
use Rattle.arity_check.specs.Known.{Known, all_entered}
use Rattle.arity_check.proofs.Names.{entered_within}
use Rattle.lambda_lift.specs.Headers.{program_headers, within}
use Rattle.lambda_lift.specs.Gathered.{program_of_names}
use Rattle.lambda_lift.proofs.words.Words.enter_all.Goals as goal

pub returns : goal.returns
returns c =
    let same : c.self.inside.names ≡ c.args.self.now = cc in
    c.in_ok-enter_all.ensures ∙ ap
    (λ (k : Known). all_entered k c.args.binders.now c.args.scope.now) c.self.invariant ∙
    entered_within (program_headers (program_of_names c.self.inside.names)) c.args.binders.now
    c.args.scope.now
    ∙ ap (λ names. within (program_of_names names) c.args.binders.now c.args.scope.now) same
