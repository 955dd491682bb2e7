use Rattle.std.proofs.Common.{map, ◌∙◌}
use Rattle.core_reader.specs.Tree as core
use Rattle.core_reader.proofs.TreeOf as core-tree
use Rattle.lambda_lift.proofs.lifted.finish.Goals as goal

pub returns-clause-app : goal.returns-clause-app
returns-clause-app c = core-tree.application_of _
    ∙ (λ i. record {
      head = core-tree.term_of-Name c.args.begun.name c.args.at i;
      args = core.terms_of (map core.term c.args.begun.args);
    })
