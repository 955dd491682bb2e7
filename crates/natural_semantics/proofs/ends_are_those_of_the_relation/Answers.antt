use Rattle.natural_semantics.proofs.CoreSays.{ends}
use Rattle.core_meaning.specs.Evaluation.{OutOfBound}
use Rattle.natural_semantics.proofs.ends_are_those_of_the_relation.Goals as goal

pub returns : goal.returns
returns c = λ p valid. ends p (c.no_lookup_fails.ensures p valid 0 (λ s. OutOfBound s))
