use Rattle.natural_semantics.proofs.CoreSays.{goes_on}
use Rattle.core_meaning.specs.Evaluation.{OutOfBound}
use Rattle.natural_semantics.proofs.goes_on_without_derivation.Goals as goal

pub returns : goal.returns
returns c = λ p valid. goes_on p (c.no_lookup_fails.ensures p valid 0 (λ s. OutOfBound s))
