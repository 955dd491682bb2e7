use Rattle.natural_semantics.proofs.CoreSays.{derived, met}
use Rattle.core_meaning.specs.Evaluation.{OutOfBound}
use Rattle.natural_semantics.proofs.output_is_that_of_the_relation.Goals as goal

pub returns : goal.returns
returns c = record {
  derived = λ p valid. derived p (c.no_lookup_fails.ensures p valid 0 (λ s. OutOfBound s));
  met = λ p valid. met p (c.no_lookup_fails.ensures p valid 0 (λ s. OutOfBound s));
}
