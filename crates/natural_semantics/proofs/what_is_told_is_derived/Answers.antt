use Rattle.core_meaning.specs.Evaluation.{OutOfBound}
use Rattle.natural_semantics.proofs.Told.{told_is_derived}
use Rattle.natural_semantics.proofs.what_is_told_is_derived.Goals as goal

pub returns : goal.returns
returns c = λ p valid i.
    told_is_derived p (c.no_lookup_fails.ensures p valid 0 (λ s. OutOfBound s)) i
