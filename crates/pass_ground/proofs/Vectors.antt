-- What two passes keep, one after the other.
use Rattle.std.proofs.Common.{◌∙◌}
use Rattle.grin_syntax.specs.Tree.{Program}
use Rattle.grin_syntax.specs.SameOutside.{DifferOnlyInBodies}
use Rattle.pass_ground.specs.Vectors.{StaysVectorForm}

pub outside_again : (g h k : Program) → DifferOnlyInBodies g h → DifferOnlyInBodies h k
    → DifferOnlyInBodies g k
outside_again g h k a b = record {
  same_tags = b.same_tags ∙ a.same_tags;
  same_globals = b.same_globals ∙ a.same_globals;
  same_start = b.same_start ∙ a.same_start;
  same_argument = b.same_argument ∙ a.same_argument;
  same_names = b.same_names ∙ a.same_names;
}

pub stays_again : (g h k : Program) → StaysVectorForm g h → StaysVectorForm h k
    → StaysVectorForm g k
stays_again g h k a b = record {
  of_vectors = b.of_vectors;
  outside = outside_again g h k a.outside b.outside;
  narrow = λ most n. b.narrow most (a.narrow most n);
  by_words = λ n. b.by_words (a.by_words n);
}
