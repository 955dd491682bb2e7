use Rattle.grin_opt.proofs.Several.{both_ok}
use Rattle.grin_opt.proofs.schedule.updated_and_unboxed.Goals as goal

pub with_literal_tags_by-requires-clause-of_vectors
    : goal.with_literal_tags_by-requires-clause-of_vectors
with_literal_tags_by-requires-clause-of_vectors c = c.requires.0

pub with_literal_tags_by-requires-clause-least : goal.with_literal_tags_by-requires-clause-least
with_literal_tags_by-requires-clause-least c = c.in_ok-flow.ensures

pub with_unboxed_numbers_by-requires-clause-of_vectors
    : goal.with_unboxed_numbers_by-requires-clause-of_vectors
with_unboxed_numbers_by-requires-clause-of_vectors c =
    c.in_ok-updated.ensures.shape.stays.of_vectors

pub with_unboxed_numbers_by-requires-clause-least
    : goal.with_unboxed_numbers_by-requires-clause-least
with_unboxed_numbers_by-requires-clause-least c = c.in_ok-updated.ensures.still_least

pub returns : goal.returns
returns c = both_ok _ _ _ c.with_unboxed_numbers_by.result
    (λ h shape keeps. record {
      between = _;
      first = record {
        shape = c.in_ok-updated.ensures.shape;
        keeps = c.in_ok-updated.ensures.meaning;
      };
      second = record { shape = shape; keeps = keeps };
    }) c.with_unboxed_numbers_by.ensures.shape c.with_unboxed_numbers_by.ensures.meaning
