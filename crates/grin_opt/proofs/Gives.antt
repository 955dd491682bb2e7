-- What each pass gives.
use Rattle.std.proofs.Common.{ℕ, ◌≤◌, arith}
use Rattle.grin_syntax.specs.Tree.{Program}
use Rattle.grin_syntax.specs.SameOutside.{DifferOnlyInBodies}
use Rattle.grin_meaning.specs.Ready.{IsFetchedByWords}
use Rattle.pass_ground.specs.OpenUpdates.{updates_with_variable_tag}
use Rattle.pass_ground.specs.Vectors.{IsVectorForm, NarrowTargets, StaysVectorForm}
use Rattle.stage_names.specs.declared.PassName.{PassName}
use Rattle.stage_names.specs.declared.PassName.TheVariants.{Translate, Eval, Apply, Vectorise, Simplify, Fetch, Copy, Update, Unbox, Raise, Flat, Known, Cells, Dead}
use Rattle.grin_opt.specs.Schedule.{before, pass_relation}
use Rattle.grin_opt.specs.Staying.{IsStageFrom}
use Rattle.grin_opt.proofs.Updates.{same_open_updates}

-- What the pass of a stage gives. Behind vectorising targets are no wider, if they have room for
-- one word; from the splitting of fetches on no whole node is fetched; from the
-- updates on there are no more open ones.
pub record Gives (k : PassName) (g h : Program) : Type 0 where
  pub outside : DifferOnlyInBodies g h
  pub of_vectors : IsVectorForm h
  pub narrow : IsStageFrom Simplify k → (most : ℕ) → 1 ≤ most → NarrowTargets most g
      → NarrowTargets most h
  pub by_words : IsStageFrom Fetch k → (IsStageFrom Fetch (before k) → IsFetchedByWords g)
      → IsFetchedByWords h
  pub no_more_open : IsStageFrom Update k → updates_with_variable_tag h ≤ updates_with_variable_tag
      g

-- a pass whose answer can be taken where its input can
stays_gives : (k : PassName) (g h : Program) → StaysVectorForm g h
    → (IsStageFrom Fetch k → IsStageFrom Fetch (before k))
    → (IsStageFrom Update k → updates_with_variable_tag h ≤ updates_with_variable_tag g)
    → Gives k g h
stays_gives k g h stays earlier fewer = record {
  outside = stays.outside;
  of_vectors = stays.of_vectors;
  narrow = λ from most room narrow. stays.narrow most narrow;
  by_words = λ from so_far. stays.by_words (so_far (earlier from));
  no_more_open = fewer;
}

pub gives : (k : PassName) (g h : Program) → pass_relation k g h → Gives k g h
gives Translate g h s = absurd s
gives Eval g h s = absurd s
gives Apply g h s = absurd s
gives Vectorise g h s = record {
  outside = s.outside;
  of_vectors = record { formed = s.formed; ready = s.ready; vectorised = s.vectorised };
  narrow = λ from most room narrow. absurd (omega (arith, from));
  by_words = λ from so_far. absurd (omega (arith, from));
  no_more_open = λ from. omega (arith, from);
}
gives Simplify g h s = stays_gives Simplify g h s.stays (λ from. omega (arith, from))
    (λ from. omega (arith, from))
gives Fetch g h s =
    record {
      outside = s.outside;
      of_vectors = s.of_vectors;
      narrow = λ from. s.narrow;
      by_words
          = λ from so_far. s.by_words;
      no_more_open = λ from. omega (arith, from);
    }
gives Copy g h s = stays_gives Copy g h s.stays (λ from. omega arith) (λ from. omega (arith, from))
gives Update g h s = stays_gives Update g h s.stays (λ from. omega arith)
    (λ from. s.updates.no_more)
gives Unbox g h s = stays_gives Unbox g h s.stays (λ from. omega arith)
    (λ from. omega (arith, same_open_updates g h s.same_updates))
gives Raise g h s =
    record {
      outside = s.outside;
      of_vectors = s.of_vectors;
      narrow = λ from. s.narrow;
      by_words
          = λ from so_far. s.by_words;
      no_more_open = λ from. s.no_more_open;
    }
gives Flat g h s = stays_gives Flat g h s.stays (λ from. omega arith)
    (λ from. omega (arith, s.same_open))
gives Known g h s = stays_gives Known g h s.stays (λ from. omega arith) (λ from. s.no_more_open)
gives Cells g h s = stays_gives Cells g h s.stays (λ from. omega arith) (λ from. s.no_more_open)
gives Dead g h s = stays_gives Dead g h s.stays (λ from. omega arith) (λ from. s.no_more_open)
