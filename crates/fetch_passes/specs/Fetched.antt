-- What splitting fetches makes of a program.
use Rattle.std.specs.Prelude.{ℕ, ◌≡◌, ◌≤◌}
use Rattle.grin_syntax.specs.Tree.{Program}
use Rattle.grin_syntax.specs.SameOutside.{DifferOnlyInBodies}
use Rattle.grin_meaning.specs.Ready.{IsFetchedByWords}
use Rattle.fetch_passes.specs.Split.{split}
use Rattle.fetch_passes.specs.Placed.{HasNoWordFetches, FetchesUsed}
use Rattle.fetch_passes.specs.Positions.{FetchesPlaced}
use Rattle.fetch_passes.specs.Fronts.{UsesFetched}
use Rattle.pass_ground.specs.Vectors.{IsVectorForm, NarrowTargets}

-- h is g with its fetches split. So it can be taken where g can, has the tags, the global cells,
-- the start and the names of g, and targets that are no wider, where one variable is wide enough
-- for a word; and no fetch of a whole node is left. Where g fetches whole nodes alone, three laws
-- say how its words are fetched
pub record Fetched (g h : Program) : Type 0 where
  pub of_vectors : IsVectorForm h
  pub outside : DifferOnlyInBodies g h
  pub narrow : (most : ℕ) → 1 ≤ most → NarrowTargets most g → NarrowTargets most h
  pub by_words : IsFetchedByWords h
  pub made : h ≡ split g
  -- each word that h fetches beside the tag is used in the block that follows
  pub used : HasNoWordFetches g → FetchesUsed h
  -- it stands directly after the tag, where it has a use outside the alternatives of the tag's
  -- case, or at the front of such an alternative; and no way through the text fetches it twice
  pub placed : HasNoWordFetches g → FetchesPlaced g h
  -- each word that g uses is fetched: with the tag, where it is used outside those alternatives,
  -- else at the front of each one that uses it
  pub fetched : HasNoWordFetches g → UsesFetched g h
