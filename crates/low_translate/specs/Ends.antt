-- What is learnt of the ends of a block: how wide they are, and which procedures they call.
use Rattle.std.specs.Prelude.{◌≡◌, ℕ, ◌≤◌, ◌<◌, List}
use Rattle.grin_syntax.specs.Formed.{AllOf}
use Rattle.low_translate.specs.Translation.{results_of}

-- `calls` are calls known before with those of this piece, whose ends are so wide: a piece that
-- ends well calls procedures that there are and is not wide; and where all of these give r words,
-- and r is at least that width, the piece gives r words
pub record ResultsCollected (node node' : ℕ) (old calls : List ℕ) (width : ℕ)
    (Ends : ℕ → Type 0) (Gives : List ℕ → ℕ → Type 0) : Type 0 where
  pub same_node : node' ≡ node
  pub known : (n : ℕ) → Ends n → AllOf (λ f. f < n) old → AllOf (λ f. f < n) calls
  pub narrow : (n : ℕ) → Ends n → width ≤ 13
  pub before : (rs : List ℕ) (r : ℕ) → AllOf (λ f. results_of rs f ≡ r) calls
      → AllOf (λ f. results_of rs f ≡ r) old
  pub gives : (rs : List ℕ) (r : ℕ) → AllOf (λ f. results_of rs f ≡ r) calls
      → width ≤ r → Gives rs r
