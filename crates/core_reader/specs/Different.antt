-- Lists of texts in which each is there once.
use Rattle.std.specs.Prelude.{◌≢◌, ℕ, List, [], ◌∷◌, All}

abbrev pub AreDistinct : List (List ℕ) → Type 0
AreDistinct [] = Unit {0}
AreDistinct (w ∷ ws) = All (λ v. v ≢ w) ws × AreDistinct ws
