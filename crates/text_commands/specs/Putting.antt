-- Outputs that are put in pieces.
use Rattle.std.specs.Prelude.{◌≡◌, ℕ, ◌<◌, min, List, [], ◌∷◌, ◌++◌, length}

-- bytes are cut in these pieces of so many, of which the last one may be shorter; of no bytes there
-- is no piece
pub data IsCutIntoPieces (size : ℕ) : List ℕ → List (List ℕ) → Type 0 where
  no_piece : IsCutIntoPieces size [] []
  next_piece : {piece rest : List ℕ} {pieces : List (List ℕ)} → 0 < length piece
      → length piece ≡ min size (length (piece ++ rest)) → IsCutIntoPieces size rest pieces
      → IsCutIntoPieces size (piece ++ rest) (piece ∷ pieces)

-- this holds of the bytes' pieces of 4,096
abbrev pub HoldsOfPieces : List ℕ → (List (List ℕ) → Type 0) → Type 0
HoldsOfPieces bytes Holds =
    (pieces : List (List ℕ)) × IsCutIntoPieces 4096 bytes pieces × Holds pieces
