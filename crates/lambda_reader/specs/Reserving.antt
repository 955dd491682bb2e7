-- Which of the tokens that were read is a name that begins with `lift'`. A device of the proofs.
use Rattle.std.specs.Prelude.{ℕ, nat_eq, Bool, false, List, [], ◌∷◌, codes, Option, Some, None, slice_get, if◌then◌else◌}
use Rattle.std.specs.List.{starts_with}
use Rattle.seq.specs.Lists.{or_empty}
use Rattle.core_reader.specs.declared.token.Token.{Token}
use Rattle.core_reader.specs.declared.token.Token.TheVariants as word
use Rattle.core_reader.specs.declared.token.Lexeme.{Lexeme}

abbrev pub is_reserved : List ℕ → Bool
is_reserved name = starts_with nat_eq name (codes "lift'")

abbrev pub is_reserved_token : List (List ℕ) → Token → Bool
is_reserved_token names (word.Name n) = is_reserved (or_empty (slice_get names n.0))
is_reserved_token names token = false

abbrev pub first_reserved : List (List ℕ) → List Lexeme → Option ℕ
first_reserved names [] = None
first_reserved names (x ∷ xs) =
    if is_reserved_token names x.token then Some x.at else first_reserved names xs
