-- Parts of bytes that were read, and of a piece that is written.
use Rattle.std.proofs.Common.{◌≡◌, ℕ, ◌+◌, ◌≤◌, List, ◌++◌, length, take, drop, Option, Some, None, sym, ap, ◌∙◌, arith, append_assoc, length-drop, slice_range, ◌-◌, take-add, take_all}
use Rattle.std.proofs.lemmas.List.{drop-take}
use Rattle.std.specs.Io.KnownBytes.{Appends}

-- a part of the first bytes
pub window : (bytes : List ℕ) (from to : ℕ) → from ≤ to
    → slice_range bytes from to ≡ drop from (take to bytes)
window bytes from to within =
    let whole : from + (to - from) ≡ to = omega (arith, within) in
    sym (drop-take from (to - from) bytes) ∙ ap (λ k. drop from (take k bytes)) whole

-- of a piece the first bytes, and then the next ones
pub appends_more : (old mid new : Option (List ℕ)) (piece rest : List ℕ) (done k : ℕ)
    → rest ≡ drop done piece → Appends old mid (take done piece) → Appends mid new (take k rest)
    → Appends old new (take (done + k) piece)
appends_more None mid new piece rest done k is first next = tt
appends_more (Some xs) None new piece rest done k is first next = absurd first
appends_more (Some xs) (Some ys) None piece rest done k is first next = absurd next
appends_more (Some xs) (Some ys) (Some zs) piece rest done k is first next =
    next ∙ ap (λ l. l ++ take k rest) first
    ∙ append_assoc xs (take done piece) (take k rest)
    ∙ ap (λ l. xs ++ (take done piece ++ take k l)) is
    ∙ ap (λ l. xs ++ l) (sym (take-add done k piece))

-- what of a piece is behind its first bytes, as a slice
pub rest_of : (piece : List ℕ) (done : ℕ) → slice_range piece done (length piece) ≡ drop done piece
rest_of piece done =
    take_all (length piece - done) (drop done piece) (omega (arith, length-drop done piece))
