-- The most fields of a list of tags.
use Rattle.std.proofs.Common.{[], List, Some, arith, slice_get, suc, zero, ℕ, ◌∷◌, ◌≡◌, ◌≤◌, max, refl, ◌++◌}
use Rattle.grin_syntax.specs.declared.program.Tag.{Tag}
use Rattle.grin_meaning.specs.Ready.{most_fields}
use Rattle.grin_meaning.specs.Values.{and_then}

pub field_bound : (ts : List Tag) (t : ℕ) (i : Tag) → slice_get ts t ≡ Some i
    → i.fields ≤ most_fields ts
field_bound [] t i e = cc
field_bound (x ∷ ts) zero i e = let h : x ≡ i = cc in rw h (omega arith)
field_bound (x ∷ ts) (suc t) i e = omega (arith, field_bound ts t i e)

pub fields_fit : (ts : List Tag) (t k : ℕ) → and_then (slice_get ts t) (λ i. Some i.fields) ≡ Some k
    → k ≤ most_fields ts
fields_fit [] t k e = cc
fields_fit (x ∷ ts) zero k e = let h : x.fields ≡ k = cc in omega (arith, h)
fields_fit (x ∷ ts) (suc t) k e = let h : k ≤ most_fields ts = fields_fit ts t k e
    in omega (arith, h)

pub most_push : (ts : List Tag) (t : Tag) → most_fields (ts ++ t ∷ []) ≡ max t.fields
    (most_fields ts)
most_push [] t = refl
most_push (u ∷ ts) t = let h : most_fields (ts ++ t ∷ []) ≡ max t.fields (most_fields ts)
    = most_push ts t in omega arith
