-- The sites of calls.
use Rattle.std.proofs.Common.{[], List, ap, refl, ◌++◌, ◌∷◌, ◌≡◌}
use Rattle.low_code.specs.Formed.{Site, sites_of}

pub sites_append : (xs ys : List Site) → sites_of (xs ++ ys) ≡ sites_of xs ++ sites_of ys
sites_append [] ys = refl
sites_append (x ∷ xs) ys = ap (λ l. x.0 ∷ l) (sites_append xs ys)
