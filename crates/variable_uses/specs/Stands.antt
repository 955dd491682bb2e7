-- Lists in which a walk stands at a place.
use Rattle.std.specs.Prelude.{◌≡◌, ℕ, List, ◌++◌, drop}

-- the items from this place on begin with these
pub record ListSegmentAt {A : Type 0} (items : List A) (at : ℕ) (part : List A) : Type 0 where
  pub after : List A
  pub is : drop at items ≡ part ++ after
