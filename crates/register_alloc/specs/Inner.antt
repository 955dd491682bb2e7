-- The blocks of joins and the arms of a block, as they begin.
use Rattle.std.specs.Prelude.{ℕ, List, [], ◌∷◌, ◌++◌, length}
use Rattle.low_code.specs.Tree.{Code, set, prim, load, save, take, put, get, call, join, give, tail, choose, fail, Arms, otherwise, arm}
use Rattle.low_code.specs.Formed.{uses}

abbrev mutual
  -- the number of uses in each block of a join and each arm but the last one
  pub sizes_of : Code → List ℕ
  sizes_of (set x a c) = sizes_of c
  sizes_of (prim f x a b c) = sizes_of c
  sizes_of (load x a k c) = sizes_of c
  sizes_of (save a k b c) = sizes_of c
  sizes_of (take xs c) = sizes_of c
  sizes_of (put a c) = sizes_of c
  sizes_of (get x c) = sizes_of c
  sizes_of (call f site as' xs c) = sizes_of c
  sizes_of (join xs b c) = length (uses b) ∷ (sizes_of b ++ sizes_of c)
  sizes_of (give as') = []
  sizes_of (tail f site as') = []
  sizes_of (choose as') = arms_sizes as'
  sizes_of fail = []

  pub arms_sizes : Arms → List ℕ
  arms_sizes (otherwise c) = sizes_of c
  arms_sizes (arm ts c as') = length (uses c) ∷ (sizes_of c ++ arms_sizes as')
