-- Variables that are live, and the points of a procedure at which variables are bound.
use Rattle.std.specs.Prelude.{◌⊎◌, ◌≡◌, ℕ, true, List, [], ◌∷◌, ◌++◌}
use Rattle.low_code.specs.Tree.{Code, set, prim, load, save, take, put, get, call, join, give, tail, choose, fail, Arms, otherwise, arm, Procedure}
use Rattle.low_code.specs.Formed.{uses}
use Rattle.seq.specs.Lists.{is_among}

-- bound before, and used in what follows: in a block, or later, by what follows the joins around it
abbrev pub IsLive : (scope : List ℕ) → Code → (later : List ℕ) → ℕ → Type 0
IsLive scope c later y = (is_among y scope ≡ true) × (is_among y (uses c ++ later) ≡ true)

-- P holds of each point at which variables are bound: those in scope there, those bound there, the
-- block that follows, and what is used later
module _ (P : (scope xs : List ℕ) → Code → (later : List ℕ) → Type 0) where
  abbrev mutual
    pub EachBinding : (scope : List ℕ) → Code → (later : List ℕ) → Type 0
    EachBinding scope (set x a c) later = P scope (x ∷ []) c later × EachBinding (x ∷ scope) c later
    EachBinding scope (prim f x a b c) later =
        P scope (x ∷ []) c later × EachBinding (x ∷ scope) c later
    EachBinding scope (load x a k c) later =
        P scope (x ∷ []) c later × EachBinding (x ∷ scope) c later
    EachBinding scope (save a k b c) later = EachBinding scope c later
    EachBinding scope (take xs c) later = P scope xs c later × EachBinding (xs ++ scope) c later
    EachBinding scope (put a c) later = EachBinding scope c later
    EachBinding scope (get x c) later = P scope (x ∷ []) c later × EachBinding (x ∷ scope) c later
    EachBinding scope (call f site as' xs c) later =
        P scope xs c later × EachBinding (xs ++ scope) c later
    EachBinding scope (join xs b c) later =
        EachBinding scope b (uses c ++ later)
        × (P scope xs c later × EachBinding (xs ++ scope) c later)
    EachBinding scope (give as') later = Unit {0}
    EachBinding scope (tail f site as') later = Unit {0}
    EachBinding scope (choose as') later = EachBindingOfArms scope as' later
    EachBinding scope fail later = Unit {0}

    pub EachBindingOfArms : (scope : List ℕ) → Arms → (later : List ℕ) → Type 0
    EachBindingOfArms scope (otherwise c) later = EachBinding scope c later
    EachBindingOfArms scope (arm ts c as') later =
        EachBinding scope c later × EachBindingOfArms scope as' later

  -- a procedure's parameters are bound together, at its entry
  abbrev pub EachBindingOf : Procedure → Type 0
  EachBindingOf q = P [] q.params q.body [] × EachBinding q.params q.body []

-- y is live after the call at this site
abbrev mutual
  pub LiveAfter : (site : ℕ) → (scope : List ℕ) → Code → (later : List ℕ) → ℕ → Type 0
  LiveAfter s scope (set x a c) later y = LiveAfter s (x ∷ scope) c later y
  LiveAfter s scope (prim f x a b c) later y = LiveAfter s (x ∷ scope) c later y
  LiveAfter s scope (load x a k c) later y = LiveAfter s (x ∷ scope) c later y
  LiveAfter s scope (save a k b c) later y = LiveAfter s scope c later y
  LiveAfter s scope (take xs c) later y = LiveAfter s (xs ++ scope) c later y
  LiveAfter s scope (put a c) later y = LiveAfter s scope c later y
  LiveAfter s scope (get x c) later y = LiveAfter s (x ∷ scope) c later y
  LiveAfter s scope (call f site as' xs c) later y =
      ((s ≡ site) × IsLive scope c later y) ⊎ LiveAfter s (xs ++ scope) c later y
  LiveAfter s scope (join xs b c) later y =
      LiveAfter s scope b (uses c ++ later) y ⊎ LiveAfter s (xs ++ scope) c later y
  LiveAfter s scope (give as') later y = ⊥
  LiveAfter s scope (tail f site as') later y = ⊥
  LiveAfter s scope (choose as') later y = ArmsLiveAfter s scope as' later y
  LiveAfter s scope fail later y = ⊥

  pub ArmsLiveAfter : (site : ℕ) → (scope : List ℕ) → Arms → (later : List ℕ) → ℕ → Type 0
  ArmsLiveAfter s scope (otherwise c) later y = LiveAfter s scope c later y
  ArmsLiveAfter s scope (arm ts c as') later y =
      LiveAfter s scope c later y ⊎ ArmsLiveAfter s scope as' later y
