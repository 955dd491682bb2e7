-- Evaluation by need as a relation, for a program of any language: no units, no nesting, no
-- defaults. A name that waits stays in the heap while it is evaluated.
use Rattle.std.specs.Prelude.{◌≡◌, ℕ, suc, ◌<◌, ◌≤◌, ℤ, List, [], ◌∷◌, ◌++◌, length, Some, slice_get}
use Rattle.arity_check.specs.declared.normal.PrimOp.{PrimOp}
use Rattle.core_meaning.specs.Heap.{ValueOf, Int, Con, Part, DelayedOf, Call, Apply, Prim, Global, Input, Known, Waiting, HeapOf}
use Rattle.core_meaning.specs.Numbers.{primitive_result}
use Rattle.natural_semantics.specs.World.{WorldOf, extended, updated, after_byte}
use Rattle.natural_semantics.specs.any.Moves.{Moves, Ends, Adds, Demands, Then, ProgramOf}

module _ {F : Type 0} (p : ProgramOf F) where
  mutual
    -- a name has a value
    pub data Forces : WorldOf F → ℕ → ValueOf F → WorldOf F → Type 0 where
      Is : {w : WorldOf F} {a : ℕ} {v : ValueOf F} → slice_get w.heap a ≡ Some (Known v)
          → Forces w a v w
      Becomes : {w w' : WorldOf F} {a : ℕ} {t : DelayedOf F} {v : ValueOf F}
          → slice_get w.heap a ≡ Some (Waiting t) → Runs w t v w'
          → Forces w a v (updated w' a v)

    -- what waits has a value
    pub data Runs : WorldOf F → DelayedOf F → ValueOf F → WorldOf F → Type 0 where
      Calls : {w w' : WorldOf F} {f : F} {xs : List ℕ} {v : ValueOf F}
          → Yields w (p.body f xs) v w' → Runs w (Call f xs) v w'
      Shared : {w w' : WorldOf F} {f : F} {v : ValueOf F}
          → Yields w (p.body f []) v w' → Runs w (Global f) v w'
      Applies : {w w' w'' : WorldOf F} {a : ℕ} {bs : List ℕ} {u v : ValueOf F}
          → Forces w a u w' → Takes w' u bs v w'' → Runs w (Apply a bs) v w''
      Computes : {w w' w'' : WorldOf F} {op : PrimOp} {a b : ℕ} {i j : ℤ}
          → Forces w a (Int i) w' → Forces w' b (Int j) w''
          → Runs w (Prim op a b) (Int (primitive_result op i j)) w''
      NoByte : {w : WorldOf F} → w.input ≡ [] → Runs w Input (Con p.nil []) w
      Byte : {w : WorldOf F} {k : ℕ} {rest : List ℕ} → w.input ≡ k ∷ rest
          → Runs w Input (Con p.cons (length w.heap ∷ suc (length w.heap) ∷ []))
          (after_byte w k rest)

    -- a value takes names, one at a time: a function that has all its arguments is entered
    pub data Takes : WorldOf F → ValueOf F → List ℕ → ValueOf F → WorldOf F → Type 0 where
      Nothing : {w : WorldOf F} {v : ValueOf F} → Takes w v [] v w
      Waits : {w w' : WorldOf F} {f : F} {b : ℕ} {xs bs : List ℕ} {v : ValueOf F}
          → suc (length xs) < p.arity f → Takes w (Part f (xs ++ b ∷ [])) bs v w'
          → Takes w (Part f xs) (b ∷ bs) v w'
      Enters : {w w' w'' : WorldOf F} {f : F} {b : ℕ} {xs bs : List ℕ} {u v : ValueOf F}
          → p.arity f ≤ suc (length xs) → Runs w (Call f (xs ++ b ∷ [])) u w'
          → Takes w' u bs v w'' → Takes w (Part f xs) (b ∷ bs) v w''

    -- what is done gives a value
    pub data Yields : WorldOf F → Moves F → ValueOf F → WorldOf F → Type 0 where
      AtOnce : {w : WorldOf F} {v : ValueOf F} → Yields w (Ends (Known v)) v w
      Computed : {w w' : WorldOf F} {t : DelayedOf F} {v : ValueOf F}
          → Runs w t v w' → Yields w (Ends (Waiting t)) v w'
      Binds : {w w' : WorldOf F} {more : ℕ → HeapOf F} {next : ℕ → Moves F} {v : ValueOf F}
          → Yields (extended w (more (length w.heap))) (next (length w.heap)) v w'
          → Yields w (Adds more next) v w'
      Needs : {w w' w'' : WorldOf F} {a : ℕ} {next : ValueOf F → Moves F} {u v : ValueOf F}
          → Forces w a u w' → Yields w' (next u) v w'' → Yields w (Demands a next) v w''
      GoesOn : {w w' w'' : WorldOf F} {moves : Moves F} {next : ValueOf F → Moves F}
          {u v : ValueOf F}
          → Yields w moves u w' → Yields w' (next u) v w'' → Yields w (Then moves next) v w''
