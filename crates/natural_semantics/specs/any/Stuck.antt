-- Evaluation by need that meets what nothing accepts, for a program of any language: moves that
-- refuse a value, a number or a constructor that is given a name, an operation on something else
-- than a number, or a name that the heap doesn't have.
use Rattle.std.specs.Prelude.{◌≡◌, ℕ, ℤ, suc, ◌<◌, ◌≤◌, true, List, [], ◌∷◌, ◌++◌, length, Some, None, slice_get}
use Rattle.arity_check.specs.declared.normal.PrimOp.{PrimOp}
use Rattle.core_meaning.specs.Heap.{ValueOf, Int, Part, DelayedOf, Call, Apply, Prim, Global, Waiting, HeapOf}
use Rattle.natural_semantics.specs.World.{WorldOf, extended, NoNumber, NoFunction}
use Rattle.natural_semantics.specs.any.Moves.{Moves, Ends, Adds, Demands, Then, Refuses, Absent, ProgramOf}
use Rattle.natural_semantics.specs.any.Natural.{Forces, Runs, Yields}

module _ {F : Type 0} (p : ProgramOf F) where
  mutual
    pub data ForceSticks : WorldOf F → ℕ → Type 0 where
      NoName : {w : WorldOf F} {a : ℕ} → p.absent_is_refused ≡ true
          → slice_get w.heap a ≡ None → ForceSticks w a
      Becoming : {w : WorldOf F} {a : ℕ} {t : DelayedOf F}
          → slice_get w.heap a ≡ Some (Waiting t) → RunSticks w t → ForceSticks w a

    pub data RunSticks : WorldOf F → DelayedOf F → Type 0 where
      Calling : {w : WorldOf F} {f : F} {xs : List ℕ}
          → YieldSticks w (p.body f xs) → RunSticks w (Call f xs)
      Sharing : {w : WorldOf F} {f : F} → YieldSticks w (p.body f []) → RunSticks w (Global f)
      AtHead : {w : WorldOf F} {a : ℕ} {bs : List ℕ} → ForceSticks w a → RunSticks w (Apply a bs)
      AtArguments : {w w' : WorldOf F} {a : ℕ} {bs : List ℕ} {u : ValueOf F}
          → Forces p w a u w' → TakingSticks w' u bs → RunSticks w (Apply a bs)
      AtFirst : {w : WorldOf F} {op : PrimOp} {a b : ℕ} → ForceSticks w a
          → RunSticks w (Prim op a b)
      FirstIsNone : {w w' : WorldOf F} {op : PrimOp} {a b : ℕ} {u : ValueOf F}
          → Forces p w a u w' → NoNumber u → RunSticks w (Prim op a b)
      AtSecond : {w w' : WorldOf F} {op : PrimOp} {a b : ℕ} {i : ℤ}
          → Forces p w a (Int i) w' → ForceSticks w' b → RunSticks w (Prim op a b)
      SecondIsNone : {w w' w'' : WorldOf F} {op : PrimOp} {a b : ℕ} {i : ℤ} {v : ValueOf F}
          → Forces p w a (Int i) w' → Forces p w' b v w'' → NoNumber v
          → RunSticks w (Prim op a b)

    pub data TakingSticks : WorldOf F → ValueOf F → List ℕ → Type 0 where
      TakesNone : {w : WorldOf F} {u : ValueOf F} {b : ℕ} {bs : List ℕ} → NoFunction u
          → TakingSticks w u (b ∷ bs)
      Waiting' : {w : WorldOf F} {f : F} {b : ℕ} {xs bs : List ℕ}
          → suc (length xs) < p.arity f → TakingSticks w (Part f (xs ++ b ∷ [])) bs
          → TakingSticks w (Part f xs) (b ∷ bs)
      Entering : {w : WorldOf F} {f : F} {b : ℕ} {xs bs : List ℕ}
          → p.arity f ≤ suc (length xs) → RunSticks w (Call f (xs ++ b ∷ []))
          → TakingSticks w (Part f xs) (b ∷ bs)
      Behind : {w w' : WorldOf F} {f : F} {b : ℕ} {xs bs : List ℕ} {u : ValueOf F}
          → p.arity f ≤ suc (length xs) → Runs p w (Call f (xs ++ b ∷ [])) u w'
          → TakingSticks w' u bs → TakingSticks w (Part f xs) (b ∷ bs)

    pub data YieldSticks : WorldOf F → Moves F → Type 0 where
      Refused : {w : WorldOf F} → YieldSticks w Refuses
      NoFunction' : {w : WorldOf F} → p.absent_is_refused ≡ true → YieldSticks w Absent
      Computing : {w : WorldOf F} {t : DelayedOf F} → RunSticks w t
          → YieldSticks w (Ends (Waiting t))
      Binding : {w : WorldOf F} {more : ℕ → HeapOf F} {next : ℕ → Moves F}
          → YieldSticks (extended w (more (length w.heap))) (next (length w.heap))
          → YieldSticks w (Adds more next)
      AtDemand : {w : WorldOf F} {a : ℕ} {next : ValueOf F → Moves F} → ForceSticks w a
          → YieldSticks w (Demands a next)
      BehindDemand : {w w' : WorldOf F} {a : ℕ} {next : ValueOf F → Moves F} {u : ValueOf F}
          → Forces p w a u w' → YieldSticks w' (next u) → YieldSticks w (Demands a next)
      AtMoves : {w : WorldOf F} {moves : Moves F} {next : ValueOf F → Moves F}
          → YieldSticks w moves → YieldSticks w (Then moves next)
      BehindMoves : {w w' : WorldOf F} {moves : Moves F} {next : ValueOf F → Moves F}
          {u : ValueOf F}
          → Yields p w moves u w' → YieldSticks w' (next u) → YieldSticks w (Then moves next)
