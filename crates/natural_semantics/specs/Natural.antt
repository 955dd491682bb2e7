-- Evaluation by need as a relation between a heap and an expression, and a heap and a value, in the
-- manner of Launchbury's natural semantics for lazy evaluation: no units, no nesting, no defaults.
--
-- A name that waits stays in the heap while it is evaluated, so one that needs itself has no
-- derivation. Names are places in the heap, and an application takes its arguments one at a time.
use Rattle.std.specs.Prelude.{◌≡◌, ℕ, suc, ◌<◌, ◌≤◌, ℤ, true, false, List, [], ◌∷◌, ◌++◌, map, length, Some, None, slice_get}
use Rattle.arity_check.specs.declared.normal.Bound.{Bound}
use Rattle.arity_check.specs.declared.normal.Flat.{Flat}
use Rattle.arity_check.specs.declared.normal.PrimOp.{PrimOp}
use Rattle.arity_check.specs.Program.{Program, Function, Term, App, Let, Case, Branches, OnCon, OnInt, OnAny}
use Rattle.core_meaning.specs.Heap.{Value, Int, Con, Part, Delayed, Call, Apply, Prim, Global, Input, Known, Waiting, Env, with_local, with_locals}
use Rattle.core_meaning.specs.Numbers.{primitive_result}
use Rattle.core_meaning.specs.Evaluation.{nil, cons, params, binding, with_group, is_con, fields_of, is_int}
use Rattle.natural_semantics.specs.World.{World, extended, updated, after_byte, parameters}

module _ (p : Program) where
  mutual
    -- a name has a value
    pub data Forces : World → ℕ → Value → World → Type 0 where
      Is : {w : World} {a : ℕ} {v : Value} → slice_get w.heap a ≡ Some (Known v)
          → Forces w a v w
      Becomes : {w w' : World} {a : ℕ} {t : Delayed} {v : Value}
          → slice_get w.heap a ≡ Some (Waiting t) → Runs w t v w'
          → Forces w a v (updated w' a v)

    -- what waits has a value
    pub data Runs : World → Delayed → Value → World → Type 0 where
      Calls : {w w' : World} {f : ℕ} {xs : List ℕ} {v : Value} (g : Function)
          → slice_get p.funs f ≡ Some g → Evaluates w (parameters xs) g.body v w'
          → Runs w (Call f xs) v w'
      Shared : {w w' : World} {f : ℕ} {v : Value} (g : Function)
          → slice_get p.funs f ≡ Some g → Evaluates w (parameters []) g.body v w'
          → Runs w (Global f) v w'
      Applies : {w w' w'' : World} {a : ℕ} {bs : List ℕ} {u v : Value}
          → Forces w a u w' → Takes w' u bs v w'' → Runs w (Apply a bs) v w''
      Computes : {w w' w'' : World} {op : PrimOp} {a b : ℕ} {i j : ℤ}
          → Forces w a (Int i) w' → Forces w' b (Int j) w''
          → Runs w (Prim op a b) (Int (primitive_result op i j)) w''
      NoByte : {w : World} → w.input ≡ [] → Runs w Input (Con (nil p) []) w
      Byte : {w : World} {k : ℕ} {rest : List ℕ} → w.input ≡ k ∷ rest
          → Runs w Input (Con (cons p) (length w.heap ∷ suc (length w.heap) ∷ []))
          (after_byte w k rest)

    -- a value takes names, one at a time: a function that has all its arguments is entered
    pub data Takes : World → Value → List ℕ → Value → World → Type 0 where
      Nothing : {w : World} {v : Value} → Takes w v [] v w
      Waits : {w w' : World} {f b : ℕ} {xs bs : List ℕ} {v : Value}
          → suc (length xs) < params p f → Takes w (Part f (xs ++ b ∷ [])) bs v w'
          → Takes w (Part f xs) (b ∷ bs) v w'
      Enters : {w w' w'' : World} {f b : ℕ} {xs bs : List ℕ} {u v : Value}
          → params p f ≤ suc (length xs) → Runs w (Call f (xs ++ b ∷ [])) u w'
          → Takes w' u bs v w'' → Takes w (Part f xs) (b ∷ bs) v w''

    -- an expression has a value
    pub data Evaluates : World → Env → Term → Value → World → Type 0 where
      AtOnce : {w : World} {env : Env} {f : Flat} {v : Value} → binding p env f ≡ Known v
          → Evaluates w env (App f) v w
      Computed : {w w' : World} {env : Env} {f : Flat} {t : Delayed} {v : Value}
          → binding p env f ≡ Waiting t → Runs w t v w' → Evaluates w env (App f) v w'
      Binds : {w w' : World} {env : Env} {group : List Bound} {body : Term} {v : Value} (inner : Env)
          → inner ≡ with_group p env group (length w.heap)
          → Evaluates (extended w (map (λ b. binding p inner b.flat) group)) inner body v w'
          → Evaluates w env (Let group body) v w'
      Chooses : {w w' w'' : World} {env : Env} {tested : Term} {branches : Branches} {u v : Value}
          → Evaluates w env tested u w' → Selects w' env branches u v w''
          → Evaluates w env (Case tested branches) v w''

    -- the first branch that accepts a value gives one
    pub data Selects : World → Env → Branches → (tested given : Value) → World → Type 0 where
      OfCon : {w w' : World} {env : Env} {c : ℕ} {xs : List ℕ} {body : Term} {rest : Branches}
          {u v : Value} → is_con c u ≡ true
          → Evaluates w (with_locals env xs (fields_of u)) body v w'
          → Selects w env (OnCon c xs body rest) u v w'
      OfInt : {w w' : World} {env : Env} {k : ℤ} {body : Term} {rest : Branches} {u v : Value}
          → is_int k u ≡ true → Evaluates w env body v w'
          → Selects w env (OnInt k body rest) u v w'
      OfAny : {w w' : World} {env : Env} {body : Term} {rest : Branches} {u v : Value}
          → Evaluates w env body v w' → Selects w env (OnAny None body rest) u v w'
      OfNamed : {w w' : World} {env : Env} {x : ℕ} {body : Term} {rest : Branches} {u v : Value}
          → Evaluates (extended w (Known u ∷ [])) (with_local env x (length w.heap)) body v w'
          → Selects w env (OnAny (Some x) body rest) u v w'
      PastCon : {w w' : World} {env : Env} {c : ℕ} {xs : List ℕ} {body : Term} {rest : Branches}
          {u v : Value} → is_con c u ≡ false → Selects w env rest u v w'
          → Selects w env (OnCon c xs body rest) u v w'
      PastInt : {w w' : World} {env : Env} {k : ℤ} {body : Term} {rest : Branches} {u v : Value}
          → is_int k u ≡ false → Selects w env rest u v w'
          → Selects w env (OnInt k body rest) u v w'
