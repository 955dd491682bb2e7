-- Evaluation by need that meets a value which nothing accepts: a case without a branch for it, a
-- number or a constructor that is given a name, or an operation on something else than a number.
use Rattle.std.specs.Prelude.{◌≡◌, ℕ, ℤ, suc, ◌<◌, ◌≤◌, true, false, List, [], ◌∷◌, ◌++◌, map, length, Some, None, slice_get}
use Rattle.arity_check.specs.declared.normal.Bound.{Bound}
use Rattle.arity_check.specs.declared.normal.Flat.{Flat}
use Rattle.arity_check.specs.declared.normal.PrimOp.{PrimOp}
use Rattle.arity_check.specs.Program.{Program, Function, Term, App, Let, Case, Branches, NoMore, OnCon, OnInt, OnAny}
use Rattle.core_meaning.specs.Heap.{Value, Int, Part, Delayed, Call, Apply, Prim, Global, Known, Waiting, Env, with_local, with_locals}
use Rattle.core_meaning.specs.Evaluation.{params, binding, with_group, is_con, fields_of, is_int}
use Rattle.natural_semantics.specs.World.{World, extended, parameters, NoNumber, NoFunction}
use Rattle.natural_semantics.specs.Natural.{Forces, Runs, Evaluates}

module _ (p : Program) where
  mutual
    pub data ForceSticks : World → ℕ → Type 0 where
      Becoming : {w : World} {a : ℕ} {t : Delayed} → slice_get w.heap a ≡ Some (Waiting t)
          → RunSticks w t → ForceSticks w a

    pub data RunSticks : World → Delayed → Type 0 where
      Calling : {w : World} {f : ℕ} {xs : List ℕ} (g : Function)
          → slice_get p.funs f ≡ Some g → EvaluationSticks w (parameters xs) g.body
          → RunSticks w (Call f xs)
      Sharing : {w : World} {f : ℕ} (g : Function)
          → slice_get p.funs f ≡ Some g → EvaluationSticks w (parameters []) g.body
          → RunSticks w (Global f)
      AtHead : {w : World} {a : ℕ} {bs : List ℕ} → ForceSticks w a → RunSticks w (Apply a bs)
      AtArguments : {w w' : World} {a : ℕ} {bs : List ℕ} {u : Value}
          → Forces p w a u w' → TakingSticks w' u bs → RunSticks w (Apply a bs)
      AtFirst : {w : World} {op : PrimOp} {a b : ℕ} → ForceSticks w a → RunSticks w (Prim op a b)
      FirstIsNone : {w w' : World} {op : PrimOp} {a b : ℕ} {u : Value}
          → Forces p w a u w' → NoNumber u → RunSticks w (Prim op a b)
      AtSecond : {w w' : World} {op : PrimOp} {a b : ℕ} {i : ℤ}
          → Forces p w a (Int i) w' → ForceSticks w' b → RunSticks w (Prim op a b)
      SecondIsNone : {w w' w'' : World} {op : PrimOp} {a b : ℕ} {i : ℤ} {v : Value}
          → Forces p w a (Int i) w' → Forces p w' b v w'' → NoNumber v
          → RunSticks w (Prim op a b)

    pub data TakingSticks : World → Value → List ℕ → Type 0 where
      TakesNone : {w : World} {u : Value} {b : ℕ} {bs : List ℕ} → NoFunction u
          → TakingSticks w u (b ∷ bs)
      Waiting' : {w : World} {f b : ℕ} {xs bs : List ℕ}
          → suc (length xs) < params p f → TakingSticks w (Part f (xs ++ b ∷ [])) bs
          → TakingSticks w (Part f xs) (b ∷ bs)
      Entering : {w : World} {f b : ℕ} {xs bs : List ℕ}
          → params p f ≤ suc (length xs) → RunSticks w (Call f (xs ++ b ∷ []))
          → TakingSticks w (Part f xs) (b ∷ bs)
      Behind : {w w' : World} {f b : ℕ} {xs bs : List ℕ} {u : Value}
          → params p f ≤ suc (length xs) → Runs p w (Call f (xs ++ b ∷ [])) u w'
          → TakingSticks w' u bs → TakingSticks w (Part f xs) (b ∷ bs)

    pub data EvaluationSticks : World → Env → Term → Type 0 where
      Computing : {w : World} {env : Env} {f : Flat} {t : Delayed}
          → binding p env f ≡ Waiting t → RunSticks w t → EvaluationSticks w env (App f)
      Binding : {w : World} {env : Env} {group : List Bound} {body : Term} (inner : Env)
          → inner ≡ with_group p env group (length w.heap)
          → EvaluationSticks (extended w (map (λ b. binding p inner b.flat) group)) inner body
          → EvaluationSticks w env (Let group body)
      AtTested : {w : World} {env : Env} {tested : Term} {branches : Branches}
          → EvaluationSticks w env tested → EvaluationSticks w env (Case tested branches)
      AtBranches : {w w' : World} {env : Env} {tested : Term} {branches : Branches} {u : Value}
          → Evaluates p w env tested u w' → SelectionSticks w' env branches u
          → EvaluationSticks w env (Case tested branches)

    pub data SelectionSticks : World → Env → Branches → Value → Type 0 where
      NoneLeft : {w : World} {env : Env} {u : Value} → SelectionSticks w env NoMore u
      InCon : {w : World} {env : Env} {c : ℕ} {xs : List ℕ} {body : Term} {rest : Branches}
          {u : Value} → is_con c u ≡ true
          → EvaluationSticks w (with_locals env xs (fields_of u)) body
          → SelectionSticks w env (OnCon c xs body rest) u
      InInt : {w : World} {env : Env} {k : ℤ} {body : Term} {rest : Branches} {u : Value}
          → is_int k u ≡ true → EvaluationSticks w env body
          → SelectionSticks w env (OnInt k body rest) u
      InAny : {w : World} {env : Env} {body : Term} {rest : Branches} {u : Value}
          → EvaluationSticks w env body → SelectionSticks w env (OnAny None body rest) u
      InNamed : {w : World} {env : Env} {x : ℕ} {body : Term} {rest : Branches} {u : Value}
          → EvaluationSticks (extended w (Known u ∷ [])) (with_local env x (length w.heap)) body
          → SelectionSticks w env (OnAny (Some x) body rest) u
      PastCon' : {w : World} {env : Env} {c : ℕ} {xs : List ℕ} {body : Term} {rest : Branches}
          {u : Value} → is_con c u ≡ false → SelectionSticks w env rest u
          → SelectionSticks w env (OnCon c xs body rest) u
      PastInt' : {w : World} {env : Env} {k : ℤ} {body : Term} {rest : Branches} {u : Value}
          → is_int k u ≡ false → SelectionSticks w env rest u
          → SelectionSticks w env (OnInt k body rest) u
