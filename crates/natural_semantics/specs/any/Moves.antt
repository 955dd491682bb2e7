-- A program of any language that is evaluated by need: what a function's body does, where it has
-- been entered, is a tree of a few moves.
use Rattle.std.specs.Prelude.{ℕ, suc, Bool, true, false, List, length, Option}
use Rattle.arity_check.specs.declared.normal.PrimOp.{PrimOp}
use Rattle.core_meaning.specs.Heap.{ValueOf, Call, Apply, Prim, Global, Input, BindingOf, Known, Waiting, HeapOf}
use Rattle.core_meaning.specs.Forcing as forcing
use Rattle.core_meaning.specs.Forcing.{StateOf, AnswerOf, DelayedEvaluatorOf, PrintedRun, Gives, NoAlternative, OutOfBound, and_then, append}

pub data Moves (F : Type 0) : Type 0 where
  -- it has this value, or that of what waits
  Ends : BindingOf F → Moves F
  -- more bindings, whose names begin at that which both are told
  Adds : (ℕ → HeapOf F) → (ℕ → Moves F) → Moves F
  -- a name has a value, and all goes on with it; these moves do, and all goes on with it
  Demands : ℕ → (ValueOf F → Moves F) → Moves F
  Then : Moves F → (ValueOf F → Moves F) → Moves F
  -- nothing accepts a value; there is no such function
  Refuses : Moves F
  Absent : Moves F

-- How many parameters a function has, the numbers of Nil and of Cons, what a function does with as
-- many names, the heap at the start, and `main`, which has this name where it has no parameter. A
-- name or a function that isn't there is refused, as a value that nothing accepts, or isn't spoken
-- of.
pub record ProgramOf (F : Type 0) : Type 0 where
  pub absent_is_refused : Bool
  pub arity : F → ℕ
  pub nil : ℕ
  pub cons : ℕ
  pub body : F → List ℕ → Moves F
  pub shared : HeapOf F
  pub main : F
  pub name : ℕ

-- what a lookup answers that fails
abbrev pub lost_where : {F : Type 0} → Bool → StateOf F → AnswerOf F
lost_where true s = NoAlternative s
lost_where false s = OutOfBound s

-- ---- the evaluator of Forcing, where a function is entered by the moves of its body

module _ {F : Type 0} (arity : F → ℕ) (lost : StateOf F → AnswerOf F) where
  module _ (onward : DelayedEvaluatorOf F) where
    abbrev pub end_as : BindingOf F → ℕ → StateOf F → AnswerOf F
    end_as (Known v) d s = Gives v s
    end_as (Waiting (Call f xs)) d s = onward (Call f xs) d s
    end_as (Waiting (Apply a xs)) d s = forcing.apply arity lost onward a xs d s
    end_as (Waiting (Prim op a b)) d s = forcing.prim arity lost onward op a b d s
    end_as (Waiting (Global f)) d s = onward (Global f) d s
    end_as (Waiting Input) d s = onward Input d s

    abbrev pub perform : Moves F → ℕ → StateOf F → AnswerOf F
    perform (Ends b) d s = end_as b d s
    perform (Adds more next) d s =
        perform (next (length s.heap)) d (append s (more (length s.heap)))
    perform (Demands a next) d s =
        and_then (forcing.force arity lost onward a (suc d) s) (λ v s. perform (next v) d s)
    perform (Then moves next) d s =
        and_then (perform moves (suc d) s) (λ v s. perform (next v) d s)
    perform Refuses d s = NoAlternative s
    perform Absent d s = lost s

module _ {F : Type 0} (p : ProgramOf F) where
  abbrev pub lost : StateOf F → AnswerOf F
  lost s = lost_where p.absent_is_refused s

  module _ (onward : DelayedEvaluatorOf F) where
    abbrev pub force_binding : Option (BindingOf F) → ℕ → ℕ → StateOf F → AnswerOf F
    force_binding b = forcing.force_binding p.arity lost onward b

    abbrev pub force : ℕ → ℕ → StateOf F → AnswerOf F
    force a = forcing.force p.arity lost onward a

    abbrev pub apply : ℕ → List ℕ → ℕ → StateOf F → AnswerOf F
    apply a bs = forcing.apply p.arity lost onward a bs

    abbrev pub prim : PrimOp → ℕ → ℕ → ℕ → StateOf F → AnswerOf F
    prim op = forcing.prim p.arity lost onward op

    abbrev pub give : ValueOf F → ℕ → ℕ → StateOf F → AnswerOf F
    give v = forcing.give p.arity onward v

    abbrev pub give_all : ValueOf F → List ℕ → ℕ → StateOf F → AnswerOf F
    give_all v bs = forcing.give_all p.arity onward v bs

    abbrev pub ends : BindingOf F → ℕ → StateOf F → AnswerOf F
    ends b = end_as p.arity lost onward b

    abbrev pub does : Moves F → ℕ → StateOf F → AnswerOf F
    does m = perform p.arity lost onward m

  abbrev pub enter : DelayedEvaluatorOf F → F → List ℕ → ℕ → StateOf F → AnswerOf F
  enter onward f xs d s = does onward (p.body f xs) d s

  abbrev pub proceed : DelayedEvaluatorOf F → DelayedEvaluatorOf F
  proceed onward t = forcing.proceed p.arity lost p.nil p.cons enter onward t

  abbrev pub within : ℕ → DelayedEvaluatorOf F
  within n = forcing.within p.arity lost p.nil p.cons enter n

  abbrev pub print : ℕ → ℕ → List ℕ → StateOf F → PrintedRun
  print n = forcing.print p.arity lost p.nil p.cons enter n

  abbrev pub printed_from_input : List ℕ → ℕ → PrintedRun
  printed_from_input i n =
      forcing.printed_from_input p.arity lost p.nil p.cons enter p.shared p.main p.name i n

  -- what it puts out on the input i within n units
  abbrev pub printed : List ℕ → ℕ → PrintedRun
  printed i n =
      forcing.printed p.arity lost p.nil p.cons enter p.shared p.main p.name i n
