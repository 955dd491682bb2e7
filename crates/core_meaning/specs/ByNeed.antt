-- The evaluation of a program in normal form by need, with a bound on its units, and the printing
-- loop: Forcing, where a function is entered by evaluating its body. What a lookup gives that fails
-- is a parameter of both.
use Rattle.std.specs.Prelude.{ℕ, suc, ◌+◌, ◌==◌, true, false, List, [], ◌∷◌, ◌++◌, map, length, take, codes, Option, Some, None, if◌then◌else◌, slice_get, slice_index_or}
use Rattle.std.specs.List.{count_by}
use Rattle.std.specs.Str.{bytes_eq}
use Rattle.arity_check.specs.declared.normal.Var.{Var}
use Rattle.arity_check.specs.declared.normal.Var.TheVariants as var
use Rattle.arity_check.specs.declared.normal.Bound.{Bound}
use Rattle.arity_check.specs.declared.normal.Flat.{Flat}
use Rattle.arity_check.specs.declared.normal.Flat.TheVariants as flat
use Rattle.arity_check.specs.declared.normal.PrimOp.{PrimOp}
use Rattle.arity_check.specs.declared.normal.Con as arity
use Rattle.arity_check.specs.Program.{Program, Function, Term, App, Let, Case, Branches, NoMore, OnCon, OnInt, OnAny}
use Rattle.core_meaning.specs.Heap.{Value, Int, Con, Part, Call, Apply, Prim, Global, Binding, Known, Waiting, Heap, Env, with_local, with_locals}
use Rattle.core_meaning.specs.Forcing as forcing
pub use Rattle.core_meaning.specs.Forcing.{Gives, NoAlternative, OutOfBound, and_then, with_number, is_con, fields_of, is_int, spend_of, spend, append, update, taken, PrintingEnd, Done, Unaccepted, Going, PrintedRun, stops, on_value, on_list, on_byte}

abbrev pub State : Type 0
State = forcing.StateOf ℕ

abbrev pub Answer : Type 0
Answer = forcing.AnswerOf ℕ

abbrev pub DelayedEvaluator : Type 0
DelayedEvaluator = forcing.DelayedEvaluatorOf ℕ

-- the first constructor of this name
abbrev pub con_named : List ℕ → List arity.Con → ℕ
con_named name [] = 0
con_named name (c ∷ cs) = if bytes_eq name c.name then 0 else con_named name cs + 1

module _ (p : Program) where
  abbrev pub nil : ℕ
  nil = con_named (codes "Nil") p.cons

  abbrev pub cons : ℕ
  cons = con_named (codes "Cons") p.cons

  -- the name of the function f without parameters: the start heap has one binding for each of these
  abbrev pub global : ℕ → ℕ
  global f = count_by (λ g. g.params == 0) (take f p.funs)

  abbrev pub params_of : Option Function → ℕ
  params_of None = 0
  params_of (Some f) = f.params

  abbrev pub params : ℕ → ℕ
  params f = params_of (slice_get p.funs f)

  abbrev pub name : Env → Var → ℕ
  name env (var.Local x) = env x
  name env (var.Global f) = global f

  abbrev pub names : Env → List Var → List ℕ
  names env xs = map (name env) xs

  -- the binding of a form: a number, a constructor and a part are values, and the others wait
  abbrev pub binding : Env → Flat → Binding
  binding env (flat.Int k) = Known (Int k)
  binding env (flat.Con c xs) = Known (Con c (names env xs))
  binding env (flat.Part f xs) = Known (Part f (names env xs))
  binding env (flat.Call f xs) = Waiting (Call f (names env xs))
  binding env (flat.Apply x xs) = Waiting (Apply (name env x) (names env xs))
  binding env (flat.Prim op x y) = Waiting (Prim op (name env x) (name env y))

  -- the environment in which the group's locals have the names from a on
  abbrev pub with_group : Env → List Bound → ℕ → Env
  with_group env [] a = env
  with_group env (b ∷ group) a = with_group (with_local env b.local a) group (suc a)

  -- the heap at the start: the functions without parameters, in text order
  abbrev pub globals : List Function → ℕ → Heap
  globals [] f = []
  globals (g ∷ gs) f = (if g.params == 0 then Waiting (Global f) ∷ [] else []) ++ globals gs (suc f)

  -- with this input and n units
  abbrev pub start : List ℕ → ℕ → State
  start i n = forcing.start (globals p.funs 0) i n

  module _ (onward : DelayedEvaluator) where
    abbrev pub give : Value → ℕ → ℕ → State → Answer
    give v = forcing.give params onward v

    abbrev pub give_all : Value → List ℕ → ℕ → State → Answer
    give_all v bs = forcing.give_all params onward v bs

    abbrev pub next_byte : List ℕ → State → Answer
    next_byte i = forcing.next_byte nil cons i

-- Nowhere is the name of a local that is not in scope, and lost is the answer where the heap has no
-- such name or the program no such function.
module _ (nowhere : ℕ) (lost : State → Answer) where
  -- the locals from 0 on have these names
  abbrev pub parameters : List ℕ → Env
  parameters xs x = slice_index_or xs x nowhere

  module _ (p : Program) where
    module _ (onward : DelayedEvaluator) where
      abbrev pub force_binding : Option Binding → ℕ → ℕ → State → Answer
      force_binding b = forcing.force_binding (params p) lost onward b

      abbrev pub force : ℕ → ℕ → State → Answer
      force a = forcing.force (params p) lost onward a

      abbrev pub apply : ℕ → List ℕ → ℕ → State → Answer
      apply a bs = forcing.apply (params p) lost onward a bs

      abbrev pub prim : PrimOp → ℕ → ℕ → ℕ → State → Answer
      prim op = forcing.prim (params p) lost onward op

      abbrev pub form : Env → Flat → ℕ → State → Answer
      form env (flat.Int k) d s = Gives (Int k) s
      form env (flat.Con c xs) d s = Gives (Con c (names p env xs)) s
      form env (flat.Part f xs) d s = Gives (Part f (names p env xs)) s
      form env (flat.Call f xs) d s = onward (Call f (names p env xs)) d s
      form env (flat.Apply x xs) d s = apply (name p env x) (names p env xs) d s
      form env (flat.Prim op x y) d s = prim op (name p env x) (name p env y) d s

      abbrev mutual
        -- the value of an expression
        pub eval : Term → Env → ℕ → State → Answer
        eval (App f) env d s = form env f d s
        eval (Let group body) env d s =
            let env' : Env = with_group p env group (length s.heap) in
            eval body env' d (append s (map (λ b. binding p env' b.flat) group))
        eval (Case tested branches) env d s =
            and_then (eval tested env (suc d) s) (λ v s. select branches v env d s)

        -- the first branch that accepts a value
        pub select : Branches → Value → Env → ℕ → State → Answer
        select NoMore v env d s = NoAlternative s
        select (OnCon c fields body rest) v env d s =
            elim (is_con c v) [
              | true ↦ eval body (with_locals env fields (fields_of v)) d s
              | false ↦ select rest v env d s
            ]
        select (OnInt k body rest) v env d s =
            elim (is_int k v) [ true ↦ eval body env d s | false ↦ select rest v env d s ]
        select (OnAny None body rest) v env d s = eval body env d s
        select (OnAny (Some x) body rest) v env d s =
            eval body (with_local env x (length s.heap)) d (append s (Known v ∷ []))

      abbrev pub enter_body : Option Function → List ℕ → ℕ → State → Answer
      enter_body None xs d s = lost s
      enter_body (Some f) xs d s = eval f.body (parameters xs) d s

    abbrev pub enter : DelayedEvaluator → ℕ → List ℕ → ℕ → State → Answer
    enter onward f xs d s = enter_body onward (slice_get p.funs f) xs d s

    abbrev pub proceed : DelayedEvaluator → DelayedEvaluator
    proceed onward t = forcing.proceed (params p) lost (nil p) (cons p) enter onward t

    abbrev pub within : ℕ → DelayedEvaluator
    within n = forcing.within (params p) lost (nil p) (cons p) enter n

    abbrev pub print : ℕ → ℕ → List ℕ → State → PrintedRun
    print n = forcing.print (params p) lost (nil p) (cons p) enter n

    abbrev pub printed_from_input : List ℕ → ℕ → PrintedRun
    printed_from_input i n =
        forcing.printed_from_input (params p) lost (nil p) (cons p) enter
        (globals p p.funs 0) p.main (global p p.main) i n

    -- what the program puts out on the input i within n units
    abbrev pub printed : List ℕ → ℕ → PrintedRun
    printed i n =
        forcing.printed (params p) lost (nil p) (cons p) enter
        (globals p p.funs 0) p.main (global p p.main) i n
