-- The examples, derived by hand.
use Rattle.std.proofs.Common.{◌≡◌, ◌≢◌, ℕ, suc, false, List, [], ◌∷◌, length, Option, Some, None, refl, ap, sym, ◌∙◌, subst}
use Rattle.std.specs.Int.{int_wrap}
use Rattle.std.specs.Prelude.{ℤ, pos, codes, slice_get}
use Rattle.arity_check.specs.declared.normal.Flat.TheVariants as flat
use Rattle.arity_check.specs.declared.normal.PrimOp.{PrimOp}
use Rattle.arity_check.specs.declared.normal.PrimOp.TheVariants.{Add, Sub}
use Rattle.arity_check.specs.declared.normal.Var.TheVariants as var
use Rattle.arity_check.specs.Program.{Program, Function, App}
use Rattle.core_meaning.specs.Examples.{take_three, shared}
use Rattle.core_meaning.specs.Heap.{Value, Int, Con, Delayed, Call, Apply, Prim, Global, Input, Binding, Known, Waiting, Env, with_local}
use Rattle.core_meaning.specs.Evaluation.{parameters, is_int}
use Rattle.core_meaning.specs.Printing.{PrintingEnd, Done, Going}
use Rattle.natural_semantics.specs.World.{World, extended}
use Rattle.natural_semantics.specs.Natural.{Forces, Runs, Evaluates, Is, Becomes, Calls, Shared, Applies, Computes, NoByte, Byte, Nothing, AtOnce, Computed, Binds, Chooses, OfCon, OfInt, OfNamed, PastCon, PastInt}
use Rattle.natural_semantics.specs.Stuck.{ForceSticks, RunSticks, EvaluationSticks, Becoming, Calling, Sharing, AtHead, AtArguments, AtFirst, FirstIsNone, AtSecond, SecondIsNone, Computing, Binding as Binding'}
use Rattle.natural_semantics.specs.Prints.{Prints, Behind, AtNil, NoList', ListSticks, Puts, NoByte', ByteSticks, first_world, ProgramPrints, OfItself, OfInput}
use Rattle.natural_semantics.specs.Examples.{needs_itself, SelfDemandHasNoDerivation, listed, summed, SumIsShared}

-- ---- a sum in two places

main_of_shared : Forces shared (first_world shared []) 0 (Con 1 (3 ∷ (5 ∷ []))) listed
main_of_shared = Becomes refl
    (Shared _ refl (Binds _ refl (Computed refl (Calls _ refl (Binds _ refl (AtOnce refl))))))

sum_of_shared : Forces shared listed 3 (Int (pos 65)) summed
unfolding int_wrap
sum_of_shared = Becomes refl (Computes (Is refl) (Is refl))

pub twice : ProgramPrints shared [] (codes "AA") Done
unfolding int_wrap
twice = OfItself refl
    (Puts {k = pos 65} main_of_shared sum_of_shared
    (Puts {k = pos 65} (Is refl) (Is refl) (AtNil (Is refl))))

pub sum_is_shared : SumIsShared
sum_is_shared = record {
  list = main_of_shared;
  first_demand = sum_of_shared;
  tail = Is refl;
  second_demand = Is refl;
}

-- ---- the first elements of an endless list

from_gives : {w : World} {n : ℕ}
    → Runs take_three w (Call 1 (n ∷ [])) (Con 1 (n ∷ (suc (suc (length w.heap)) ∷ [])))
    (extended w (Known (Int (pos 1)) ∷ (Waiting (Prim Add n (length w.heap))
    ∷ (Waiting (Call 1 (suc (length w.heap) ∷ [])) ∷ []))))
from_gives = Calls _ refl (Binds _ refl (AtOnce refl))

-- the first element, and the others that are still to be taken
take_gives : {w w1 w2 : World} {n xs h t : ℕ} {m : ℤ} → is_int {F = ℕ} (pos 0) (Int m) ≡ false
    → Forces take_three w n (Int m) w1
    → Forces take_three (extended w1 (Known (Int m) ∷ [])) xs (Con 1 (h ∷ (t ∷ []))) w2
    → Runs take_three w (Call 0 (n ∷ (xs ∷ []))) (Con 1 (h ∷ (suc (suc (length w2.heap)) ∷ [])))
    (extended w2 (Known (Int (pos 1)) ∷ (Waiting (Prim Sub (length w1.heap) (length w2.heap))
    ∷ (Waiting (Call 0 (suc (length w2.heap) ∷ (t ∷ []))) ∷ []))))
take_gives e number list = Calls _ refl
    (Chooses (Computed refl (Applies number Nothing)) (PastInt e (OfNamed
    (Chooses (Computed refl (Applies list Nothing)) (PastCon refl (OfCon refl
    (Binds _ refl (AtOnce refl))))))))

pub take : ProgramPrints take_three [] (codes "ABC") Done
unfolding int_wrap
take = OfItself refl
    (Puts {k = pos 65}
    (Becomes refl (Shared _ refl (Binds _ refl (Computed refl
    (take_gives refl (Is refl) (Becomes refl from_gives))))))
    (Is refl)
    (Puts {k = pos 66}
    (Becomes refl (take_gives refl (Becomes refl (Computes (Is refl) (Is refl)))
    (Becomes refl from_gives)))
    (Becomes refl (Computes (Is refl) (Is refl)))
    (Puts {k = pos 67}
    (Becomes refl (take_gives refl (Becomes refl (Computes (Is refl) (Is refl)))
    (Becomes refl from_gives)))
    (Becomes refl (Computes (Is refl) (Is refl)))
    (AtNil (Becomes refl (Calls _ refl
    (Chooses (Computed refl (Applies (Becomes refl (Computes (Is refl) (Is refl))) Nothing))
    (OfInt refl (AtOnce refl)))))))))

-- ---- a name that needs itself

abbrev waits_in : Delayed → Option Binding → Delayed
waits_in t None = t
waits_in t (Some (Known v)) = t
waits_in t (Some (Waiting u)) = u

abbrev first_in : ℕ → Delayed → ℕ
first_in n (Call f xs) = n
first_in n (Apply a bs) = n
first_in n (Prim op a b) = a
first_in n (Global f) = n
first_in n Input = n

module _ (p : Program) (w : World) (op : PrimOp) (a b : ℕ)
    (e : slice_get w.heap a ≡ Some (Waiting (Prim op a b))) where
  mutual
    no_value : (c : ℕ) (v : Value) (w' : World) → c ≡ a → Forces p w c v w' → ⊥
    no_value c v w' q (Is i) =
        let z : Some (Known v) ≡ Some (Waiting (Prim op a b))
        = sym i ∙ ap (λ x. slice_get w.heap x) q ∙ e in cc
    no_value c v w' q (Becomes {w' = w1} {t = t} i r) =
        no_run t v w1 (ap (waits_in t) (sym i ∙ ap (λ x. slice_get w.heap x) q ∙ e)) r

    no_run : (t : Delayed) (v : Value) (w' : World) → t ≡ Prim op a b → Runs p w t v w' → ⊥
    no_run t v w' q (Calls g i r) = cc
    no_run t v w' q (Shared g i r) = cc
    no_run t v w' q (Applies r r') = cc
    no_run t v w' q (Computes {w' = w1} {a = c} {i = i} r r') =
        no_value c (Int i) w1 (ap (first_in c) q) r
    no_run t v w' q (NoByte i) = cc
    no_run t v w' q (Byte i) = cc

  mutual
    not_stuck : (c : ℕ) → c ≡ a → ForceSticks p w c → ⊥
    not_stuck c q (Becoming {t = t} i r) =
        run_not_stuck t (ap (waits_in t) (sym i ∙ ap (λ x. slice_get w.heap x) q ∙ e)) r

    run_not_stuck : (t : Delayed) → t ≡ Prim op a b → RunSticks p w t → ⊥
    run_not_stuck t q (Calling g i r) = cc
    run_not_stuck t q (Sharing g i r) = cc
    run_not_stuck t q (AtHead r) = cc
    run_not_stuck t q (AtArguments r r') = cc
    run_not_stuck t q (AtFirst {a = c} r) = not_stuck c (ap (first_in c) q) r
    run_not_stuck t q (FirstIsNone {w' = w1} {a = c} {u = u} r n) =
        no_value c u w1 (ap (first_in c) q) r
    run_not_stuck t q (AtSecond {w' = w1} {a = c} {i = i} r r') =
        no_value c (Int i) w1 (ap (first_in c) q) r
    run_not_stuck t q (SecondIsNone {w' = w1} {a = c} {i = i} r r' n) =
        no_value c (Int i) w1 (ap (first_in c) q) r

abbrev binding_waits_for : Delayed → Binding → Delayed
binding_waits_for t (Known v) = t
binding_waits_for t (Waiting u) = u

abbrev head_in : ℕ → Delayed → ℕ
head_in n (Call f xs) = n
head_in n (Apply a bs) = a
head_in n (Prim op a b) = n
head_in n (Global f) = n
head_in n Input = n

abbrev global_in : ℕ → Delayed → ℕ
global_in n (Call f xs) = n
global_in n (Apply a bs) = n
global_in n (Prim op a b) = n
global_in n (Global f) = f
global_in n Input = n

abbrev function_in : Function → Option Function → Function
function_in g None = g
function_in g (Some h) = h

abbrev itself : Program
itself = needs_itself

-- the name that its body stands for
module _ (w : World) (env : Env) (e : slice_get w.heap 2 ≡ Some (Waiting (Prim Add 2 1)))
    (x : env 1 ≡ 2) where
  no_run_of_name : (t : Delayed) (v : Value) (w' : World) → t ≡ Apply (env 1) []
      → Runs itself w t v w' → ⊥
  no_run_of_name t v w' q (Calls g i r) = cc
  no_run_of_name t v w' q (Shared g i r) = cc
  no_run_of_name t v w' q (Applies {w' = w1} {a = a} {u = u} r r') =
      no_value itself w Add 2 1 e a u w1 (ap (head_in a) q ∙ x) r
  no_run_of_name t v w' q (Computes r r') = cc
  no_run_of_name t v w' q (NoByte i) = cc
  no_run_of_name t v w' q (Byte i) = cc

  name_not_stuck : (t : Delayed) → t ≡ Apply (env 1) [] → RunSticks itself w t → ⊥
  name_not_stuck t q (Calling g i r) = cc
  name_not_stuck t q (Sharing g i r) = cc
  name_not_stuck t q (AtHead {a = a} r) =
      not_stuck itself w Add 2 1 e a (ap (head_in a) q ∙ x) r
  name_not_stuck t q (AtArguments {w' = w1} {a = a} {u = u} r r') =
      no_value itself w Add 2 1 e a u w1 (ap (head_in a) q ∙ x) r
  name_not_stuck t q (AtFirst r) = cc
  name_not_stuck t q (FirstIsNone r n) = cc
  name_not_stuck t q (AtSecond r r') = cc
  name_not_stuck t q (SecondIsNone r r' n) = cc

  no_value_of_name : (v : Value) (w' : World)
      → Evaluates itself w env (App (flat.Apply (var.Local 1) [])) v w' → ⊥
  no_value_of_name v w' (AtOnce i) = let z : Waiting (Apply (env 1) []) ≡ Known v = i in cc
  no_value_of_name v w' (Computed {t = t} i r) =
      no_run_of_name t v w' (ap (binding_waits_for t) (sym i)) r

  evaluation_not_stuck : EvaluationSticks itself w env (App (flat.Apply (var.Local 1) [])) → ⊥
  evaluation_not_stuck (Computing {t = t} i r) =
      name_not_stuck t (ap (binding_waits_for t) (sym i)) r

module _ (i : List ℕ) where
  abbrev main_function : Function
  main_function = function_in (record { name = []; params = 0; body = App (flat.Int (pos 0)) })
      (slice_get itself.funs 0)

  no_value_of_body : (v : Value) (w' : World)
      → Evaluates itself (first_world itself i) (parameters []) main_function.body v w' → ⊥
  no_value_of_body v w' (Binds inner e r) =
      no_value_of_name
      (extended (first_world itself i) (Known (Int (pos 1)) ∷ (Waiting (Prim Add 2 1) ∷ [])))
      (with_local (with_local (parameters []) 0 1) 1 2) refl refl v w'
      (subst (λ x. Evaluates itself
      (extended (first_world itself i)
      (Known (Int (pos 1)) ∷ (Waiting (Prim Add (x 1) (x 0)) ∷ []))) x
      (App (flat.Apply (var.Local 1) [])) v w') e r)

  body_not_stuck : EvaluationSticks itself (first_world itself i) (parameters [])
      main_function.body → ⊥
  body_not_stuck (Binding' inner e r) =
      evaluation_not_stuck
      (extended (first_world itself i) (Known (Int (pos 1)) ∷ (Waiting (Prim Add 2 1) ∷ [])))
      (with_local (with_local (parameters []) 0 1) 1 2) refl refl
      (subst (λ x. EvaluationSticks itself
      (extended (first_world itself i)
      (Known (Int (pos 1)) ∷ (Waiting (Prim Add (x 1) (x 0)) ∷ []))) x
      (App (flat.Apply (var.Local 1) []))) e r)

  no_run_of_main : (t : Delayed) (v : Value) (w' : World) → t ≡ Global 0
      → Runs itself (first_world itself i) t v w' → ⊥
  no_run_of_main t v w' q (Calls g e r) = cc
  no_run_of_main t v w' q (Shared {f = f} g e r) =
      let s : Some main_function ≡ Some g
      = sym (ap (λ x. slice_get itself.funs x) (ap (global_in f) q)) ∙ e in
      no_value_of_body v w'
      (subst (λ (h : Function). Evaluates itself (first_world itself i) (parameters []) h.body v w')
      (sym (ap (function_in g) s)) r)
  no_run_of_main t v w' q (Applies r r') = cc
  no_run_of_main t v w' q (Computes r r') = cc
  no_run_of_main t v w' q (NoByte e) = cc
  no_run_of_main t v w' q (Byte e) = cc

  main_not_stuck : (t : Delayed) → t ≡ Global 0 → RunSticks itself (first_world itself i) t → ⊥
  main_not_stuck t q (Calling g e r) = cc
  main_not_stuck t q (Sharing {f = f} g e r) =
      let s : Some main_function ≡ Some g
      = sym (ap (λ x. slice_get itself.funs x) (ap (global_in f) q)) ∙ e in
      body_not_stuck
      (subst (λ (h : Function). EvaluationSticks itself (first_world itself i) (parameters [])
      h.body) (sym (ap (function_in g) s)) r)
  main_not_stuck t q (AtHead r) = cc
  main_not_stuck t q (AtArguments r r') = cc
  main_not_stuck t q (AtFirst r) = cc
  main_not_stuck t q (FirstIsNone r n) = cc
  main_not_stuck t q (AtSecond r r') = cc
  main_not_stuck t q (SecondIsNone r r' n) = cc

  no_list : (v : Value) (w' : World) → Forces itself (first_world itself i) 0 v w' → ⊥
  no_list v w' (Is e) = let z : Some (Waiting (Global 0)) ≡ Some (Known v) = e in cc
  no_list v w' (Becomes {w' = w1} {t = t} e r) = no_run_of_main t v w1 (ap (waits_in t) (sym e)) r

  list_not_stuck : ForceSticks itself (first_world itself i) 0 → ⊥
  list_not_stuck (Becoming {t = t} e r) = main_not_stuck t (ap (waits_in t) (sym e)) r

  nothing_printed : (out : List ℕ) (end : PrintingEnd) → end ≢ Going
      → Prints itself (first_world itself i) 0 out end → ⊥
  nothing_printed out end h Behind = h refl
  nothing_printed out end h (AtNil f) = no_list _ _ f
  nothing_printed out end h (NoList' f x) = no_list _ _ f
  nothing_printed out end h (ListSticks x) = list_not_stuck x
  nothing_printed out end h (Puts f g rest) = no_list _ _ f
  nothing_printed out end h (NoByte' f g x) = no_list _ _ f
  nothing_printed out end h (ByteSticks f x) = no_list _ _ f

  no_end : (out : List ℕ) (end : PrintingEnd) → end ≢ Going → ProgramPrints itself i out end → ⊥
  no_end out end h (OfItself e d) = nothing_printed out end h d
  no_end out end h (OfInput at n e d) = n refl

pub self_demand : SelfDemandHasNoDerivation
self_demand = record {
  no_value = λ p w w' op a b v e f. no_value p w op a b e a v w' refl f;
  not_stuck = λ p w op a b e f. not_stuck p w op a b e a refl f;
  no_end = no_end;
}
