-- Evaluation by need of a program whose `main` has no parameter takes no byte of the input: no
-- binding ever waits for it.
use Rattle.std.proofs.Common.{◌≡◌, ℕ, zero, suc, Bool, true, false, List, [], ◌∷◌, ◌++◌, map, length, Option, Some, None, refl}
use Rattle.std.specs.Prelude.{ℤ, ◌==◌, nat_lt, slice_get, slice_set, if◌then◌else◌}
use Rattle.arity_check.specs.declared.normal.Bound.{Bound}
use Rattle.arity_check.specs.declared.normal.Flat.{Flat}
use Rattle.arity_check.specs.declared.normal.Flat.TheVariants as flat
use Rattle.arity_check.specs.Program.{Program, Function, Term, App, Let, Case, Branches, NoMore, OnCon, OnInt, OnAny}
use Rattle.core_meaning.specs.Heap.{Value, Int, Con, Part, Delayed, Call, Apply, Prim, Global, Input, Binding, Known, Waiting, Heap, Env, with_local, with_locals}
use Rattle.core_meaning.specs.Evaluation.{State, Answer, Gives, NoAlternative, OutOfBound, and_then, with_number, is_con, fields_of, is_int, spend_of, spend, update, DelayedEvaluator, force_binding, force, give, give_all, apply, prim, form, eval, select, enter_body, parameters, proceed, within, with_group, binding, params, nil, cons, global, globals, start}
use Rattle.core_meaning.specs.Printing.{PrintedRun, Unaccepted, stops, on_value, on_list, on_byte, print, printed_from_input}
use Rattle.core_meaning.specs.Told.{core_program_meaning}

-- ---- heaps in which nothing waits for the input

abbrev IsOtherForm : Delayed → Type 0
IsOtherForm (Call f xs) = Unit {0}
IsOtherForm (Apply a bs) = Unit {0}
IsOtherForm (Prim op a b) = Unit {0}
IsOtherForm (Global f) = Unit {0}
IsOtherForm Input = ⊥

abbrev IsOther : Binding → Type 0
IsOther (Known v) = Unit {0}
IsOther (Waiting t) = IsOtherForm t

abbrev HasNoInput : Heap → Type 0
HasNoInput [] = Unit {0}
HasNoInput (b ∷ heap) = IsOther b × HasNoInput heap

abbrev IsOtherThere : Option Binding → Type 0
IsOtherThere None = Unit {0}
IsOtherThere (Some b) = IsOther b

append_other : (xs ys : Heap) → HasNoInput xs → HasNoInput ys → HasNoInput (xs ++ ys)
append_other [] ys h g = g
append_other (b ∷ xs) ys h g = (h.0, append_other xs ys h.1 g)

get_other : (heap : Heap) (a : ℕ) → HasNoInput heap → IsOtherThere (slice_get heap a)
get_other [] a h = tt
get_other (b ∷ heap) zero h = h.0
get_other (b ∷ heap) (suc a) h = get_other heap a h.1

set_other : (heap : Heap) (a : ℕ) (v : Value) → HasNoInput heap
    → HasNoInput (slice_set heap a (Known v))
set_other [] a v h = tt
set_other (b ∷ heap) zero v h = (tt, h.1)
set_other (b ∷ heap) (suc a) v h = (h.0, set_other heap a v h.1)

-- ---- answers

abbrev state_of : Answer → State
state_of (Gives v s) = s
state_of (NoAlternative s) = s
state_of (OutOfBound s) = s

-- no byte was taken, and nothing waits for one
record Dry (s : State) : Type 0 where
  heap : HasNoInput s.heap
  used : s.used ≡ 0

abbrev Dries : (State → Answer) → Type 0
Dries c = (s : State) → Dry s → Dry (state_of (c s))

then_dry : (r : Answer) (go : Value → State → Answer) → Dry (state_of r)
    → ((v : Value) → Dries (go v)) → Dry (state_of (and_then r go))
then_dry (Gives v s) go h g = g v s h
then_dry (NoAlternative s) go h g = h
then_dry (OutOfBound s) go h g = h

number_dry : (v : Value) (go : ℤ → State → Answer) → ((k : ℤ) → Dries (go k))
    → Dries (λ s. with_number v s (λ k. go k s))
number_dry (Int k) go g s h = g k s h
number_dry (Con c xs) go g s h = h
number_dry (Part f xs) go g s h = h

if_dry : (b : Bool) (x y : Answer) → Dry (state_of x) → Dry (state_of y)
    → Dry (state_of (if b then x else y))
if_dry true x y h g = h
if_dry false x y h g = g

cases_dry : (b : Bool) (x y : Answer) → Dry (state_of x) → Dry (state_of y)
    → Dry (state_of (elim b [ true ↦ x | false ↦ y ]))
cases_dry true x y h g = h
cases_dry false x y h g = g

spend_dry : (n d : ℕ) (s : State) (go : State → Answer) → Dries go → Dry s
    → Dry (state_of (spend_of n d s go))
spend_dry zero d s go g h = h
spend_dry (suc n) d s go g h = g _ (record { heap = h.heap; used = h.used })

module _ (p : Program) (onward : DelayedEvaluator)
    (on : (t : Delayed) → IsOtherForm t → (d : ℕ) → Dries (onward t d)) where
  binding_dry : (b : Option Binding) → IsOtherThere b → (a d : ℕ)
      → Dries (force_binding p onward b a d)
  binding_dry None other a d s h = h
  binding_dry (Some (Known v)) other a d s h = h
  binding_dry (Some (Waiting t)) other a d s h =
      then_dry (onward t (suc d) s) (λ v s. Gives v (update s a v)) (on t other (suc d) s h)
      (λ v s h. record { heap = set_other s.heap a v h.heap; used = h.used })

  force_dry : (a d : ℕ) → Dries (force p onward a d)
  force_dry a d s h = binding_dry (slice_get s.heap a) (get_other s.heap a h.heap) a d s h

  give_dry : (v : Value) (b d : ℕ) → Dries (give p onward v b d)
  give_dry (Part f xs) b d s h = if_dry (nat_lt (suc (length xs)) (params p f)) _ _ h
      (on (Call f (xs ++ b ∷ [])) tt d s h)
  give_dry (Int k) b d s h = h
  give_dry (Con c xs) b d s h = h

  give_all_dry : (bs : List ℕ) (v : Value) (d : ℕ) → Dries (give_all p onward v bs d)
  give_all_dry [] v d s h = h
  give_all_dry (b ∷ []) v d s h = give_dry v b d s h
  give_all_dry (b ∷ c ∷ bs) v d s h = then_dry (give p onward v b (suc d) s) _
      (give_dry v b (suc d) s h) (λ w. give_all_dry (c ∷ bs) w d)

  apply_dry : (a : ℕ) (bs : List ℕ) (d : ℕ) → Dries (apply p onward a bs d)
  apply_dry a [] d s h = force_dry a d s h
  apply_dry a (b ∷ bs) d s h = then_dry (force p onward a (suc d) s) _ (force_dry a (suc d) s h)
      (λ v. give_all_dry (b ∷ bs) v d)

  prim_dry : (op : _) (a b d : ℕ) → Dries (prim p onward op a b d)
  prim_dry op a b d s h =
      then_dry (force p onward a (suc d) s) _ (force_dry a (suc d) s h)
      (λ v. number_dry v _ (λ i s h.
      then_dry (force p onward b (suc d) s) _ (force_dry b (suc d) s h)
      (λ w. number_dry w _ (λ j s h. h))))

  form_dry : (env : Env) (f : Flat) (d : ℕ) → Dries (form p onward env f d)
  form_dry env (flat.Int k) d s h = h
  form_dry env (flat.Con c xs) d s h = h
  form_dry env (flat.Part f xs) d s h = h
  form_dry env (flat.Call f xs) d s h = on (Call f _) tt d s h
  form_dry env (flat.Apply x xs) d s h = apply_dry _ _ d s h
  form_dry env (flat.Prim op x y) d s h = prim_dry op _ _ d s h

  flat_other : (env : Env) (f : Flat) → IsOther (binding p env f)
  flat_other env (flat.Int k) = tt
  flat_other env (flat.Con c xs) = tt
  flat_other env (flat.Part f xs) = tt
  flat_other env (flat.Call f xs) = tt
  flat_other env (flat.Apply x xs) = tt
  flat_other env (flat.Prim op x y) = tt

  group_other : (env : Env) (group : List Bound) → HasNoInput
      (map (λ b. binding p env b.flat) group)
  group_other env [] = tt
  group_other env (b ∷ group) = (flat_other env b.flat, group_other env group)

  mutual
    eval_dry : (e : Term) (env : Env) (d : ℕ) → Dries (eval p onward e env d)
    eval_dry (App f) env d s h = form_dry env f d s h
    eval_dry (Let group body) env d s h =
        let env' : Env = with_group p env group (length s.heap) in
        eval_dry body env' d _
        (record { heap = append_other s.heap _ h.heap (group_other env' group); used = h.used })
    eval_dry (Case tested branches) env d s h =
        then_dry (eval p onward tested env (suc d) s) _ (eval_dry tested env (suc d) s h)
        (λ v. select_dry branches v env d)

    select_dry : (bs : Branches) (v : Value) (env : Env) (d : ℕ)
        → Dries (select p onward bs v env d)
    select_dry NoMore v env d s h = h
    select_dry (OnCon c fields body rest) v env d s h =
        cases_dry (is_con c v) _ _ (eval_dry body (with_locals env fields (fields_of v)) d s h)
        (select_dry rest v env d s h)
    select_dry (OnInt k body rest) v env d s h = cases_dry (is_int k v) _ _
        (eval_dry body env d s h) (select_dry rest v env d s h)
    select_dry (OnAny None body rest) v env d s h = eval_dry body env d s h
    select_dry (OnAny (Some x) body rest) v env d s h =
        eval_dry body (with_local env x (length s.heap)) d _
        (record { heap = append_other s.heap (Known v ∷ []) h.heap (tt, tt); used = h.used })

  body_dry : (f : Option Function) (xs : List ℕ) (d : ℕ) → Dries (enter_body p onward f xs d)
  body_dry None xs d s h = h
  body_dry (Some f) xs d s h = eval_dry f.body (parameters xs) d s h

  proceed_dry : (t : Delayed) → IsOtherForm t → (d : ℕ) → Dries (proceed p onward t d)
  proceed_dry (Call f xs) other d s h = body_dry (slice_get p.funs f) xs d s h
  proceed_dry (Global f) other d s h = body_dry (slice_get p.funs f) [] d s h
  proceed_dry (Apply a bs) other d s h = apply_dry a bs d s h
  proceed_dry (Prim op a b) other d s h = prim_dry op a b d s h
  proceed_dry Input other d s h = absurd other

within_dry : (p : Program) (n : ℕ) (t : Delayed) → IsOtherForm t → (d : ℕ) → Dries (within p n t d)
within_dry p zero t other d s h = h
within_dry p (suc n) t other d s h = spend_dry s.left d s (proceed p (within p n) t d)
    (proceed_dry p (within p n) (within_dry p n) t other d) h

-- ---- the printing loop

value_dry : (a : Answer) (out : List ℕ) (go : Value → State → PrintedRun) → Dry (state_of a)
    → ((v : Value) (s : State) → Dry s → (go v s).used ≡ 0) → (on_value a out go).used ≡ 0
value_dry (Gives v s) out go h g = g v s h
value_dry (NoAlternative s) out go h g = h.used
value_dry (OutOfBound s) out go h g = h.used

if_used : (b : Bool) (x y : PrintedRun) → x.used ≡ 0 → y.used ≡ 0
    → (let r : PrintedRun = elim b [ true ↦ x | false ↦ y ] in r.used) ≡ 0
if_used true x y h g = h
if_used false x y h g = g

list_dry : (n c : ℕ) (v : Value) (out : List ℕ) (s : State) (go : ℕ → ℕ → PrintedRun) → Dry s
    → ((h t : ℕ) → (go h t).used ≡ 0) → (on_list n c v out s go).used ≡ 0
list_dry n c (Int k) out s go h g = h.used
list_dry n c (Part f xs) out s go h g = h.used
list_dry n c (Con d []) out s go h g = h.used
list_dry n c (Con d (x ∷ [])) out s go h g = h.used
list_dry n c (Con d (x ∷ t ∷ [])) out s go h g = if_used (d == c) (go x t) (stops out Unaccepted s)
    (g x t) h.used
list_dry n c (Con d (x ∷ t ∷ u ∷ xs)) out s go h g = h.used

byte_dry : (v : Value) (out : List ℕ) (s : State) (go : ℕ → PrintedRun) → Dry s
    → ((b : ℕ) → (go b).used ≡ 0) → (on_byte v out s go).used ≡ 0
byte_dry (Int k) out s go h g = g _
byte_dry (Con c xs) out s go h g = h.used
byte_dry (Part f xs) out s go h g = h.used

print_dry : (p : Program) (n a : ℕ) (out : List ℕ) (s : State) → Dry s
    → (print p n a out s).used ≡ 0
print_dry p zero a out s h = h.used
print_dry p (suc n) a out s h =
    value_dry (spend 0 s (force p (within p n) a 1)) out _
    (spend_dry s.left 0 s (force p (within p n) a 1)
    (force_dry p (within p n) (within_dry p n) a 1) h) (λ v s h.
    list_dry (nil p) (cons p) v out s _ h (λ x t.
    value_dry (force p (within p n) x 1 s) out _ (force_dry p (within p n) (within_dry p n) x 1 s h)
    (λ w s h.
    byte_dry w out s _ h (λ byte. print_dry p n t (out ++ byte ∷ []) s h))))

globals_other : (p : Program) (fs : List Function) (f : ℕ) → HasNoInput (globals p fs f)
globals_other p [] f = tt
globals_other p (g ∷ fs) f = append_other _ (globals p fs (suc f)) (one (g.params == 0))
    (globals_other p fs (suc f))
  where
    one : (b : Bool) → HasNoInput (if b then Waiting (Global f) ∷ [] else [])
    one true = (tt, tt)
    one false = tt

printed_dry : (p : Program) (i : List ℕ) (n : ℕ) (b : Bool) → b ≡ true
    → (let r : PrintedRun = elim b
    [ true ↦ print p n (global p p.main) [] (start p i n) | false ↦ printed_from_input p i n ]
    in r.used) ≡ 0
printed_dry p i n true e = print_dry p n (global p p.main) [] (start p i n)
    (record { heap = globals_other p p.funs 0; used = refl })
printed_dry p i n false e = cc

pub takes_no_byte : (p : Program) → params p p.main ≡ 0 → (i : List ℕ) (n : ℕ)
    → (core_program_meaning p i n).used ≡ 0
takes_no_byte p none i n = printed_dry p i n (params p p.main == 0) (λ j. none j == 0)
