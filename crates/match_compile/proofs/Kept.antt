-- The evaluation of equations takes no name from the heap and leaves each value as it was: an
-- update is
-- of a name that waited when its force began.
use Rattle.std.proofs.Common.{◌≡◌, ℕ, zero, suc, max, Bool, true, false, List, [], ◌∷◌, ◌++◌, map, length, Option, Some, None, refl, sym, ap, ◌∙◌, arith, length-append}
use Rattle.std.specs.Prelude.{ℤ, pos, nat_lt, slice_get, slice_set, if◌then◌else◌}
use Rattle.seq.proofs.Lists.{get_left, length_set}
use Rattle.arity_check.specs.declared.normal.Flat.{Flat}
use Rattle.arity_check.specs.declared.normal.Flat.TheVariants as flat
use Rattle.arity_check.specs.Program.{Term, App, Let, Case, Branches, NoMore, OnCon, OnInt, OnAny}
use Rattle.core_meaning.specs.Heap.{Value, Int, Con, Part, Delayed, Call, Apply, Prim, Global, Input, Binding, Known, Waiting, Heap, Env, with_local, with_locals}
use Rattle.core_meaning.specs.Evaluation.{State, Answer, Gives, NoAlternative, OutOfBound, and_then, with_number, is_con, fields_of, is_int, spend_of, append, update, taken, DelayedEvaluator, force_binding, force, give, give_all, apply, prim, form, eval, select, parameters, next_byte, with_group, binding, params}
use Rattle.match_compile.specs.Form.{Form, Any, Is, Has, Forms, NoForms, AndForm, Row, Equations}
use Rattle.match_compile.specs.ByEquations.{without_bodies, rows_of, match, matches, tries, within}
use Rattle.match_compile.specs.Stays.{answer_state, KeepsKnownValues, EvaluationKeepsValues}

-- what goes on from each state keeps its values
abbrev pub Stays : (State → Answer) → Type 0
Stays c = (s : State) → KeepsKnownValues s (answer_state (c s))

pub same : (s : State) → KeepsKnownValues s s
same s = (omega arith, λ a v e. e)

pub on : (s t u : State) → KeepsKnownValues s t → KeepsKnownValues t u → KeepsKnownValues s u
on s t u f g = (let h = f.0 in let i = g.0 in omega (arith, h, i), λ a v e. g.1 a v (f.1 a v e))

appended : (s : State) (bindings : Heap) → KeepsKnownValues s (append s bindings)
appended s bindings = (
  let l = length-append s.heap bindings in omega (arith, l),
  λ a v e. get_left s.heap bindings a (Known v) e,
)

waits_not_known : (t : Delayed) (v : Value) → ◌≡◌ {A = Option Binding} (Some (Waiting t))
    (Some (Known v)) → ⊥
waits_not_known t v e = absurd cc

-- another name has what it had
set_other : (xs : Heap) (a b : ℕ) (x y : Binding) → (a ≡ b → ⊥) → slice_get xs b ≡ Some y
    → slice_get (slice_set xs a x) b ≡ Some y
set_other [] a b x y n e = absurd cc
set_other (z ∷ xs) zero zero x y n e = absurd (n refl)
set_other (z ∷ xs) zero (suc b) x y n e = e
set_other (z ∷ xs) (suc a) zero x y n e = e
set_other (z ∷ xs) (suc a) (suc b) x y n e = set_other xs a b x y (λ k. n (ap suc k)) e

updated : (s t : State) (a : ℕ) (d : Delayed) (v : Value) → slice_get s.heap a ≡ Some (Waiting d)
    → KeepsKnownValues s t → KeepsKnownValues s (update t a v)
updated s t a d v waits k = (
  let h = k.0 in let l = length_set t.heap a (Known v)
      in omega (arith, h, l),
  λ b w e. set_other t.heap a b (Known v) (Known w)
      (λ i. waits_not_known d w (sym waits ∙ ap (slice_get s.heap) i ∙ e)) (k.1 b w e),
)

then_stays : (s : State) (r : Answer) (go : Value → State → Answer)
    → KeepsKnownValues s (answer_state r) → ((v : Value) → Stays (go v))
    → KeepsKnownValues s (answer_state (and_then r go))
then_stays s (Gives v t) go k g = on s t (answer_state (go v t)) k (g v t)
then_stays s (NoAlternative t) go k g = k
then_stays s (OutOfBound t) go k g = k

number_stays : (v : Value) (s : State) (go : ℤ → Answer)
    → ((k : ℤ) → KeepsKnownValues s (answer_state (go k)))
    → KeepsKnownValues s (answer_state (with_number v s go))
number_stays (Int k) s go g = g k
number_stays (Con c xs) s go g = same s
number_stays (Part f xs) s go g = same s

if_stays : (b : Bool) (s : State) (r r' : Answer) → KeepsKnownValues s (answer_state r)
    → KeepsKnownValues s (answer_state r') → KeepsKnownValues s (answer_state (if b then r else r'))
if_stays true s r r' f g = f
if_stays false s r r' f g = g

cases_stay : (b : Bool) (s : State) (r r' : Answer) → KeepsKnownValues s (answer_state r)
    → KeepsKnownValues s (answer_state r') → KeepsKnownValues s
    (answer_state (elim b [ true ↦ r | false ↦ r' ]))
cases_stay true s r r' f g = f
cases_stay false s r r' f g = g

spend_stays : (n d : ℕ) (s : State) (go : State → Answer) → Stays go
    → KeepsKnownValues s (answer_state (spend_of n d s go))
spend_stays zero d s go g = same s
spend_stays (suc n) d s go g = g (record s { left = n; depth = max s.depth d })

module _ (q : Equations) (onward : DelayedEvaluator)
    (goes : (t : Delayed) (d : ℕ) → Stays (onward t d)) where
  waited : (s : State) (a : ℕ) (t : Delayed) (r : Answer) → slice_get s.heap a ≡ Some (Waiting t)
      → KeepsKnownValues s (answer_state r) → KeepsKnownValues s
      (answer_state (and_then r (λ v u. Gives v (update u a v))))
  waited s a t (Gives v u) waits k = updated s u a t v waits k
  waited s a t (NoAlternative u) waits k = k
  waited s a t (OutOfBound u) waits k = k

  binding_stays : (b : Option Binding) (a d : ℕ) (s : State) → slice_get s.heap a ≡ b
      → KeepsKnownValues s (answer_state (force_binding (without_bodies q) onward b a d s))
  binding_stays None a d s e = same s
  binding_stays (Some (Known v)) a d s e = same s
  binding_stays (Some (Waiting t)) a d s e = waited s a t (onward t (suc d) s) e (goes t (suc d) s)

  pub force_stays : (a d : ℕ) → Stays (force (without_bodies q) onward a d)
  force_stays a d s = binding_stays (slice_get s.heap a) a d s refl

  give_stays : (v : Value) (b d : ℕ) → Stays (give (without_bodies q) onward v b d)
  give_stays (Part f xs) b d s =
      if_stays (nat_lt (suc (length xs)) (params (without_bodies q) f)) s
      (Gives (Part f (xs ++ b ∷ [])) s) (onward (Call f (xs ++ b ∷ [])) d s) (same s)
      (goes (Call f (xs ++ b ∷ [])) d s)
  give_stays (Int k) b d s = same s
  give_stays (Con c xs) b d s = same s

  give_all_stays : (bs : List ℕ) (v : Value) (d : ℕ)
      → Stays (give_all (without_bodies q) onward v bs d)
  give_all_stays [] v d s = same s
  give_all_stays (b ∷ []) v d s = give_stays v b d s
  give_all_stays (b ∷ c ∷ bs) v d s =
      then_stays s (give (without_bodies q) onward v b (suc d) s)
      (λ w. give_all (without_bodies q) onward w (c ∷ bs) d) (give_stays v b (suc d) s)
      (λ w. give_all_stays (c ∷ bs) w d)

  apply_stays : (a : ℕ) (bs : List ℕ) (d : ℕ) → Stays (apply (without_bodies q) onward a bs d)
  apply_stays a [] d s = force_stays a d s
  apply_stays a (b ∷ bs) d s =
      then_stays s (force (without_bodies q) onward a (suc d) s)
      (λ v. give_all (without_bodies q) onward v (b ∷ bs) d) (force_stays a (suc d) s)
      (λ v. give_all_stays (b ∷ bs) v d)

  prim_stays : (op : _) (a b d : ℕ) → Stays (prim (without_bodies q) onward op a b d)
  prim_stays op a b d s =
      then_stays s (force (without_bodies q) onward a (suc d) s) _ (force_stays a (suc d) s)
      (λ v t. number_stays v t _ (λ i.
      then_stays t (force (without_bodies q) onward b (suc d) t) _ (force_stays b (suc d) t)
      (λ w u. number_stays w u _ (λ j. same u))))

  form_stays : (env : Env) (f : Flat) (d : ℕ) → Stays (form (without_bodies q) onward env f d)
  form_stays env (flat.Int k) d s = same s
  form_stays env (flat.Con c xs) d s = same s
  form_stays env (flat.Part f xs) d s = same s
  form_stays env (flat.Call f xs) d s = goes _ d s
  form_stays env (flat.Apply x xs) d s = apply_stays _ _ d s
  form_stays env (flat.Prim op x y) d s = prim_stays op _ _ d s

  mutual
    eval_stays : (e : Term) (env : Env) (d : ℕ) → Stays (eval (without_bodies q) onward e env d)
    eval_stays (App f) env d s = form_stays env f d s
    eval_stays (Let group body) env d s =
        let inner : Env = with_group (without_bodies q) env group (length s.heap) in
        let made : Heap = map (λ b. binding (without_bodies q) inner b.flat) group in
        on s (append s made)
        (answer_state (eval (without_bodies q) onward body inner d (append s made)))
        (appended s made) (eval_stays body inner d (append s made))
    eval_stays (Case tested branches) env d s =
        then_stays s (eval (without_bodies q) onward tested env (suc d) s)
        (λ v. select (without_bodies q) onward branches v env d)
        (eval_stays tested env (suc d) s) (λ v. select_stays branches v env d)

    select_stays : (bs : Branches) (v : Value) (env : Env) (d : ℕ)
        → Stays (select (without_bodies q) onward bs v env d)
    select_stays NoMore v env d s = same s
    select_stays (OnCon c fields body rest) v env d s =
        cases_stay (is_con c v) s _ _ (eval_stays body (with_locals env fields (fields_of v)) d s)
        (select_stays rest v env d s)
    select_stays (OnInt k body rest) v env d s = cases_stay (is_int k v) s _ _
        (eval_stays body env d s) (select_stays rest v env d s)
    select_stays (OnAny None body rest) v env d s = eval_stays body env d s
    select_stays (OnAny (Some x) body rest) v env d s =
        let inner : Env = with_local env x (length s.heap) in
        let made : Heap = Known v ∷ [] in
        on s (append s made)
        (answer_state (eval (without_bodies q) onward body inner d (append s made)))
        (appended s made) (eval_stays body inner d (append s made))

  -- ---- equations

  mutual
    match_stays : (f : Form) (a : ℕ) (bound : List ℕ) (d : ℕ) (go : List ℕ → State → Answer)
        (fails : State → Answer) → ((xs : List ℕ) → Stays (go xs)) → Stays fails
        → Stays (λ s. match q onward f a bound d s go fails)
    match_stays Any a bound d go fails g f s = g (bound ++ a ∷ []) s
    match_stays (Is k) a bound d go fails g f s =
        then_stays s (force (without_bodies q) onward a (suc d) s)
        (λ v s. elim (is_int k v) [ true ↦ go bound s | false ↦ fails s ])
        (force_stays a (suc d) s)
        (λ v t. cases_stay (is_int k v) t (go bound t) (fails t) (g bound t) (f t))
    match_stays (Has k fields) a bound d go fails g f s =
        then_stays s (force (without_bodies q) onward a (suc d) s)
        (λ v s. elim (is_con k v)
        [ true ↦ matches q onward fields (fields_of v) bound d s go fails | false ↦ fails s ])
        (force_stays a (suc d) s)
        (λ v t. cases_stay (is_con k v) t (matches q onward fields (fields_of v) bound d t go fails)
        (fails t) (matches_stay fields (fields_of v) bound d go fails g f t) (f t))

    matches_stay : (fs : Forms) (as' bound : List ℕ) (d : ℕ) (go : List ℕ → State → Answer)
        (fails : State → Answer) → ((xs : List ℕ) → Stays (go xs)) → Stays fails
        → Stays (λ s. matches q onward fs as' bound d s go fails)
    matches_stay NoForms as' bound d go fails g f s = g bound s
    matches_stay (AndForm p ps) [] bound d go fails g f s = f s
    matches_stay (AndForm p ps) (a ∷ as') bound d go fails g f s =
        match_stays p a bound d (λ bound s. matches q onward ps as' bound d s go fails) fails
        (λ xs t. matches_stay ps as' xs d go fails g f t) f s

  tries_stay : (gs : List Row) (as' : List ℕ) (d : ℕ) → Stays (tries q onward gs as' d)
  tries_stay [] as' d s = same s
  tries_stay (g ∷ gs) as' d s =
      matches_stay g.pats as' [] d
      (λ xs s. eval (without_bodies q) onward g.body (parameters xs) d s)
      (λ s. tries q onward gs as' d s) (λ xs t. eval_stays g.body (parameters xs) d t)
      (λ t. tries_stay gs as' d t) s

  byte_stays : (i : List ℕ) → Stays (next_byte (without_bodies q) onward i)
  byte_stays [] s = same s
  byte_stays (k ∷ rest) s = appended (taken s rest) (Known (Int (pos k)) ∷ Waiting Input ∷ [])

pub known_stays : EvaluationKeepsValues
known_stays q zero t d s = same s
known_stays q (suc n) (Call f xs) d s = spend_stays s.left d s
    (tries q (within q n) (rows_of (slice_get q.funs f)) xs d)
    (tries_stay q (within q n) (known_stays q n) (rows_of (slice_get q.funs f)) xs d)
known_stays q (suc n) (Global f) d s = spend_stays s.left d s
    (tries q (within q n) (rows_of (slice_get q.funs f)) [] d)
    (tries_stay q (within q n) (known_stays q n) (rows_of (slice_get q.funs f)) [] d)
known_stays q (suc n) (Apply a bs) d s = spend_stays s.left d s
    (apply (without_bodies q) (within q n) a bs d)
    (apply_stays q (within q n) (known_stays q n) a bs d)
known_stays q (suc n) (Prim op a b) d s = spend_stays s.left d s
    (prim (without_bodies q) (within q n) op a b d)
    (prim_stays q (within q n) (known_stays q n) op a b d)
known_stays q (suc n) Input d s = spend_stays s.left d s
    (λ t. next_byte (without_bodies q) (within q n) t.input t)
    (λ t. byte_stays q (within q n) (known_stays q n) t.input t)
