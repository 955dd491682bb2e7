-- The numbers by which evaluation and the printing loop recurse end nothing before the units run
-- out.
use Rattle.std.proofs.Common.{◌≡◌, ℕ, zero, suc, ◌+◌, ◌≤◌, max, Bool, true, false, List, [], ◌∷◌, ◌++◌, map, length, Option, Some, None, refl, ap, ◌∙◌, arith}
use Rattle.std.specs.Prelude.{ℤ, nat_lt, slice_get, ◌==◌, if◌then◌else◌}
use Rattle.arity_check.specs.declared.normal.Flat.{Flat}
use Rattle.arity_check.specs.declared.normal.Flat.TheVariants as flat
use Rattle.arity_check.specs.Program.{Program, Function, Term, App, Let, Case, Branches, NoMore, OnCon, OnInt, OnAny}
use Rattle.core_meaning.specs.Heap.{Value, Int, Con, Part, Delayed, Call, Apply, Prim, Global, Input, Binding, Known, Waiting, Heap, Env, with_local, with_locals}
use Rattle.core_meaning.specs.Numbers.{primitive_result}
use Rattle.core_meaning.specs.Evaluation.{State, Answer, Gives, NoAlternative, OutOfBound, and_then, with_number, is_con, fields_of, is_int, spend_of, spend, append, update, DelayedEvaluator, force_binding, force, give, give_all, apply, prim, form, eval, select, enter_body, parameters, next_byte, proceed, within, with_group, binding, params}
use Rattle.core_meaning.specs.Printing.{PrintedRun, Going, stops, on_value, on_list, on_byte, print}
use Rattle.core_meaning.specs.Laws.{RecursionAddsNoBound}
use Rattle.numbers.specs.Numbers.{low_byte}

abbrev left_of : Answer → ℕ
left_of (Gives v s) = s.left
left_of (NoAlternative s) = s.left
left_of (OutOfBound s) = s.left

-- with at most k units c' does what c does, and no unit is gained
record Agree (k : ℕ) (c c' : State → Answer) : Type 0 where
  same : (s : State) → s.left ≤ k → c' s ≡ c s
  spends : (s : State) → left_of (c s) ≤ s.left

module _ (k : ℕ) where
  gives : (v : Value) → Agree k (Gives v) (Gives v)
  gives v = record { same = λ s lt. refl; spends = λ s. omega arith }

  no_alternative : Agree k NoAlternative NoAlternative
  no_alternative = record { same = λ s lt. refl; spends = λ s. omega arith }

  then_same : (r r' : Answer) (go go' : Value → State → Answer) → r' ≡ r → left_of r ≤ k
      → ((v : Value) → Agree k (go v) (go' v)) → and_then r' go' ≡ and_then r go
  then_same (Gives v s) r' go go' e lt g = ap (λ x. and_then x go') e ∙ (g v).same s lt
  then_same (NoAlternative s) r' go go' e lt g = ap (λ x. and_then x go') e
  then_same (OutOfBound s) r' go go' e lt g = ap (λ x. and_then x go') e

  then_spends : (n : ℕ) (r : Answer) (go go' : Value → State → Answer) → left_of r ≤ n
      → ((v : Value) → Agree k (go v) (go' v)) → left_of (and_then r go) ≤ n
  then_spends n (Gives v s) go go' le g = omega (arith, le, (g v).spends s)
  then_spends n (NoAlternative s) go go' le g = le
  then_spends n (OutOfBound s) go go' le g = le

  agree_then : (c c' : State → Answer) (go go' : Value → State → Answer) → Agree k c c'
      → ((v : Value) → Agree k (go v) (go' v)) → Agree k (λ s. and_then (c s) go)
      (λ s. and_then (c' s) go')
  agree_then c c' go go' a g = record {
    same = λ s lt. then_same (c s) (c' s) go go' (a.same s lt) (omega (arith, lt, a.spends s)) g;
    spends = λ s. then_spends s.left (c s) go go' (a.spends s) g;
  }

  agree_number : (v : Value) (go go' : ℤ → State → Answer) → ((i : ℤ) → Agree k (go i) (go' i))
      → Agree k (λ s. with_number v s (λ i. go i s)) (λ s. with_number v s (λ i. go' i s))
  agree_number (Int i) go go' g = g i
  agree_number (Con c xs) go go' g = no_alternative
  agree_number (Part f xs) go go' g = no_alternative

  agree_if : (b : Bool) (c c' d d' : State → Answer) → Agree k c c' → Agree k d d'
      → Agree k (λ s. if b then c s else d s) (λ s. if b then c' s else d' s)
  agree_if true c c' d d' a b = a
  agree_if false c c' d d' a b = b

  agree_cases : (b : Bool) (c c' d d' : State → Answer) → Agree k c c' → Agree k d d'
      → Agree k (λ s. elim b [ true ↦ c s | false ↦ d s ])
      (λ s. elim b [ true ↦ c' s | false ↦ d' s ])
  agree_cases true c c' d d' a b = a
  agree_cases false c c' d d' a b = b

  spend_same : (n d : ℕ) (s : State) (go go' : State → Answer) → n ≤ suc k → Agree k go go'
      → spend_of n d s go' ≡ spend_of n d s go
  spend_same zero d s go go' lt g = refl
  spend_same (suc n) d s go go' lt g = g.same (record s { left = n; depth = max s.depth d })
      (omega (arith, lt))

  spend_spends : (n d : ℕ) (s : State) (go go' : State → Answer) → n ≤ s.left → Agree k go go'
      → left_of (spend_of n d s go) ≤ s.left
  spend_spends zero d s go go' le g = omega arith
  spend_spends (suc n) d s go go' le g = omega
      (arith, le, g.spends (record s { left = n; depth = max s.depth d }))

  agree_spend : (d : ℕ) (go go' : State → Answer) → Agree k go go'
      → Agree (suc k) (λ s. spend d s go) (λ s. spend d s go')
  agree_spend d go go' g = record {
    same = λ s lt. spend_same s.left d s go go' lt g;
    spends = λ s. spend_spends s.left d s go go' (omega arith) g;
  }

  module _ (p : Program) (onward onward' : DelayedEvaluator)
      (on : (t : Delayed) (d : ℕ) → Agree k (onward t d) (onward' t d)) where
    agree_update : (a : ℕ) (v : Value) → Agree k (λ s. Gives v (update s a v))
        (λ s. Gives v (update s a v))
    agree_update a v = record { same = λ s lt. refl; spends = λ s. omega arith }

    agree_binding : (b : Option Binding) (a d : ℕ) → Agree k (force_binding p onward b a d)
        (force_binding p onward' b a d)
    agree_binding None a d = no_alternative
    agree_binding (Some (Known v)) a d = gives v
    agree_binding (Some (Waiting t)) a d =
        agree_then (onward t (suc d)) (onward' t (suc d)) (λ v s. Gives v (update s a v))
        (λ v s. Gives v (update s a v)) (on t (suc d)) (agree_update a)

    agree_force : (a d : ℕ) → Agree k (force p onward a d) (force p onward' a d)
    agree_force a d = record {
      same = λ s. (agree_binding (slice_get s.heap a) a d).same s;
      spends = λ s. (agree_binding (slice_get s.heap a) a d).spends s;
    }

    agree_give : (v : Value) (b d : ℕ) → Agree k (give p onward v b d) (give p onward' v b d)
    agree_give (Part f xs) b d =
        let t : Delayed = Call f (xs ++ b ∷ []) in
        agree_if (nat_lt (suc (length xs)) (params p f)) (Gives (Part f (xs ++ b ∷ [])))
        (Gives (Part f (xs ++ b ∷ []))) (onward t d) (onward' t d) (gives _) (on t d)
    agree_give (Int k) b d = no_alternative
    agree_give (Con c xs) b d = no_alternative

    agree_give_all : (bs : List ℕ) (v : Value) (d : ℕ)
        → Agree k (give_all p onward v bs d) (give_all p onward' v bs d)
    agree_give_all [] v d = gives v
    agree_give_all (b ∷ []) v d = agree_give v b d
    agree_give_all (b ∷ c ∷ bs) v d =
        agree_then (give p onward v b (suc d)) (give p onward' v b (suc d))
        (λ w. give_all p onward w (c ∷ bs) d) (λ w. give_all p onward' w (c ∷ bs) d)
        (agree_give v b (suc d)) (λ w. agree_give_all (c ∷ bs) w d)

    agree_apply : (a : ℕ) (bs : List ℕ) (d : ℕ) → Agree k (apply p onward a bs d)
        (apply p onward' a bs d)
    agree_apply a [] d = agree_force a d
    agree_apply a (b ∷ bs) d =
        agree_then (force p onward a (suc d)) (force p onward' a (suc d))
        (λ v. give_all p onward v (b ∷ bs) d) (λ v. give_all p onward' v (b ∷ bs) d)
        (agree_force a (suc d)) (λ v. agree_give_all (b ∷ bs) v d)

    agree_prim : (op : _) (a b d : ℕ) → Agree k (prim p onward op a b d) (prim p onward' op a b d)
    agree_prim op a b d =
        agree_then (force p onward a (suc d)) (force p onward' a (suc d)) _ _
        (agree_force a (suc d)) (λ v. agree_number v _ _ (λ i.
        agree_then (force p onward b (suc d)) (force p onward' b (suc d)) _ _
        (agree_force b (suc d))
        (λ w. agree_number w _ _ (λ j. gives (Int (primitive_result op i j))))))

    agree_form : (env : Env) (f : Flat) (d : ℕ) → Agree k (form p onward env f d)
        (form p onward' env f d)
    agree_form env (flat.Int k) d = gives _
    agree_form env (flat.Con c xs) d = gives _
    agree_form env (flat.Part f xs) d = gives _
    agree_form env (flat.Call f xs) d = on _ d
    agree_form env (flat.Apply x xs) d = agree_apply _ _ d
    agree_form env (flat.Prim op x y) d = agree_prim op _ _ d

    agree_append : (bindings : State → Heap) (c c' : State → State → Answer)
        → ((s : State) → Agree k (c s) (c' s)) → Agree k (λ s. c s (append s (bindings s)))
        (λ s. c' s (append s (bindings s)))
    agree_append bindings c c' g = record {
      same = λ s lt. (g s).same (append s (bindings s)) lt;
      spends = λ s. (g s).spends (append s (bindings s));
    }

    mutual
      agree_eval : (e : Term) (env : Env) (d : ℕ) → Agree k (eval p onward e env d)
          (eval p onward' e env d)
      agree_eval (App f) env d = agree_form env f d
      agree_eval (Let group body) env d =
          let env' : State → Env = λ s. with_group p env group (length s.heap) in
          agree_append (λ s. map (λ b. binding p (env' s) b.flat) group)
          (λ s. eval p onward body (env' s) d) (λ s. eval p onward' body (env' s) d)
          (λ s. agree_eval body (env' s) d)
      agree_eval (Case tested branches) env d =
          agree_then (eval p onward tested env (suc d)) (eval p onward' tested env (suc d))
          (λ v. select p onward branches v env d) (λ v. select p onward' branches v env d)
          (agree_eval tested env (suc d)) (λ v. agree_select branches v env d)

      agree_select : (bs : Branches) (v : Value) (env : Env) (d : ℕ)
          → Agree k (select p onward bs v env d) (select p onward' bs v env d)
      agree_select NoMore v env d = no_alternative
      agree_select (OnCon c fields body rest) v env d =
          agree_cases (is_con c v) _ _ _ _
          (agree_eval body (with_locals env fields (fields_of v)) d) (agree_select rest v env d)
      agree_select (OnInt k body rest) v env d = agree_cases (is_int k v) _ _ _ _
          (agree_eval body env d) (agree_select rest v env d)
      agree_select (OnAny None body rest) v env d = agree_eval body env d
      agree_select (OnAny (Some x) body rest) v env d =
          agree_append (λ s. Known v ∷ [])
          (λ s. eval p onward body (with_local env x (length s.heap)) d)
          (λ s. eval p onward' body (with_local env x (length s.heap)) d)
          (λ s. agree_eval body _ d)

    agree_body : (f : Option Function) (xs : List ℕ) (d : ℕ)
        → Agree k (enter_body p onward f xs d) (enter_body p onward' f xs d)
    agree_body None xs d = no_alternative
    agree_body (Some f) xs d = agree_eval f.body (parameters xs) d

    agree_byte : (i : List ℕ) → Agree k (next_byte p onward i) (next_byte p onward' i)
    agree_byte [] = gives _
    agree_byte (b ∷ rest) = record { same = λ s lt. refl; spends = λ s. omega arith }

    agree_proceed : (t : Delayed) (d : ℕ) → Agree k (proceed p onward t d) (proceed p onward' t d)
    agree_proceed (Call f xs) d = agree_body (slice_get p.funs f) xs d
    agree_proceed (Global f) d = agree_body (slice_get p.funs f) [] d
    agree_proceed (Apply a bs) d = agree_apply a bs d
    agree_proceed (Prim op a b) d = agree_prim op a b d
    agree_proceed Input d = record {
      same = λ s lt. (agree_byte s.input).same s lt;
      spends
          = λ s. (agree_byte s.input).spends s;
    }

agree_within : (p : Program) (n m : ℕ) (t : Delayed) (d : ℕ)
    → Agree n (within p n t d) (within p (n + m) t d)
agree_within p zero m t d = record
    { same = λ s le. nothing_left m s.left s refl (omega (arith, le)); spends = λ s. omega arith }
  where
    nothing_left : (m l : ℕ) (s : State) → s.left ≡ l → l ≤ 0
        → within p (0 + m) t d s ≡ OutOfBound s
    nothing_left m l s e le = let z : s.left ≡ 0 = omega (arith, e, le) in let f : 0 + m ≡ m
        = omega arith in rw f (by_bound m s z)
      where
        by_bound : (m : ℕ) (s : State) → s.left ≡ 0 → within p m t d s ≡ OutOfBound s
        by_bound zero s z = refl
        by_bound (suc m) s z = rw z refl
agree_within p (suc n) m t d =
    let e : suc n + m ≡ suc (n + m) = omega arith in
    rw e (agree_spend n d (proceed p (within p n) t d) (proceed p (within p (n + m)) t d)
    (agree_proceed n p (within p n) (within p (n + m)) (agree_within p n m) t d))

module _ (k : ℕ) where
  on_value_same : (r r' : Answer) (out : List ℕ) (go go' : Value → State → PrintedRun) → r' ≡ r
      → left_of r ≤ k → ((v : Value) (s : State) → s.left ≤ k → go' v s ≡ go v s)
      → on_value r' out go' ≡ on_value r out go
  on_value_same (Gives v s) r' out go go' e le g = ap (λ x. on_value x out go') e ∙ g v s le
  on_value_same (NoAlternative s) r' out go go' e le g = ap (λ x. on_value x out go') e
  on_value_same (OutOfBound s) r' out go go' e le g = ap (λ x. on_value x out go') e

  cases_same : (b : Bool) (x x' y : PrintedRun) → x' ≡ x
      → ◌≡◌ {A = PrintedRun} (elim b [ true ↦ x' | false ↦ y ]) (elim b [ true ↦ x | false ↦ y ])
  cases_same true x x' y e = e
  cases_same false x x' y e = refl

  on_list_same : (n c : ℕ) (v : Value) (out : List ℕ) (s : State) (go go' : ℕ → ℕ → PrintedRun)
      → ((h t : ℕ) → go' h t ≡ go h t) → on_list n c v out s go' ≡ on_list n c v out s go
  on_list_same n c (Int i) out s go go' g = refl
  on_list_same n c (Part f xs) out s go go' g = refl
  on_list_same n c (Con d []) out s go go' g = refl
  on_list_same n c (Con d (h ∷ [])) out s go go' g = refl
  on_list_same n c (Con d (h ∷ t ∷ [])) out s go go' g = cases_same (d == c) _ _ _ (g h t)
  on_list_same n c (Con d (h ∷ t ∷ u ∷ xs)) out s go go' g = refl

  on_byte_same : (v : Value) (out : List ℕ) (s : State) (go go' : ℕ → PrintedRun)
      → ((b : ℕ) → go' b ≡ go b) → on_byte v out s go' ≡ on_byte v out s go
  on_byte_same (Int i) out s go go' g = g (low_byte i)
  on_byte_same (Con c xs) out s go go' g = refl
  on_byte_same (Part f xs) out s go go' g = refl

-- with no units left nothing is printed, whatever the number of turns
nothing_printed : (p : Program) (m a : ℕ) (out : List ℕ) (s : State) → s.left ≡ 0
    → print p m a out s ≡ stops out Going s
nothing_printed p zero a out s z = refl
nothing_printed p (suc m) a out s z = rw z refl

spend_within : (d k : ℕ) (s : State) (c c' : State → Answer) → s.left ≤ suc k → Agree k c c'
    → left_of (spend d s c) ≤ k
spend_within d k s c c' le a = by_left s.left refl le
  where
    by_left : (l : ℕ) → s.left ≡ l → l ≤ suc k → left_of (spend_of l d s c) ≤ k
    by_left zero e le = omega (arith, e)
    by_left (suc l) e le = omega
        (arith, le, a.spends (record s { left = l; depth = max s.depth d }))

print_same : (p : Program) (n m a : ℕ) (out : List ℕ) (s : State) → s.left ≤ n
    → print p (n + m) a out s ≡ print p n a out s
print_same p zero m a out s le = nothing_printed p (0 + m) a out s (omega (arith, le))
print_same p (suc n) m a out s le =
    let e : suc n + m ≡ suc (n + m) = omega arith in
    let on : (t : Delayed) (d : ℕ) → Agree n (within p n t d) (within p (n + m) t d)
    = agree_within p n m in
    let first : Agree (suc n) (λ s. spend 0 s (force p (within p n) a 1))
    (λ s. spend 0 s (force p (within p (n + m)) a 1))
    = agree_spend n 0 _ _ (agree_force n p (within p n) (within p (n + m)) on a 1) in
    rw e
    (on_value_same n _ _ out _ _ (first.same s le)
    (spend_within 0 n s (force p (within p n) a 1) (force p (within p (n + m)) a 1) le
    (agree_force n p (within p n) (within p (n + m)) on a 1)) (λ v s le.
    on_list_same n _ _ v out s _ _ (λ h t.
    let head : Agree n (force p (within p n) h 1) (force p (within p (n + m)) h 1)
    = agree_force n p (within p n) (within p (n + m)) on h 1 in
    on_value_same n _ _ out _ _ (head.same s le) (omega (arith, le, head.spends s)) (λ w s le.
    on_byte_same n w out s _ _ (λ byte. print_same p n m t (out ++ byte ∷ []) s le)))))

pub recursion_is_free : RecursionAddsNoBound
recursion_is_free = record
    { evaluation = λ p n m t d s le. (agree_within p n m t d).same s le; printing = print_same }
