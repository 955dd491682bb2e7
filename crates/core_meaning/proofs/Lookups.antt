-- In a well-formed program no lookup fails: whatever a failed one gave, the evaluation is the
-- same.
--
-- The evaluator has a parameter: the answer of a lookup that fails. The proof runs it with two
-- answers side by side, and shows that in a well-formed program both runs are equal. If a lookup
-- failed, they could differ.
use Rattle.std.proofs.Common.{◌≡◌, ◌≢◌, ℕ, zero, suc, ◌+◌, ◌≤◌, ◌<◌, Bool, true, false, cond, nat_eq, nat_lt, List, [], ◌∷◌, ◌++◌, map, length, get_or, Some, None, slice_get, refl, sym, ap, ◌∙◌, subst, arith, eqb-true, length-append, inl, inr}
use Rattle.std.specs.Prelude.{◌⊎◌, ◌==◌, ℤ, pos, slice_set, if◌then◌else◌}
use Rattle.std.proofs.lemmas.Bool.{eq-eqb, ltb-true, ltb-false}
use Rattle.std.proofs.lemmas.List.{length-map, length-set}
use Rattle.std.proofs.lemmas.Option.{same_Some}
use Rattle.seq.proofs.Lists.{some_at, all_get, all_set, all_append}
use Rattle.arity_check.specs.declared.normal.Var.{Var}
use Rattle.arity_check.specs.declared.normal.Var.TheVariants as var
use Rattle.arity_check.specs.declared.normal.Bound.{Bound}
use Rattle.arity_check.specs.declared.normal.Flat.{Flat}
use Rattle.arity_check.specs.declared.normal.Flat.TheVariants as flat
use Rattle.arity_check.specs.Program.{Program, Function, Term, App, Let, Case, Branches, NoMore, OnCon, OnInt, OnAny}
use Rattle.core_meaning.specs.Heap.{Value, Int, Con, Part, Delayed, Call, Apply, Prim, Global, Input, Binding, Known, Waiting, Heap, Env, with_local, with_locals}
use Rattle.core_meaning.specs.Numbers.{primitive_result}
use Rattle.numbers.specs.Numbers.{low_byte}
use Rattle.core_meaning.specs.ByNeed as by_need
use Rattle.core_meaning.specs.Evaluation.{State, Answer, Gives, NoAlternative, OutOfBound, and_then, with_number, is_con, fields_of, is_int, spend_of, append, update, taken, DelayedEvaluator, nil, global, params_of, params, name, names, binding, with_group, give, give_all, next_byte, globals, start, parameters, force_binding, force, apply, prim, form, eval, select, enter_body, proceed, within}
use Rattle.core_meaning.specs.Printing.{PrintedRun, on_value, on_list, on_byte, print, printed}
use Rattle.core_meaning.proofs.Shared.{global_below}
use Rattle.core_meaning.specs.WellFormed.{InLocals, InGroup, AllOf, HasFields, HasParams, VarOk, FormOk, TermOk, BranchesOk, FunOk, WellFormed}

-- ---- lists

all_more : {A : Type 0} (P Q : A → Type 0) → ((x : A) → P x → Q x) → (xs : List A) → AllOf P xs
    → AllOf Q xs
all_more P Q f [] h = tt
all_more P Q f (x ∷ xs) h = (f x h.0, all_more P Q f xs h.1)

abbrev NamesIn : ℕ → List ℕ → Type 0
NamesIn m xs = AllOf (λ a. a < m) xs

names_more : (m n : ℕ) (xs : List ℕ) → m ≤ n → NamesIn m xs → NamesIn n xs
names_more m n xs le h = all_more (λ a. a < m) (λ a. a < n) (λ a lt. omega (arith, lt, le)) xs h

module _ (p : Program) where
  -- ---- what refers only to bindings and functions that are there

  abbrev ValueIn : ℕ → Value → Type 0
  ValueIn m (Int k) = Unit {0}
  ValueIn m (Con c xs) = HasFields p c (length xs) × NamesIn m xs
  ValueIn m (Part f xs) = HasParams p f (λ n. length xs < n) × NamesIn m xs

  abbrev DelayedIn : ℕ → Delayed → Type 0
  DelayedIn m (Call f xs) = HasParams p f (λ n. n ≡ length xs) × NamesIn m xs
  DelayedIn m (Apply a xs) = (a < m) × NamesIn m xs
  DelayedIn m (Prim op a b) = (a < m) × (b < m)
  DelayedIn m (Global f) = HasParams p f (λ n. n ≡ 0)
  DelayedIn m Input = Unit {0}

  abbrev BindingIn : ℕ → Binding → Type 0
  BindingIn m (Known v) = ValueIn m v
  BindingIn m (Waiting t) = DelayedIn m t

  value_more : (m n : ℕ) (v : Value) → m ≤ n → ValueIn m v → ValueIn n v
  value_more m n (Int k) le h = tt
  value_more m n (Con c xs) le h = (h.0, names_more m n xs le h.1)
  value_more m n (Part f xs) le h = (h.0, names_more m n xs le h.1)

  binding_more : (m n : ℕ) (b : Binding) → m ≤ n → BindingIn m b → BindingIn n b
  binding_more m n (Known v) le h = value_more m n v le h
  binding_more m n (Waiting (Call f xs)) le h = (h.0, names_more m n xs le h.1)
  binding_more m n (Waiting (Apply a xs)) le h = (omega (arith, h.0, le), names_more m n xs le h.1)
  binding_more m n (Waiting (Prim op a b)) le h = (omega (arith, h.0, le), omega (arith, h.1, le))
  binding_more m n (Waiting (Global f)) le h = h
  binding_more m n (Waiting Input) le h = tt

  abbrev shared : ℕ
  shared = length (globals p p.funs 0)

  record Sound (s : State) : Type 0 where
    room : shared ≤ length s.heap
    bindings : AllOf (BindingIn (length s.heap)) s.heap

  -- more bindings, which refer to all of them
  sound_append : (s : State) (more : Heap) → Sound s
      → AllOf (BindingIn (length s.heap + length more)) more → Sound (append s more)
  sound_append s more ok h =
      let e : length (s.heap ++ more) ≡ length s.heap + length more = length-append s.heap more in
      let le : length s.heap ≤ length (s.heap ++ more) = omega (arith, e) in
      record {
        room = omega (arith, ok.room, le);
        bindings = all_append _ s.heap more
            (all_more _ _ (λ b i. binding_more _ _ b le i) s.heap ok.bindings)
            (subst (λ n. AllOf (BindingIn n) more) (sym e) h);
      }

  abbrev Kept : ℕ → Answer → Type 0
  Kept m (Gives v s) = (m ≤ length s.heap) × Sound s × ValueIn (length s.heap) v
  Kept m (NoAlternative s) = Unit {0}
  Kept m (OutOfBound s) = Unit {0}

  -- two answers are the same, and with it the heap keeps its names and refers only to what is there
  record Found (m : ℕ) (a' a : Answer) : Type 0 where
    same : a' ≡ a
    kept : Kept m a

  kept_from : (l m : ℕ) (a : Answer) → l ≤ m → Kept m a → Kept l a
  kept_from l m (Gives v s) le h = (omega (arith, le, h.0), h.1, h.2)
  kept_from l m (NoAlternative s) le h = tt
  kept_from l m (OutOfBound s) le h = tt

  found_from : (l m : ℕ) (a' a : Answer) → l ≤ m → Found m a' a → Found l a' a
  found_from l m a' a le f = record { same = f.same; kept = kept_from l m a le f.kept }

  found_then : (m : ℕ) (a' a : Answer) (go' go : Value → State → Answer) → Found m a' a
      → ((v : Value) (s : State) → m ≤ length s.heap → Sound s → ValueIn (length s.heap) v
      → Found (length s.heap) (go' v s) (go v s))
      → Found m (and_then a' go') (and_then a go)
  found_then m a' (Gives v s) go' go f g =
      let r = g v s f.kept.0 f.kept.1 f.kept.2 in
      record {
        same = (λ i. and_then (f.same i) go') ∙ r.same;
        kept
            = kept_from m (length s.heap) (go v s) f.kept.0 r.kept;
      }
  found_then m a' (NoAlternative s) go' go f g = record
      { same = λ i. and_then (f.same i) go'; kept = tt }
  found_then m a' (OutOfBound s) go' go f g = record
      { same = λ i. and_then (f.same i) go'; kept = tt }

  found_number : (m : ℕ) (v : Value) (s : State) (go' go : ℤ → Answer)
      → ((k : ℤ) → Found m (go' k) (go k)) → Found m (with_number v s go') (with_number v s go)
  found_number m (Int k) s go' go g = g k
  found_number m (Con c xs) s go' go g = record { same = refl; kept = tt }
  found_number m (Part f xs) s go' go g = record { same = refl; kept = tt }

  found_cases : (m : ℕ) (b : Bool) (x' x y' y : Answer) → (b ≡ true → Found m x' x)
      → (b ≡ false → Found m y' y) → Found m (elim b [ true ↦ x' | false ↦ y' ])
      (elim b [ true ↦ x | false ↦ y ])
  found_cases m true x' x y' y f g = f refl
  found_cases m false x' x y' y f g = g refl

  found_gives : (v : Value) (s : State) → Sound s → ValueIn (length s.heap) v
      → Found (length s.heap) (Gives v s) (Gives v s)
  found_gives v s ok h = record { same = refl; kept = (omega arith, ok, h) }

  -- ---- locals

  -- the locals in S have the same names on both sides, which are below m
  record Scope (S : ℕ → Type 0) (m : ℕ) (env' env : Env) : Type 0 where
    same : (x : ℕ) → S x → env' x ≡ env x
    below : (x : ℕ) → S x → env x < m

  scope_as : (S T : ℕ → Type 0) (m n : ℕ) (env' env : Env) → ((x : ℕ) → T x → S x) → m ≤ n
      → Scope S m env' env → Scope T n env' env
  scope_as S T m n env' env sub le k = record
      { same = λ x t. k.same x (sub x t); below = λ x t. omega (arith, le, k.below x (sub x t)) }

  scope_local : (S : ℕ → Type 0) (m : ℕ) (env' env : Env) (x a : ℕ) → a < m → Scope S m env' env
      → Scope (λ y. S y ⊎ (y ≡ x)) m (with_local env' x a) (with_local env x a)
  scope_local S m env' env x a lt k = record {
    same = λ y h. is_same y (nat_eq y x) refl h;
    below = λ y h. is_below y (nat_eq y x) refl h;
  }
    where
      not_itself : (y : ℕ) → nat_eq y x ≡ false → y ≡ x → ⊥
      not_itself y e q = let t : true ≡ false = sym (eq-eqb y x q) ∙ e in cc

      is_same : (y : ℕ) (b : Bool) → nat_eq y x ≡ b → S y ⊎ (y ≡ x)
          → cond b a (env' y) ≡ cond b a (env y)
      is_same y true e h = refl
      is_same y false e (inl s) = k.same y s
      is_same y false e (inr q) = absurd (not_itself y e q)

      is_below : (y : ℕ) (b : Bool) → nat_eq y x ≡ b → S y ⊎ (y ≡ x) → cond b a (env y) < m
      is_below y true e h = lt
      is_below y false e (inl s) = k.below y s
      is_below y false e (inr q) = absurd (not_itself y e q)

  scope_group : (group : List Bound) (S : ℕ → Type 0) (m a : ℕ) (env' env : Env)
      → a + length group ≤ m → Scope S m env' env
      → Scope (λ x. S x ⊎ InGroup group x) m (with_group p env' group a) (with_group p env group a)
  scope_group [] S m a env' env le k = scope_as S _ m m env' env out (omega arith) k
    where
      out : (x : ℕ) → S x ⊎ ⊥ → S x
      out x (inl s) = s
      out x (inr z) = absurd z
  scope_group (b ∷ group) S m a env' env le k =
      scope_as _ _ m m _ _ turn (omega arith)
      (scope_group group (λ y. S y ⊎ (y ≡ b.local)) m (suc a) (with_local env' b.local a)
      (with_local env b.local a) (omega (arith, le))
      (scope_local S m env' env b.local a (omega (arith, le)) k))
    where
      turn : (x : ℕ) → S x ⊎ ((x ≡ b.local) ⊎ InGroup group x) → (S x ⊎ (x ≡ b.local))
          ⊎ InGroup group x
      turn x (inl s) = inl (inl s)
      turn x (inr (inl e)) = inl (inr e)
      turn x (inr (inr i)) = inr i

  scope_fields : (xs as' : List ℕ) (S : ℕ → Type 0) (m : ℕ) (env' env : Env)
      → length as' ≡ length xs → NamesIn m as' → Scope S m env' env
      → Scope (λ x. S x ⊎ InLocals xs x) m (with_locals env' xs as') (with_locals env xs as')
  scope_fields [] as' S m env' env e g k = scope_as S _ m m env' env out (omega arith) k
    where
      out : (x : ℕ) → S x ⊎ ⊥ → S x
      out x (inl s) = s
      out x (inr z) = absurd z
  scope_fields (x ∷ xs) [] S m env' env e g k = absurd (omega (arith, e))
  scope_fields (x ∷ xs) (a ∷ as') S m env' env e g k =
      scope_as _ _ m m _ _ turn (omega arith)
      (scope_fields xs as' (λ y. S y ⊎ (y ≡ x)) m (with_local env' x a) (with_local env x a)
      (omega (arith, e)) g.1 (scope_local S m env' env x a g.0 k))
    where
      turn : (y : ℕ) → S y ⊎ ((y ≡ x) ⊎ InLocals xs y) → (S y ⊎ (y ≡ x)) ⊎ InLocals xs y
      turn y (inl s) = inl (inl s)
      turn y (inr (inl e)) = inl (inr e)
      turn y (inr (inr i)) = inr i

  -- the parameters have the names that they are given
  argument : (nowhere m : ℕ) (xs : List ℕ) (x : ℕ) → x < length xs → NamesIn m xs
      → (get_or xs x nowhere ≡ get_or xs x 0) × (get_or xs x 0 < m)
  argument nowhere m [] x lt h = absurd (omega (arith, lt))
  argument nowhere m (a ∷ xs) zero lt h = (refl, h.0)
  argument nowhere m (a ∷ xs) (suc x) lt h = argument nowhere m xs x (omega (arith, lt)) h.1

  -- ---- functions without parameters

  globals_in : (m k : ℕ) (gs : List Function) →
      ((j : ℕ) (g : Function) → slice_get gs j ≡ Some g → slice_get p.funs (k + j) ≡ Some g)
      → AllOf (BindingIn m) (globals p gs k)
  globals_in m k [] at = tt
  globals_in m k (g ∷ gs) at =
      by_test (nat_eq g.params 0) refl
      (globals_in m (suc k) gs
      (λ j h e. let s : k + suc j ≡ suc k + j = omega arith
      in subst (λ n. slice_get p.funs n ≡ Some h) s (at (suc j) h e)))
    where
      here : slice_get p.funs k ≡ Some g
      here = let z : k + 0 ≡ k = omega arith in subst (λ n. slice_get p.funs n ≡ Some g) z
          (at 0 g refl)

      by_test : (b : Bool) → nat_eq g.params 0 ≡ b → AllOf (BindingIn m) (globals p gs (suc k))
          → AllOf (BindingIn m) (cond b (Waiting (Global k) ∷ []) [] ++ globals p gs (suc k))
      by_test true e rest = ((g, here, eqb-true g.params 0 e), rest)
      by_test false e rest = rest

  -- ---- names and bindings

  module _ (S : ℕ → Type 0) (m : ℕ) (env' env : Env) (room : shared ≤ m) (k : Scope S m env' env)
    where
      name_same : (x : Var) → VarOk p S x → name p env' x ≡ name p env x
      name_same (var.Local x) h = k.same x h
      name_same (var.Global f) h = refl

      name_in : (x : Var) → VarOk p S x → name p env x < m
      name_in (var.Local x) h = k.below x h
      name_in (var.Global f) h = omega (arith, global_below p f h, room)

      names_same : (xs : List Var) → AllOf (VarOk p S) xs → names p env' xs ≡ names p env xs
      names_same [] h = refl
      names_same (x ∷ xs) h = λ i. name_same x h.0 i ∷ names_same xs h.1 i

      names_in : (xs : List Var) → AllOf (VarOk p S) xs → NamesIn m (names p env xs)
      names_in [] h = tt
      names_in (x ∷ xs) h = (name_in x h.0, names_in xs h.1)

      as_many : (xs : List Var) → length (names p env xs) ≡ length xs
      as_many xs = length-map xs (name p env)

      binding_same : (f : Flat) → FormOk p S f → binding p env' f ≡ binding p env f
      binding_same (flat.Int i) h = refl
      binding_same (flat.Con c xs) h = λ i. Known (Con c (names_same xs h.1 i))
      binding_same (flat.Part f xs) h = λ i. Known (Part f (names_same xs h.1 i))
      binding_same (flat.Call f xs) h = λ i. Waiting (Call f (names_same xs h.1 i))
      binding_same (flat.Apply x xs) h = λ i. Waiting
          (Apply (name_same x h.1 i) (names_same xs h.2 i))
      binding_same (flat.Prim op x y) h = λ i. Waiting
          (Prim op (name_same x h.0 i) (name_same y h.1 i))

      binding_in : (f : Flat) → FormOk p S f → BindingIn m (binding p env f)
      binding_in (flat.Int i) h = tt
      binding_in (flat.Con c xs) h = ((h.0.0, h.0.1, h.0.2 ∙ sym (as_many xs)), names_in xs h.1)
      binding_in (flat.Part f xs) h =
          ((h.0.0, h.0.1, omega (arith, h.0.2, as_many xs)), names_in xs h.1)
      binding_in (flat.Call f xs) h = ((h.0.0, h.0.1, h.0.2 ∙ sym (as_many xs)), names_in xs h.1)
      binding_in (flat.Apply x xs) h = (name_in x h.1, names_in xs h.2)
      binding_in (flat.Prim op x y) h = (name_in x h.0, name_in y h.1)

      group_same : (group : List Bound) → AllOf (λ b. FormOk p S b.flat) group
          → map (λ b. binding p env' b.flat) group ≡ map (λ b. binding p env b.flat) group
      group_same [] h = refl
      group_same (b ∷ group) h = λ i. binding_same b.flat h.0 i ∷ group_same group h.1 i

      group_in : (group : List Bound) → AllOf (λ b. FormOk p S b.flat) group
          → AllOf (BindingIn m) (map (λ b. binding p env b.flat) group)
      group_in [] h = tt
      group_in (b ∷ group) h = (binding_in b.flat h.0, group_in group h.1)

  -- the fields of a value that a branch accepts
  fields_fit : (m c : ℕ) (fields : List ℕ) (v : Value) → is_con c v ≡ true → ValueIn m v
      → HasFields p c (length fields) → (length (fields_of v) ≡ length fields)
      × NamesIn m (fields_of v)
  fields_fit m c fields (Int k) e h g = absurd cc
  fields_fit m c fields (Part f xs) e h g = absurd cc
  fields_fit m c fields (Con c' xs) e h g =
      let same : c' ≡ c = eqb-true c' c e in
      let con : h.0.0 ≡ g.0 = same_Some h.0.0 g.0
      (sym h.0.1 ∙ ap (λ n. slice_get p.cons n) same ∙ g.1) in
      (sym h.0.2 ∙ ap (λ con. con.fields) con ∙ g.2, h.1)

  -- ---- evaluation

  module _ (nowhere : ℕ) (lost : State → Answer) where
    -- both do the same with whatever waits and refers only to what is there
    abbrev SameOnward : DelayedEvaluator → DelayedEvaluator → Type 0
    SameOnward onward' onward = (t : Delayed) (d : ℕ) (s : State) → Sound s
        → DelayedIn (length s.heap) t → Found (length s.heap) (onward' t d s) (onward t d s)

    module _ (onward' onward : DelayedEvaluator) (on : SameOnward onward' onward) where
      updated : (a : ℕ) (v : Value) (s : State) → Sound s → ValueIn (length s.heap) v
          → Found (length s.heap) (Gives v (update s a v)) (Gives v (update s a v))
      updated a v s ok h =
          let e : length (slice_set s.heap a (Known v)) ≡ length s.heap
          = length-set s.heap a (Known v) in
          record {
            same = refl;
            kept = (
              omega (arith, e),
              record {
                room = omega (arith, e, ok.room);
                bindings
                    = subst (λ n. AllOf (BindingIn n) (slice_set s.heap a (Known v))) (sym e)
                    (all_set (BindingIn (length s.heap)) s.heap a (Known v) ok.bindings h);
              },
              subst (λ n. ValueIn n v) (sym e) h,
            );
          }

      forced : (b : Binding) (a d : ℕ) (s : State) → Sound s → BindingIn (length s.heap) b
          → Found (length s.heap) (by_need.force_binding nowhere lost p onward' (Some b) a d s)
          (force_binding p onward (Some b) a d s)
      forced (Known v) a d s ok h = found_gives v s ok h
      forced (Waiting t) a d s ok h =
          found_then _ _ _ (λ v s. Gives v (update s a v)) (λ v s. Gives v (update s a v))
          (on t (suc d) s ok h) (λ v s le ok h. updated a v s ok h)

      forcing : (a d : ℕ) (s : State) → Sound s → a < length s.heap
          → Found (length s.heap) (by_need.force nowhere lost p onward' a d s)
          (force p onward a d s)
      forcing a d s ok lt =
          let b = some_at s.heap a lt in
          subst (λ o. Found (length s.heap) (by_need.force_binding nowhere lost p onward' o a d s)
          (force_binding p onward o a d s)) (sym b.1)
          (forced b.0 a d s ok (all_get (BindingIn (length s.heap)) s.heap a b.0 ok.bindings b.1))

      giving : (v : Value) (b d : ℕ) (s : State) → Sound s → ValueIn (length s.heap) v
          → b < length s.heap → Found (length s.heap) (give p onward' v b d s)
          (give p onward v b d s)
      giving (Int k) b d s ok h lt = record { same = refl; kept = tt }
      giving (Con c xs) b d s ok h lt = record { same = refl; kept = tt }
      giving (Part f xs) b d s ok h lt = by_test (nat_lt (suc (length xs)) (params p f)) refl
        where
          is_params : params p f ≡ h.0.0.params
          is_params = ap (params_of p) h.0.1

          one_longer : length (xs ++ b ∷ []) ≡ suc (length xs)
          one_longer = omega (arith, length-append xs (b ∷ []))

          all_in : NamesIn (length s.heap) (xs ++ b ∷ [])
          all_in = all_append (λ a. a < length s.heap) xs (b ∷ []) h.1 (lt, tt)

          by_test : (t : Bool) → nat_lt (suc (length xs)) (params p f) ≡ t
              → Found (length s.heap)
              (if t then Gives (Part f (xs ++ b ∷ [])) s
              else onward' (Call f (xs ++ b ∷ [])) d s)
              (if t then Gives (Part f (xs ++ b ∷ [])) s
              else onward (Call f (xs ++ b ∷ [])) d s)
          by_test true e =
              let l = ltb-true (suc (length xs)) (params p f) e in
              found_gives (Part f (xs ++ b ∷ [])) s ok
              ((h.0.0, h.0.1, omega (arith, l, one_longer, is_params)), all_in)
          by_test false e =
              let l = ltb-false (suc (length xs)) (params p f) e in
              on (Call f (xs ++ b ∷ [])) d s ok
              ((h.0.0, h.0.1, omega (arith, l, one_longer, is_params, h.0.2)), all_in)

      giving_all : (bs : List ℕ) (v : Value) (d : ℕ) (s : State) → Sound s
          → ValueIn (length s.heap) v → NamesIn (length s.heap) bs
          → Found (length s.heap) (give_all p onward' v bs d s) (give_all p onward v bs d s)
      giving_all [] v d s ok h n = found_gives v s ok h
      giving_all (b ∷ []) v d s ok h n = giving v b d s ok h n.0
      giving_all (b ∷ c ∷ bs) v d s ok h n =
          found_then _ _ _ (λ w s. give_all p onward' w (c ∷ bs) d s)
          (λ w s. give_all p onward w (c ∷ bs) d s) (giving v b (suc d) s ok h n.0)
          (λ w t le ok h. giving_all (c ∷ bs) w d t ok h (names_more _ _ (c ∷ bs) le n.1))

      applying : (a : ℕ) (bs : List ℕ) (d : ℕ) (s : State) → Sound s → a < length s.heap
          → NamesIn (length s.heap) bs → Found (length s.heap)
          (by_need.apply nowhere lost p onward' a bs d s) (apply p onward a bs d s)
      applying a [] d s ok lt n = forcing a d s ok lt
      applying a (b ∷ bs) d s ok lt n =
          found_then _ _ _ (λ v s. give_all p onward' v (b ∷ bs) d s)
          (λ v s. give_all p onward v (b ∷ bs) d s) (forcing a (suc d) s ok lt)
          (λ v t le ok h. giving_all (b ∷ bs) v d t ok h (names_more _ _ (b ∷ bs) le n))

      operating : (op : _) (a b d : ℕ) (s : State) → Sound s → a < length s.heap → b < length s.heap
          → Found (length s.heap) (by_need.prim nowhere lost p onward' op a b d s)
          (prim p onward op a b d s)
      operating op a b d s ok lta ltb =
          found_then _ _ _ _ _ (forcing a (suc d) s ok lta)
          (λ v t le ok h. found_number _ v t _ _ (λ i.
          found_then _ _ _ _ _ (forcing b (suc d) t ok (omega (arith, ltb, le)))
          (λ w u le ok h. found_number _ w u _ _
          (λ j. found_gives (Int (primitive_result op i j)) u ok tt))))

      module _ (S : ℕ → Type 0) (env' env : Env) (s : State) (ok : Sound s)
          (k : Scope S (length s.heap) env' env) where
        forming : (f : Flat) (d : ℕ) → FormOk p S f
            → Found (length s.heap) (by_need.form nowhere lost p onward' env' f d s)
            (form p onward env f d s)
        forming (flat.Int i) d h = found_gives (Int i) s ok tt
        forming (flat.Con c xs) d h =
            let e = names_same S _ env' env ok.room k xs h.1 in
            let i = binding_in S _ env' env ok.room k (flat.Con c xs) h in
            subst (λ ys. Found (length s.heap) (Gives (Con c ys) s)
            (Gives (Con c (names p env xs)) s)) (sym e)
            (found_gives (Con c (names p env xs)) s ok i)
        forming (flat.Part f xs) d h =
            let e = names_same S _ env' env ok.room k xs h.1 in
            let i = binding_in S _ env' env ok.room k (flat.Part f xs) h in
            subst (λ ys. Found (length s.heap) (Gives (Part f ys) s)
            (Gives (Part f (names p env xs)) s)) (sym e)
            (found_gives (Part f (names p env xs)) s ok i)
        forming (flat.Call f xs) d h =
            let e = names_same S _ env' env ok.room k xs h.1 in
            let i = binding_in S _ env' env ok.room k (flat.Call f xs) h in
            subst (λ ys. Found (length s.heap) (onward' (Call f ys) d s)
            (onward (Call f (names p env xs)) d s)) (sym e)
            (on (Call f (names p env xs)) d s ok i)
        forming (flat.Apply x xs) d h =
            let e = names_same S _ env' env ok.room k xs h.2 in
            let n = name_same S _ env' env ok.room k x h.1 in
            subst (λ ys. Found (length s.heap)
            (by_need.apply nowhere lost p onward' (name p env' x) ys d s)
            (apply p onward (name p env x) (names p env xs) d s)) (sym e)
            (subst (λ a. Found (length s.heap)
            (by_need.apply nowhere lost p onward' a (names p env xs) d s)
            (apply p onward (name p env x) (names p env xs) d s)) (sym n)
            (applying (name p env x) (names p env xs) d s ok (name_in S _ env' env ok.room k x h.1)
            (names_in S _ env' env ok.room k xs h.2)))
        forming (flat.Prim op x y) d h =
            let n = name_same S _ env' env ok.room k x h.0 in
            let o = name_same S _ env' env ok.room k y h.1 in
            subst (λ b. Found (length s.heap)
            (by_need.prim nowhere lost p onward' op (name p env' x) b d s)
            (prim p onward op (name p env x) (name p env y) d s)) (sym o)
            (subst (λ a. Found (length s.heap)
            (by_need.prim nowhere lost p onward' op a (name p env y) d s)
            (prim p onward op (name p env x) (name p env y) d s)) (sym n)
            (operating op (name p env x) (name p env y) d s ok
            (name_in S _ env' env ok.room k x h.0) (name_in S _ env' env ok.room k y h.1)))

      mutual
        evaluating : (e : Term) (S : ℕ → Type 0) (env' env : Env) (d : ℕ) (s : State) → TermOk p S e
            → Sound s → Scope S (length s.heap) env' env
            → Found (length s.heap) (by_need.eval nowhere lost p onward' e env' d s)
            (eval p onward e env d s)
        evaluating (App f) S env' env d s h ok k = forming S env' env s ok k f d h
        evaluating (Let group body) S env' env d s h ok k =
            let T : ℕ → Type 0 = λ x. S x ⊎ InGroup group x in
            let m : ℕ = length s.heap + length group in
            let new' : Env = with_group p env' group (length s.heap) in
            let new : Env = with_group p env group (length s.heap) in
            let scope : Scope T m new' new = scope_group group S m (length s.heap) env' env
            (omega arith) (scope_as S S _ m env' env (λ x t. t) (omega arith) k) in
            let more : Heap = map (λ b. binding p new b.flat) group in
            let same : map (λ b. binding p new' b.flat) group ≡ more
            = group_same T m new' new (omega (arith, ok.room)) scope group h.0 in
            let count : length more ≡ length group = length-map group (λ b. binding p new b.flat) in
            let all : length s.heap + length more ≡ m = omega (arith, count) in
            let whole : m ≡ length (s.heap ++ more) = sym all ∙ sym (length-append s.heap more) in
            let ok' : Sound (append s more) = sound_append s more ok
            (subst (λ n. AllOf (BindingIn n) more) (sym all)
            (group_in T m new' new (omega (arith, ok.room)) scope group h.0)) in
            subst (λ more'. Found (length s.heap)
            (by_need.eval nowhere lost p onward' body new' d (append s more'))
            (eval p onward body new d (append s more))) (sym same)
            (found_from _ _ _ _ (omega (arith, whole))
            (evaluating body T new' new d (append s more) h.1 ok'
            (subst (λ n. Scope T n new' new) whole scope)))
        evaluating (Case tested branches) S env' env d s h ok k =
            found_then _ _ _ _ _ (evaluating tested S env' env (suc d) s h.0 ok k)
            (λ v t le ok i. selecting branches S v env' env d t h.1 ok i
            (scope_as S S _ _ env' env (λ x t. t) le k))

        selecting : (bs : Branches) (S : ℕ → Type 0) (v : Value) (env' env : Env) (d : ℕ)
            (s : State) → BranchesOk p S bs → Sound s → ValueIn (length s.heap) v
            → Scope S (length s.heap) env' env
            → Found (length s.heap) (by_need.select nowhere lost p onward' bs v env' d s)
            (select p onward bs v env d s)
        selecting NoMore S v env' env d s h ok i k = record { same = refl; kept = tt }
        selecting (OnCon c fields body rest) S v env' env d s h ok i k =
            found_cases _ (is_con c v) _ _ _ _
            (λ e. let f = fields_fit _ c fields v e i h.0
            in evaluating body (λ x. S x ⊎ InLocals fields x)
            (with_locals env' fields (fields_of v)) (with_locals env fields (fields_of v)) d s
            h.1 ok (scope_fields fields (fields_of v) S _ env' env f.0 f.1 k))
            (λ e. selecting rest S v env' env d s h.2 ok i k)
        selecting (OnInt c body rest) S v env' env d s h ok i k =
            found_cases _ (is_int c v) _ _ _ _ (λ e. evaluating body S env' env d s h.0 ok k)
            (λ e. selecting rest S v env' env d s h.1 ok i k)
        selecting (OnAny None body rest) S v env' env d s h ok i k
            = evaluating body S env' env d s h.0 ok k
        selecting (OnAny (Some x) body rest) S v env' env d s h ok i k =
            let m : ℕ = length s.heap in
            let one : length (s.heap ++ Known v ∷ []) ≡ m + 1 = length-append s.heap (Known v ∷ [])
            in
            let ok' : Sound (append s (Known v ∷ []))
            = sound_append s (Known v ∷ []) ok (value_more m (m + 1) v (omega arith) i, tt) in
            let scope = scope_local S _ env' env x m (omega (arith, one))
            (scope_as S S m (length (s.heap ++ Known v ∷ [])) env' env (λ x t. t)
            (omega (arith, one)) k) in
            found_from _ _ _ _ (omega (arith, one))
            (evaluating body (λ y. S y ⊎ (y ≡ x)) (with_local env' x m) (with_local env x m) d
            (append s (Known v ∷ [])) h.0 ok' scope)

    module _ (w : WellFormed p) where
      module _ (onward' onward : DelayedEvaluator) (on : SameOnward onward' onward) where
        entering : (f : ℕ) (xs : List ℕ) (d : ℕ) (s : State) → Sound s
            → HasParams p f (λ n. n ≡ length xs) → NamesIn (length s.heap) xs
            → Found (length s.heap)
            (by_need.enter_body nowhere lost p onward' (slice_get p.funs f) xs d s)
            (enter_body p onward (slice_get p.funs f) xs d s)
        entering f xs d s ok h n =
            let body = all_get (FunOk p) p.funs f h.0 w.bodies h.1 in
            let scope : Scope (λ x. x < h.0.params) (length s.heap)
            (by_need.parameters nowhere lost xs) (parameters xs) = record {
              same = λ x lt. (argument nowhere _ xs x (omega (arith, lt, h.2)) n).0;
              below = λ x lt. (argument nowhere _ xs x (omega (arith, lt, h.2)) n).1;
            } in
            subst (λ o. Found (length s.heap) (by_need.enter_body nowhere lost p onward' o xs d s)
            (enter_body p onward o xs d s)) (sym h.1)
            (evaluating onward' onward on h.0.body (λ x. x < h.0.params)
            (by_need.parameters nowhere lost xs) (parameters xs) d s body ok scope)

        proceeding : (t : Delayed) (d : ℕ) (s : State) → Sound s → DelayedIn (length s.heap) t
            → Found (length s.heap) (by_need.proceed nowhere lost p onward' t d s)
            (proceed p onward t d s)
        proceeding (Call f xs) d s ok h = entering f xs d s ok h.0 h.1
        proceeding (Global f) d s ok h = entering f [] d s ok h tt
        proceeding (Apply a bs) d s ok h = applying onward' onward on a bs d s ok h.0 h.1
        proceeding (Prim op a b) d s ok h = operating onward' onward on op a b d s ok h.0 h.1
        proceeding Input d s ok h = next s.input
          where
            next : (i : List ℕ) → Found (length s.heap) (next_byte p onward' i s)
                (next_byte p onward i s)
            next [] = found_gives (Con (nil p) []) s ok (w.nil_fields, tt)
            next (k ∷ rest) =
                let m : ℕ = length s.heap in
                let more : Heap = Known (Int (pos k)) ∷ Waiting Input ∷ [] in
                let two : length (s.heap ++ more) ≡ m + 2 = length-append s.heap more in
                let ok' : Sound (append (taken s rest) more)
                = sound_append (taken s rest) more
                (record { room = ok.room; bindings = ok.bindings }) (tt, (tt, tt)) in
                record {
                  same = refl;
                  kept = (
                    omega (arith, two),
                    ok',
                    (w.cons_fields, (omega (arith, two), (omega (arith, two), tt))),
                  );
                }

      spending : (n d : ℕ) (s : State) (go' go : State → Answer) → Sound s
          → ((t : State) → Sound t → t.heap ≡ s.heap → Found (length t.heap) (go' t) (go t))
          → Found (length s.heap) (spend_of n d s go') (spend_of n d s go)
      spending zero d s go' go ok g = record { same = refl; kept = tt }
      spending (suc n) d s go' go ok g = g _ (record { room = ok.room; bindings = ok.bindings })
          refl

      same_within : (n : ℕ) → SameOnward (by_need.within nowhere lost p n) (within p n)
      same_within zero t d s ok h = record { same = refl; kept = tt }
      same_within (suc n) t d s ok h =
          spending s.left d s _ _ ok
          (λ u ok' e. proceeding (by_need.within nowhere lost p n) (within p n) (same_within n)
          t d u ok' (subst (λ heap. DelayedIn (length heap) t) (sym e) h))

      -- ---- printing

      value_same : (m : ℕ) (a' a : Answer) (out : List ℕ) (go' go : Value → State → PrintedRun)
          → Found m a' a
          → ((v : Value) (s : State) → m ≤ length s.heap → Sound s → ValueIn (length s.heap) v
          → go' v s ≡ go v s) → on_value a' out go' ≡ on_value a out go
      value_same m a' (Gives v s) out go' go f g = (λ i. on_value (f.same i) out go') ∙ g v s
          f.kept.0 f.kept.1 f.kept.2
      value_same m a' (NoAlternative s) out go' go f g = λ i. on_value (f.same i) out go'
      value_same m a' (OutOfBound s) out go' go f g = λ i. on_value (f.same i) out go'

      cases_same : (b : Bool) (x' x y : PrintedRun) → x' ≡ x
          → elim b as (λ _. PrintedRun) [ true ↦ x' | false ↦ y ] ≡ elim b as (λ _. PrintedRun)
          [ true ↦ x | false ↦ y ]
      cases_same true x' x y e = e
      cases_same false x' x y e = refl

      list_same : (m n c : ℕ) (v : Value) (out : List ℕ) (s : State) (go' go : ℕ → ℕ → PrintedRun)
          → ValueIn m v → ((h t : ℕ) → h < m → t < m → go' h t ≡ go h t)
          → on_list n c v out s go' ≡ on_list n c v out s go
      list_same m n c (Int k) out s go' go i e = refl
      list_same m n c (Part f xs) out s go' go i e = refl
      list_same m n c (Con d []) out s go' go i e = refl
      list_same m n c (Con d (h ∷ [])) out s go' go i e = refl
      list_same m n c (Con d (h ∷ t ∷ [])) out s go' go i e
          = cases_same (d == c) _ _ _ (e h t i.1.0 i.1.1.0)
      list_same m n c (Con d (h ∷ t ∷ u ∷ xs)) out s go' go i e = refl

      byte_same : (v : Value) (out : List ℕ) (s : State) (go' go : ℕ → PrintedRun)
          → ((b : ℕ) → go' b ≡ go b) → on_byte v out s go' ≡ on_byte v out s go
      byte_same (Int k) out s go' go e = e (low_byte k)
      byte_same (Con c xs) out s go' go e = refl
      byte_same (Part f xs) out s go' go e = refl

      printing : (n a : ℕ) (out : List ℕ) (s : State) → Sound s → a < length s.heap
          → by_need.print nowhere lost p n a out s ≡ print p n a out s
      printing zero a out s ok lt = refl
      printing (suc n) a out s ok lt =
          value_same _ _ _ out _ _
          (spending s.left 0 s _ _ ok
          (λ u ok' e. forcing (by_need.within nowhere lost p n) (within p n) (same_within n) a 1
          u ok' (subst (λ heap. a < length heap) (sym e) lt)))
          (λ v t le ok i. list_same _ _ _ v out t _ _ i (λ h tail lth ltt.
          value_same _ _ _ out _ _
          (forcing (by_need.within nowhere lost p n) (within p n) (same_within n) h 1 t ok lth)
          (λ v u le' ok i. byte_same v out u _ _
          (λ byte. printing n tail (out ++ byte ∷ []) u ok (omega (arith, ltt, le'))))))

      sound_start : (i : List ℕ) (n : ℕ) → Sound (start p i n)
      sound_start i n = record {
        room = omega arith;
        bindings = globals_in _ 0 p.funs
            (λ j g e. let z : 0 + j ≡ j = omega arith
            in subst (λ k. slice_get p.funs k ≡ Some g) (sym z) e);
      }

      main_params : params p p.main ≡ w.main.0.params
      main_params = ap (params_of p) w.main.1

      pub well_formed_finds : (i : List ℕ) (n : ℕ) → by_need.printed nowhere lost p i n ≡ printed p
          i n
      well_formed_finds i n = by_test (params p p.main == 0) refl n
        where
          by_test : (b : Bool) → (params p p.main == 0) ≡ b → (n : ℕ)
              → elim b as (λ _. PrintedRun) [
                | true ↦ by_need.print nowhere lost p n (global p p.main) [] (start p i n)
                | false
                    ↦ by_need.printed_from_input nowhere lost p i n
              ]
              ≡ elim b as (λ _. PrintedRun) [
                | true ↦ by_need.print 0 NoAlternative p n (global p p.main) [] (start p i n)
                | false ↦ by_need.printed_from_input 0 NoAlternative p i n
              ]
          by_test true e n =
              let none : w.main.0.params ≡ 0 = sym main_params ∙ eqb-true (params p p.main) 0 e in
              printing n (global p p.main) [] (start p i n) (sound_start i n)
              (global_below p p.main (w.main.0, w.main.1, none))
          by_test false e zero = refl
          by_test false e (suc n) =
              let s : State = start p i n in
              let m : ℕ = length s.heap in
              let more : Heap = Waiting Input ∷ Waiting (Call p.main (m ∷ [])) ∷ [] in
              let two : length (s.heap ++ more) ≡ m + 2 = length-append s.heap more in
              let some : params p p.main ≢ 0 = λ z. let t : true ≡ false
              = sym (eq-eqb (params p p.main) 0 z) ∙ e in cc in
              let one : w.main.0.params ≡ 1 = omega (arith, some, main_params, w.main.2) in
              let ok' : Sound (append s more) = sound_append s more (sound_start i n)
              (tt, (((w.main.0, w.main.1, one), (omega arith, tt)), tt)) in
              printing n (suc m) [] (append s more) ok' (omega (arith, two))
