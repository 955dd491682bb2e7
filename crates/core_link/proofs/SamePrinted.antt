-- Programs that differ in the names of their functions alone put out the same.
use Rattle.std.proofs.Common.{◌≡◌, ℕ, zero, suc, ◌+◌, true, false, cond, List, [], ◌∷◌, ◌++◌, map, take, length, refl, sym, ap, ◌∙◌, Option, Some, None}
use Rattle.std.specs.Prelude.{◌==◌, pos, nat_lt, codes, slice_get, sum_by, if◌then◌else◌}
use Rattle.std.specs.List.{AllZip, count_by}
use Rattle.std.proofs.lemmas.List.Sums.{sum_by-cons}
use Rattle.arity_check.specs.declared.normal.Var.{Var}
use Rattle.arity_check.specs.declared.normal.Var.TheVariants as var
use Rattle.arity_check.specs.declared.normal.Bound.{Bound}
use Rattle.arity_check.specs.declared.normal.Flat.{Flat}
use Rattle.arity_check.specs.declared.normal.Flat.TheVariants as flat
use Rattle.arity_check.specs.Program.{Program, Function, Term, App, Let, Case, Branches, NoMore, OnCon, OnInt, OnAny}
use Rattle.core_meaning.specs.Heap.{Value, Int, Con, Part, Delayed, Call, Apply, Prim, Global, Input, Binding, Known, Waiting, Env, with_local, with_locals}
use Rattle.core_meaning.specs.ByNeed as by_need
use Rattle.core_meaning.specs.ByNeed.{State, Answer, DelayedEvaluator, OutOfBound, Gives, NoAlternative, and_then, with_number, is_con, fields_of, is_int, spend, append, taken, con_named, with_group, global, params_of, globals, PrintedRun, on_value, on_list, on_byte, stops, Going}
use Rattle.core_meaning.specs.Numbers.{primitive_result}

abbrev pub SameBody : Function → Function → Type 0
SameBody f g = (f.params ≡ g.params) × (f.body ≡ g.body)

-- the entries of two lists of functions
abbrev SameEntry : Option Function → Option Function → Type 0
SameEntry None None = Unit {0}
SameEntry (Some f) (Some g) = SameBody f g
SameEntry o u = ⊥

entry_same : (fs gs : List Function) → AllZip SameBody fs gs → (i : ℕ)
    → SameEntry (slice_get fs i) (slice_get gs i)
entry_same [] [] z i = tt
entry_same [] (g ∷ gs) z i = absurd z
entry_same (f ∷ fs) [] z i = absurd z
entry_same (f ∷ fs) (g ∷ gs) z zero = z.0
entry_same (f ∷ fs) (g ∷ gs) z (suc i) = entry_same fs gs z.1 i

count_same : (fs gs : List Function) → AllZip SameBody fs gs → (n : ℕ)
    → count_by (λ g. g.params == 0) (take n fs) ≡ count_by (λ g. g.params == 0) (take n gs)
count_same fs gs z zero = refl
count_same [] [] z (suc n) = refl
count_same [] (g ∷ gs) z (suc n) = absurd z
count_same (f ∷ fs) [] z (suc n) = absurd z
count_same (f ∷ fs) (g ∷ gs) z (suc n) =
    let one : Function → ℕ = λ g. cond (g.params == 0) 1 0 in
    let a : sum_by one (f ∷ take n fs) ≡ one f + sum_by one (take n fs)
    = sum_by-cons one f (take n fs) in
    let b : sum_by one (g ∷ take n gs) ≡ one g + sum_by one (take n gs)
    = sum_by-cons one g (take n gs) in
    a ∙ (λ i. cond (z.0.0 i == 0) 1 0 + count_same fs gs z.1 n i) ∙ sym b

module _ (nowhere : ℕ) (lost : State → Answer) (p q : Program) (same_cons : p.cons ≡ q.cons)
    (same_main : p.main ≡ q.main) (same_funs : AllZip SameBody p.funs q.funs) where
  same_global : global p ≡ global q
  same_global = λ i f. count_same p.funs q.funs same_funs f i

  params_by : (o u : Option Function) → SameEntry o u → params_of p o ≡ params_of q u
  params_by None None h = refl
  params_by None (Some g) h = absurd h
  params_by (Some f) None h = absurd h
  params_by (Some f) (Some g) h = h.0

  same_params : by_need.params p ≡ by_need.params q
  same_params = λ i f. params_by (slice_get p.funs f) (slice_get q.funs f)
      (entry_same p.funs q.funs same_funs f) i

  name_by : (env : Env) (x : Var) → by_need.name p env x ≡ by_need.name q env x
  name_by env (var.Local x) = refl
  name_by env (var.Global f) = λ i. same_global i f

  same_name : by_need.name p ≡ by_need.name q
  same_name = λ i env x. name_by env x i

  same_names : by_need.names p ≡ by_need.names q
  same_names = λ i env xs. map (same_name i env) xs

  binding_by : (env : Env) (f : Flat) → by_need.binding p env f ≡ by_need.binding q env f
  binding_by env (flat.Int k) = refl
  binding_by env (flat.Con c xs) = λ i. Known (Con c (same_names i env xs))
  binding_by env (flat.Part f xs) = λ i. Known (Part f (same_names i env xs))
  binding_by env (flat.Call f xs) = λ i. Waiting (Call f (same_names i env xs))
  binding_by env (flat.Apply x xs) = λ i. Waiting (Apply (same_name i env x) (same_names i env xs))
  binding_by env (flat.Prim op x y) = λ i. Waiting (Prim op (same_name i env x) (same_name i env y))

  group_by : (group : List Bound) (env : Env) (a : ℕ)
      → with_group p env group a ≡ with_group q env group a
  group_by [] env a = refl
  group_by (b ∷ group) env a = group_by group (with_local env b.local a) (suc a)

  globals_by : (fs gs : List Function) → AllZip SameBody fs gs → (n : ℕ)
      → globals p fs n ≡ globals q gs n
  globals_by [] [] z n = refl
  globals_by [] (g ∷ gs) z n = absurd z
  globals_by (f ∷ fs) [] z n = absurd z
  globals_by (f ∷ fs) (g ∷ gs) z n = λ i. (if z.0.0 i == 0 then Waiting (Global n) ∷ [] else [])
      ++ globals_by fs gs z.1 (suc n) i

  same_start : by_need.start p ≡ by_need.start q
  same_start = λ i input n. record {
    heap = globals_by p.funs q.funs same_funs 0 i;
    left = n;
    depth = 0;
    input = input;
    used
        = 0;
  }

  same_nil : by_need.nil p ≡ by_need.nil q
  same_nil = ap (con_named (codes "Nil")) same_cons

  same_cons_number : by_need.cons p ≡ by_need.cons q
  same_cons_number = ap (con_named (codes "Cons")) same_cons

  -- where what follows a delayed form is the same
  module _ (on on' : DelayedEvaluator) (same : on ≡ on') where
    give_by : (v : Value) (b d : ℕ) (s : State) → by_need.give p on v b d s ≡ by_need.give q on' v b
        d s
    give_by (Part f given) b d s = λ i. if nat_lt (suc (length given)) (same_params i f)
        then Gives (Part f (given ++ b ∷ [])) s else same i (Call f (given ++ b ∷ [])) d s
    give_by (Int k) b d s = refl
    give_by (Con c xs) b d s = refl

    all_given : (bs : List ℕ) (v : Value) (d : ℕ) (s : State)
        → by_need.give_all p on v bs d s ≡ by_need.give_all q on' v bs d s
    all_given [] v d s = refl
    all_given (b ∷ []) v d s = give_by v b d s
    all_given (b ∷ c ∷ bs) v d s = λ i. and_then (give_by v b (suc d) s i)
        (λ w s. all_given (c ∷ bs) w d s i)

    byte_by : (rest : List ℕ) (s : State) → by_need.next_byte p on rest s ≡ by_need.next_byte q on'
        rest s
    byte_by [] s = λ i. Gives (Con (same_nil i) []) s
    byte_by (k ∷ rest) s = λ i. Gives
        (Con (same_cons_number i) (length s.heap ∷ suc (length s.heap) ∷ []))
        (append (taken s rest) (Known (Int (pos k)) ∷ Waiting Input ∷ []))

    binding_forced : (o : Option Binding) (a d : ℕ) (s : State)
        → by_need.force_binding nowhere lost p on o a d s ≡ by_need.force_binding nowhere lost q on'
        o a d s
    binding_forced None a d s = refl
    binding_forced (Some (Known v)) a d s = refl
    binding_forced (Some (Waiting t)) a d s = λ i. and_then (same i t (suc d) s)
        (λ v s. Gives v (by_need.update s a v))

    same_force : by_need.force nowhere lost p on ≡ by_need.force nowhere lost q on'
    same_force = λ i a d s. binding_forced (slice_get s.heap a) a d s i

    apply_by : (a : ℕ) (bs : List ℕ) (d : ℕ) (s : State)
        → by_need.apply nowhere lost p on a bs d s ≡ by_need.apply nowhere lost q on' a bs d s
    apply_by a [] d s = λ i. same_force i a d s
    apply_by a (b ∷ bs) d s = λ i. and_then (same_force i a (suc d) s)
        (λ v s. all_given (b ∷ bs) v d s i)

    same_apply : by_need.apply nowhere lost p on ≡ by_need.apply nowhere lost q on'
    same_apply = λ i a bs d s. apply_by a bs d s i

    same_prim : by_need.prim nowhere lost p on ≡ by_need.prim nowhere lost q on'
    same_prim = λ i op a b d s.
        and_then (same_force i a (suc d) s)
        (λ v s. with_number v s
        (λ k. and_then (same_force i b (suc d) s)
        (λ w s. with_number w s (λ j. Gives (Int (primitive_result op k j)) s))))

    form_by : (env : Env) (f : Flat) (d : ℕ) (s : State)
        → by_need.form nowhere lost p on env f d s ≡ by_need.form nowhere lost q on' env f d s
    form_by env (flat.Int k) d s = refl
    form_by env (flat.Con c xs) d s = λ i. Gives (Con c (same_names i env xs)) s
    form_by env (flat.Part f xs) d s = λ i. Gives (Part f (same_names i env xs)) s
    form_by env (flat.Call f xs) d s = λ i. same i (Call f (same_names i env xs)) d s
    form_by env (flat.Apply x xs) d s = λ i. same_apply i (same_name i env x) (same_names i env xs)
        d s
    form_by env (flat.Prim op x y) d s = λ i. same_prim i op (same_name i env x) (same_name i env y)
        d s

    mutual
      eval_by : (e : Term) (env : Env) (d : ℕ) (s : State)
          → by_need.eval nowhere lost p on e env d s ≡ by_need.eval nowhere lost q on' e env d s
      eval_by (App f) env d s = form_by env f d s
      eval_by (Let group body) env d s =
          let inner : Env = with_group p env group (length s.heap) in
          let there : by_need.eval nowhere lost p on body inner d
          (append s (map (λ b. by_need.binding p inner b.flat) group)) ≡ by_need.eval nowhere
          lost q on' body inner d (append s (map (λ b. by_need.binding q inner b.flat) group)) =
          eval_by body inner d (append s (map (λ b. by_need.binding p inner b.flat) group)) ∙
          (λ i. by_need.eval nowhere lost q on' body inner d
          (append s (map (λ b. binding_by inner b.flat i) group))) in
          there ∙ ap
          (λ (env' : Env). by_need.eval nowhere lost q on' body env' d
          (append s (map (λ b. by_need.binding q env' b.flat) group)))
          (group_by group env (length s.heap))
      eval_by (Case tested branches) env d s = λ i. and_then (eval_by tested env (suc d) s i)
          (λ v s. select_by branches v env d s i)

      select_by : (bs : Branches) (v : Value) (env : Env) (d : ℕ) (s : State)
          → by_need.select nowhere lost p on bs v env d s ≡ by_need.select nowhere lost q on' bs v
          env d s
      select_by NoMore v env d s = refl
      select_by (OnCon c fields body rest) v env d s
          = λ i. elim (is_con c v) [
            | true ↦ eval_by body (with_locals env fields (fields_of v)) d s i
            | false ↦ select_by
                rest v env d s i
          ]
      select_by (OnInt k body rest) v env d s = λ i. elim (is_int k v)
          [ true ↦ eval_by body env d s i | false ↦ select_by rest v env d s i ]
      select_by (OnAny None body rest) v env d s = eval_by body env d s
      select_by (OnAny (Some x) body rest) v env d s
          = eval_by body (with_local env x (length s.heap)) d (append s (Known v ∷ []))

    enter_by : (o u : Option Function) → SameEntry o u → (xs : List ℕ) (d : ℕ) (s : State)
        → by_need.enter_body nowhere lost p on o xs d s ≡ by_need.enter_body nowhere lost q on' u xs
        d s
    enter_by None None h xs d s = refl
    enter_by None (Some g) h xs d s = absurd h
    enter_by (Some f) None h xs d s = absurd h
    enter_by (Some f) (Some g) h xs d s =
        eval_by f.body (by_need.parameters nowhere lost xs) d s ∙ ap
        (λ e. by_need.eval nowhere lost q on' e (by_need.parameters nowhere lost xs) d s) h.1

    proceed_by : (t : Delayed) (d : ℕ) (s : State) → by_need.proceed nowhere lost p on t d s ≡
        by_need.proceed nowhere lost q on' t d s
    proceed_by (Call f xs) d s = enter_by (slice_get p.funs f) (slice_get q.funs f)
        (entry_same p.funs q.funs same_funs f) xs d s
    proceed_by (Global f) d s = enter_by (slice_get p.funs f) (slice_get q.funs f)
        (entry_same p.funs q.funs same_funs f) [] d s
    proceed_by (Apply a bs) d s = apply_by a bs d s
    proceed_by (Prim op a b) d s = λ i. same_prim i op a b d s
    proceed_by Input d s = byte_by s.input s

  same_within : (n : ℕ) → by_need.within nowhere lost p n ≡ by_need.within nowhere lost q n
  same_within zero = refl
  same_within (suc n) = λ i t d s. spend d s
      (λ s. proceed_by (by_need.within nowhere lost p n) (by_need.within nowhere lost q n)
      (same_within n) t d s i)

  print_by : (n a : ℕ) (out : List ℕ) (s : State) → by_need.print nowhere lost p n a out s ≡
      by_need.print nowhere lost q n a out s
  print_by zero a out s = refl
  print_by (suc n) a out s =
      let force = same_force (by_need.within nowhere lost p n) (by_need.within nowhere lost q n)
      (same_within n) in
      λ i. on_value (spend 0 s (force i a 1)) out
      (λ v s. on_list (same_nil i) (same_cons_number i) v out s
      (λ h t. on_value (force i h 1 s) out
      (λ w s. on_byte w out s (λ byte. print_by n t (out ++ byte ∷ []) s i))))

  input_by : (input : List ℕ) (n : ℕ) → by_need.printed_from_input nowhere lost p input n ≡
      by_need.printed_from_input nowhere lost q input n
  input_by input zero = λ i. stops [] Going (same_start i input 0)
  input_by input (suc n) = λ i.
      let s : State = same_start i input n in
      print_by n (suc (length s.heap)) []
      (append s (Waiting Input ∷ Waiting (Call (same_main i) (length s.heap ∷ [])) ∷ [])) i

  pub same_printed : (input : List ℕ) (n : ℕ) → by_need.printed nowhere lost p input n ≡
      by_need.printed nowhere lost q input n
  same_printed input n = λ i. elim (same_params i (same_main i) == 0) [
    | true ↦ print_by n (same_global i (same_main i)) [] (same_start i input n) i
    | false ↦
        input_by input n i
  ]
