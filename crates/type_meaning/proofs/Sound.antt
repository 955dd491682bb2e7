-- Evaluation keeps types: what a well typed program does with whatever has a type never ends for
-- want of an alternative, and a value that it gives has that type.
--
-- Each name of a heap has a type, and heaps only gain names. Evaluation keeps that, and a value
-- has the type of its expression. A case takes every value of its type, so no value is without an
-- alternative. `Whole` gives the types from a solution of the constraints.
use Rattle.std.proofs.Common.{◌≡◌, ℕ, zero, suc, ◌+◌, Bool, true, false, nat_lt, List, [], ◌∷◌, ◌++◌, map, length, Some, None, slice_get, refl, sym, ap, ◌∙◌, subst, arith, eqb-true, length-append, inl, inr}
use Rattle.std.specs.Prelude.{◌⊎◌, ℤ, pos, if◌then◌else◌}
use Rattle.std.proofs.lemmas.Bool.{eq-eqb, ltb-true, ltb-false}
use Rattle.seq.proofs.Lists.{some_is, none_is_some, get_right, append_again, map_append}
use Rattle.arity_check.specs.declared.normal.Var.{Var}
use Rattle.arity_check.specs.declared.normal.Var.TheVariants as var
use Rattle.arity_check.specs.declared.normal.Bound.{Bound}
use Rattle.arity_check.specs.declared.normal.Flat.{Flat}
use Rattle.arity_check.specs.declared.normal.Flat.TheVariants as flat
use Rattle.arity_check.specs.declared.normal.PrimOp.{PrimOp}
use Rattle.arity_check.specs.Program.{Program, Term, App, Let, Case, Branches, NoMore, OnCon, OnInt, OnAny}
use Rattle.core_types.specs.Typing.{Typed, Types, Open, Rigid, Named, Arrow, NoTypeds, AndTyped, arrows}
use Rattle.core_types.specs.Typing as types
use Rattle.core_meaning.specs.Heap.{Value, Int, Con, Part, Delayed, Call, Apply, Prim, Global, Input, Binding, Known, Waiting, Heap, Env, with_local, with_locals}
use Rattle.core_meaning.specs.Numbers.{primitive_result}
use Rattle.core_meaning.specs.Evaluation.{State, Answer, Gives, NoAlternative, OutOfBound, and_then, with_number, is_con, fields_of, is_int, spend_of, append, update, DelayedEvaluator, nil, cons, global, params_of, params, name, names, binding, with_group, give, give_all, next_byte, parameters, force_binding, force, apply, prim, form, eval, select, enter_body, proceed, within}
use Rattle.type_meaning.specs.Judgement.{Instance, instance, IsNamed, Context, with_type, with_types, group_types, HasDefault, HasBranch, TakesAll, VarHas, VarsHave, FormHas, GroupHas, TermHas, BranchesHave, IsTyped}
use Rattle.type_meaning.specs.Heaps.{HeapTypes, KeepsNameTypes, NameHasType, NamesHaveTypes, EnvHasTypes}
use Rattle.type_meaning.specs.Heaps as heaps
use Rattle.type_meaning.proofs.Types.{instance_arrows, name_grows, names_grow, env_grows, name_itself, name_instance, names_instance, names_long, names_append, grows_append, env_local, env_locals}
use Rattle.type_meaning.proofs.Types as lemmas

arrow_from : {a b c d : Typed} → Arrow a b ≡ Arrow c d → a ≡ c
arrow_from e = cc

arrow_to : {a b c d : Typed} → Arrow a b ≡ Arrow c d → b ≡ d
arrow_to e = cc

int_is_no_arrow : {X : Type 0} {a b : Typed} → Arrow a b ≡ types.Int → X
int_is_no_arrow e = absurd cc

module _ (ConHas FunHas : ℕ → List Typed → Typed → Type 0) (p : Program) (integers : Typed)
    (typed : IsTyped ConHas FunHas p integers) where
  abbrev pub ValueHas : HeapTypes → Value → Typed → Type 0
  ValueHas = heaps.ValueHas ConHas FunHas integers

  abbrev pub DelayedHas : HeapTypes → Delayed → Typed → Type 0
  DelayedHas = heaps.DelayedHas ConHas FunHas integers

  abbrev pub BindingHas : HeapTypes → Binding → Typed → Type 0
  BindingHas = heaps.BindingHas ConHas FunHas integers

  abbrev pub BindingsHave : HeapTypes → Heap → List Typed → Type 0
  BindingsHave = heaps.BindingsHave ConHas FunHas integers

  -- a heap of these types, with the functions without parameters
  pub record Sound (H : HeapTypes) (heap : Heap) : Type 0 where
    pub bindings : BindingsHave H heap H
    pub globals : (f : ℕ) (t : Typed) → FunHas f [] t → NameHasType H (global p f) t

  abbrev pub AnswerHas : HeapTypes → Typed → Answer → Type 0
  AnswerHas H t (Gives v s) = (H' : HeapTypes) × KeepsNameTypes H H' × Sound H' s.heap
      × ValueHas H' v t
  AnswerHas H t (NoAlternative s) = ⊥
  AnswerHas H t (OutOfBound s) = Unit {0}

  pub answer_grows : (H H' : HeapTypes) (t : Typed) (a : Answer) → KeepsNameTypes H H'
      → AnswerHas H' t a → AnswerHas H t a
  answer_grows H H' t (Gives v s) g (H'', g', ok, h) = (H'', λ a u e. g' a u (g a u e), ok, h)
  answer_grows H H' t (NoAlternative s) g h = absurd h
  answer_grows H H' t (OutOfBound s) g h = tt

  pub answer_then : (H : HeapTypes) (t u : Typed) (a : Answer) (go : Value → State → Answer)
      → AnswerHas H t a
      → ((v : Value) (s : State) (H' : HeapTypes) → KeepsNameTypes H H' → Sound H' s.heap
      → ValueHas H' v t → AnswerHas H' u (go v s)) → AnswerHas H u (and_then a go)
  answer_then H t u (Gives v s) go (H', g, ok, h) k
      = answer_grows H H' u (go v s) g (k v s H' g ok h)
  answer_then H t u (NoAlternative s) go h k = absurd h
  answer_then H t u (OutOfBound s) go h k = tt

  pub gives : (H : HeapTypes) (v : Value) (s : State) (t : Typed) → Sound H s.heap → ValueHas H v t
      → AnswerHas H t (Gives v s)
  gives H v s t ok h = (H, (λ a u e. e), ok, h)

  answer_cases : (H : HeapTypes) (t : Typed) (b : Bool) (x y : Answer)
      → (b ≡ true → AnswerHas H t x) → (b ≡ false → AnswerHas H t y)
      → AnswerHas H t (elim b [ true ↦ x | false ↦ y ])
  answer_cases H t true x y f g = f refl
  answer_cases H t false x y f g = g refl

  -- a value has each instance of its type
  value_instance : (H : HeapTypes) (v : Value) (t : Typed) (ρ : Instance) → ValueHas H v t
      → ValueHas H v (instance ρ t)
  value_instance H (Int k) t ρ h = ap (instance ρ) h
  value_instance H (Con c xs) t ρ h =
      (map (instance ρ) h.0, typed.con_instances c h.0 t ρ h.1, names_instance H xs h.0 ρ h.2)
  value_instance H (Part f xs) t ρ (ts, u, us, r, fun, e, n) = (
    map (instance ρ) ts,
    instance ρ u,
    map (instance ρ) us,
    instance ρ r,
    subst (λ all. FunHas f all (instance ρ r)) (map_append (instance ρ) ts (u ∷ us))
        (typed.fun_instances f (ts ++ u ∷ us) r ρ fun),
    ap (instance ρ) e ∙ instance_arrows ρ (u ∷ us) r,
    names_instance H xs ts ρ n,
  )

  params_long : (f : ℕ) (ts : List Typed) (t : Typed) → FunHas f ts t → params p f ≡ length ts
  params_long f ts t h = let b = typed.bodies f ts t h in ap (params_of p) b.is ∙ sym b.params

  -- ---- names that are forced, and values that are given names

  abbrev pub SoundOnward : DelayedEvaluator → Type 0
  SoundOnward onward = (w : Delayed) (d : ℕ) (s : State) (H : HeapTypes) (t : Typed)
      → Sound H s.heap → DelayedHas H w t → AnswerHas H t (onward w d s)

  module _ (onward : DelayedEvaluator) (on : SoundOnward onward) where
    updated : (H : HeapTypes) (a : ℕ) (t u : Typed) (v : Value) (s : State) → slice_get H a ≡ Some t
        → Sound H s.heap → ValueHas H v t → ValueHas H v u → AnswerHas H u (Gives v (update s a v))
    updated H a t u v s e ok h k = (
      H,
      (λ a u e. e),
      record {
        bindings = lemmas.binding_set ConHas FunHas integers H s.heap H a t v ok.bindings e h;
        globals = ok.globals;
      },
      k,
    )

    forced : (b : Binding) (a d : ℕ) (s : State) (H : HeapTypes) (t : Typed) → Sound H s.heap
        → (n : NameHasType H a t) → BindingHas H b n.general
        → AnswerHas H t (force_binding p onward (Some b) a d s)
    forced (Known v) a d s H t ok n h = gives H v s t ok
        (subst (λ u. ValueHas H v u) (sym n.by) (value_instance H v n.general n.ρ h))
    forced (Waiting w) a d s H t ok n h =
        answer_then H n.general t (onward w (suc d) s) (λ v s. Gives v (update s a v))
        (on w (suc d) s H n.general ok h)
        (λ v s H' g ok h. updated H' a n.general t v s (g a n.general n.is) ok h
        (subst (λ u. ValueHas H' v u) (sym n.by) (value_instance H' v n.general n.ρ h)))

    pub forcing : (a d : ℕ) (s : State) (H : HeapTypes) (t : Typed) → Sound H s.heap
        → NameHasType H a t → AnswerHas H t (force p onward a d s)
    forcing a d s H t ok n =
        let b = lemmas.binding_at ConHas FunHas integers H s.heap H a n.general ok.bindings n.is in
        subst (λ o. AnswerHas H t (force_binding p onward o a d s)) (sym b.1)
        (forced b.0 a d s H t ok n b.2)

    giving : (v : Value) (b d : ℕ) (s : State) (H : HeapTypes) (u r : Typed) → Sound H s.heap
        → ValueHas H v (Arrow u r) → NameHasType H b u → AnswerHas H r (give p onward v b d s)
    giving (Int k) b d s H u r ok h n = int_is_no_arrow h
    giving (Con c xs) b d s H u r ok h n = absurd (typed.con_named c h.0 (Arrow u r) h.1)
    giving (Part f xs) b d s H u r ok (ts, u', us, r', fun, e, m) n
        = by_test us fun (arrow_to e) (nat_lt (suc (length xs)) (params p f)) refl
      where
        one_longer : length (ts ++ u' ∷ []) ≡ suc (length ts)
        one_longer = omega (arith, length-append ts (u' ∷ []))

        as_long : length xs ≡ length ts
        as_long = names_long H xs ts m

        all_have : NamesHaveTypes H (xs ++ b ∷ []) (ts ++ u' ∷ [])
        all_have = names_append H xs (b ∷ []) ts (u' ∷ []) m
            (subst (λ t. NameHasType H b t) (arrow_from e) n, tt)

        by_test : (us : List Typed) → FunHas f (ts ++ u' ∷ us) r' → r ≡ arrows us r' → (t : Bool)
            → nat_lt (suc (length xs)) (params p f) ≡ t
            → AnswerHas H r
            (if t then Gives (Part f (xs ++ b ∷ [])) s else onward (Call f (xs ++ b ∷ [])) d s)
        by_test [] fun q true i =
            let l = ltb-true (suc (length xs)) (params p f) i in
            let k = params_long f (ts ++ u' ∷ []) r' fun in
            absurd (omega (arith, l, k, one_longer, as_long))
        by_test [] fun q false i = on (Call f (xs ++ b ∷ [])) d s H r ok
            (ts ++ u' ∷ [], subst (λ r. FunHas f (ts ++ u' ∷ []) r) (sym q) fun, all_have)
        by_test (w ∷ us) fun q true i =
            gives H (Part f (xs ++ b ∷ [])) s r ok (
              ts ++ u' ∷ [],
              w,
              us,
              r',
              subst (λ all. FunHas f all r')
                  (sym (append_again ts (u' ∷ []) (w ∷ us))) fun,
              q,
              all_have,
            )
        by_test (w ∷ us) fun q false i =
            let l = ltb-false (suc (length xs)) (params p f) i in
            let k = params_long f (ts ++ u' ∷ w ∷ us) r' fun in
            let all = length-append ts (u' ∷ w ∷ us) in
            absurd (omega (arith, l, k, all, as_long))

    giving_all : (bs : List ℕ) (v : Value) (d : ℕ) (s : State) (H : HeapTypes) (us : List Typed)
        (r : Typed) → Sound H s.heap → ValueHas H v (arrows us r) → NamesHaveTypes H bs us
        → AnswerHas H r (give_all p onward v bs d s)
    giving_all [] v d s H [] r ok h n = gives H v s r ok h
    giving_all [] v d s H (u ∷ us) r ok h n = absurd n
    giving_all (b ∷ bs) v d s H [] r ok h n = absurd n
    giving_all (b ∷ []) v d s H (u ∷ []) r ok h n = giving v b d s H u r ok h n.0
    giving_all (b ∷ []) v d s H (u ∷ w ∷ us) r ok h n = absurd n.1
    giving_all (b ∷ c ∷ bs) v d s H (u ∷ us) r ok h n =
        answer_then H (arrows us r) r (give p onward v b (suc d) s)
        (λ w s. give_all p onward w (c ∷ bs) d s)
        (giving v b (suc d) s H u (arrows us r) ok h n.0)
        (λ w s H' g ok h. giving_all (c ∷ bs) w d s H' us r ok h
        (names_grow H H' (c ∷ bs) us g n.1))

    applying : (a : ℕ) (bs : List ℕ) (d : ℕ) (s : State) (H : HeapTypes) (us : List Typed)
        (r : Typed) → Sound H s.heap → NameHasType H a (arrows us r) → NamesHaveTypes H bs us
        → AnswerHas H r (apply p onward a bs d s)
    applying a [] d s H [] r ok h n = forcing a d s H r ok h
    applying a [] d s H (u ∷ us) r ok h n = absurd n
    applying a (b ∷ bs) d s H us r ok h n =
        answer_then H (arrows us r) r (force p onward a (suc d) s)
        (λ v s. give_all p onward v (b ∷ bs) d s) (forcing a (suc d) s H (arrows us r) ok h)
        (λ v s H' g ok h. giving_all (b ∷ bs) v d s H' us r ok h (names_grow H H' (b ∷ bs) us g n))

    with_int : (H : HeapTypes) (v : Value) (s : State) (t : Typed) (go : ℤ → Answer)
        → ValueHas H v types.Int → ((k : ℤ) → AnswerHas H t (go k))
        → AnswerHas H t (with_number v s go)
    with_int H (Int k) s t go h f = f k
    with_int H (Con c xs) s t go h f = absurd (typed.con_named c h.0 types.Int h.1)
    with_int H (Part f xs) s t go (ts, u, us, r, fun, e, n) g = int_is_no_arrow (sym e)

    operating : (op : PrimOp) (a b d : ℕ) (s : State) (H : HeapTypes) (t : Typed) → Sound H s.heap
        → t ≡ types.Int → NameHasType H a types.Int → NameHasType H b types.Int
        → AnswerHas H t (prim p onward op a b d s)
    operating op a b d s H t ok e m n =
        answer_then H types.Int t (force p onward a (suc d) s) _
        (forcing a (suc d) s H types.Int ok m) (λ v s H' g ok h. with_int H' v s t _ h (λ i.
        answer_then H' types.Int t (force p onward b (suc d) s) _
        (forcing b (suc d) s H' types.Int ok (name_grows H H' b types.Int g n))
        (λ w s H'' g ok h. with_int H'' w s t _ h (λ j.
        gives H'' (Int (primitive_result op i j)) s t ok e))))

    -- ---- forms and bindings

    module _ (H : HeapTypes)
        (globals : (f : ℕ) (t : Typed) → FunHas f [] t → NameHasType H (global p f) t) (Γ : Context)
        (env : Env) (k : EnvHasTypes H Γ env) where
      name_has : (x : Var) (t : Typed) → VarHas ConHas FunHas Γ x t → NameHasType H (name p env x) t
      name_has (var.Local x) t h = k x t h
      name_has (var.Global f) t h = globals f t h

      names_have : (xs : List Var) (ts : List Typed) → VarsHave ConHas FunHas Γ xs ts
          → NamesHaveTypes H (names p env xs) ts
      names_have [] [] h = tt
      names_have [] (t ∷ ts) h = absurd h
      names_have (x ∷ xs) [] h = absurd h
      names_have (x ∷ xs) (t ∷ ts) h = (name_has x t h.0, names_have xs ts h.1)

      binding_has : (f : Flat) (t : Typed) → FormHas ConHas FunHas Γ f t
          → BindingHas H (binding p env f) t
      binding_has (flat.Int i) t h = h
      binding_has (flat.Con c xs) t h = (h.0, h.1, names_have xs h.0 h.2)
      binding_has (flat.Part f xs) t (ts, u, us, r, fun, e, n)
          = (ts, u, us, r, fun, e, names_have xs ts n)
      binding_has (flat.Call f xs) t h = (h.0, h.1, names_have xs h.0 h.2)
      binding_has (flat.Apply x xs) t h =
          (h.0, name_has x (arrows h.0 t) h.1, names_have xs h.0 h.2)
      binding_has (flat.Prim op x y) t h = (h.0, name_has x types.Int h.1, name_has y types.Int h.2)

      group_has : (group : List Bound) (ts : List Typed) → GroupHas ConHas FunHas Γ group ts
          → BindingsHave H (map (λ b. binding p env b.flat) group) ts
      group_has [] [] h = tt
      group_has [] (t ∷ ts) h = absurd h
      group_has (b ∷ group) [] h = absurd h
      group_has (b ∷ group) (t ∷ ts) h = (binding_has b.flat t h.0, group_has group ts h.1)

    forming : (f : Flat) (Γ : Context) (env : Env) (d : ℕ) (s : State) (H : HeapTypes) (t : Typed)
        → Sound H s.heap → EnvHasTypes H Γ env → FormHas ConHas FunHas Γ f t
        → AnswerHas H t (form p onward env f d s)
    forming (flat.Int i) Γ env d s H t ok k h = gives H (Int i) s t ok h
    forming (flat.Con c xs) Γ env d s H t ok k h = gives H (Con c (names p env xs)) s t ok
        (binding_has H ok.globals Γ env k (flat.Con c xs) t h)
    forming (flat.Part f xs) Γ env d s H t ok k h = gives H (Part f (names p env xs)) s t ok
        (binding_has H ok.globals Γ env k (flat.Part f xs) t h)
    forming (flat.Call f xs) Γ env d s H t ok k h = on (Call f (names p env xs)) d s H t ok
        (binding_has H ok.globals Γ env k (flat.Call f xs) t h)
    forming (flat.Apply x xs) Γ env d s H t ok k h =
        applying (name p env x) (names p env xs) d s H h.0 t ok
        (name_has H ok.globals Γ env k x (arrows h.0 t) h.1)
        (names_have H ok.globals Γ env k xs h.0 h.2)
    forming (flat.Prim op x y) Γ env d s H t ok k h =
        operating op (name p env x) (name p env y) d s H t ok h.0
        (name_has H ok.globals Γ env k x types.Int h.1)
        (name_has H ok.globals Γ env k y types.Int h.2)

    -- ---- groups

    env_group : (Δ : Context) (group : List Bound) (ts : List Typed) (H : HeapTypes) (Γ : Context)
        (env : Env) (a : ℕ) → GroupHas ConHas FunHas Δ group ts
        → ((i : ℕ) (t : Typed) → slice_get ts i ≡ Some t → slice_get H (a + i) ≡ Some t)
        → EnvHasTypes H Γ env → EnvHasTypes H (group_types Γ group ts)
        (with_group p env group a)
    env_group Δ [] ts H Γ env a h at k = k
    env_group Δ (b ∷ group) [] H Γ env a h at k = absurd h
    env_group Δ (b ∷ group) (t ∷ ts) H Γ env a h at k =
        let z : a + 0 ≡ a = omega arith in
        env_group Δ group ts H (with_type Γ b.local t) (with_local env b.local a) (suc a) h.1
        (λ i u e. let q : a + suc i ≡ suc a + i = omega arith
        in subst (λ n. slice_get H n ≡ Some u) q (at (suc i) u e))
        (env_local H Γ env b.local a t
        (name_itself H a t (subst (λ n. slice_get H n ≡ Some t) z (at 0 t refl))) k)

    pub sound_append : (H more : HeapTypes) (heap bs : Heap) → Sound H heap
        → BindingsHave (H ++ more) bs more → Sound (H ++ more) (heap ++ bs)
    sound_append H more heap bs ok h = record {
      bindings = lemmas.bindings_append ConHas FunHas integers (H ++ more) heap bs H more
          (lemmas.bindings_grow ConHas FunHas integers H (H ++ more) heap H (grows_append H more)
          ok.bindings) h;
      globals = λ f t i. name_grows H (H ++ more) (global p f) t (grows_append H more)
          (ok.globals f t i);
    }

    heap_long : (H : HeapTypes) (heap : Heap) → Sound H heap → length heap ≡ length H
    heap_long H heap ok = lemmas.bindings_long ConHas FunHas integers H heap H ok.bindings

    -- the names behind those of a heap
    pub behind : (H more : HeapTypes) (heap : Heap) (i : ℕ) (t : Typed) → Sound H heap
        → slice_get more i ≡ Some t → slice_get (H ++ more) (length heap + i) ≡ Some t
    behind H more heap i t ok e = subst (λ n. slice_get (H ++ more) (n + i) ≡ Some t)
        (sym (heap_long H heap ok)) (get_right H more i t e)

    -- ---- values that a case takes

    abbrev Takes : Value → Branches → Type 0
    Takes (Int k) branches = HasDefault branches
    Takes (Con c xs) branches = HasDefault branches ⊎ HasBranch c branches
    Takes (Part f xs) branches = HasDefault branches

    takes : (H : HeapTypes) (v : Value) (u : Typed) (branches : Branches) → ValueHas H v u
        → TakesAll ConHas FunHas u branches → Takes v branches
    takes H (Int k) u branches h (inl t) = t
    takes H (Int k) u branches h (inr t) = absurd (subst IsNamed h t.0)
    takes H (Con c xs) u branches h (inl t) = inl t
    takes H (Con c xs) u branches h (inr t) = inr (t.1 c h.0 h.1)
    takes H (Part f xs) u branches h (inl t) = t
    takes H (Part f xs) u branches (ts, w, us, r, fun, e, n) (inr t) = absurd (subst IsNamed e t.0)

    takes_after_con : (v : Value) (c : ℕ) (xs : List ℕ) (e : Term) (rest : Branches)
        → is_con c v ≡ false → Takes v (OnCon c xs e rest) → Takes v rest
    takes_after_con (Int k) c xs e rest q t = t
    takes_after_con (Con d ys) c xs e rest q (inl t) = inl t
    takes_after_con (Con d ys) c xs e rest q (inr (inl z)) = let t : true ≡ false
        = sym (eq-eqb d c z) ∙ q in absurd cc
    takes_after_con (Con d ys) c xs e rest q (inr (inr t)) = inr t
    takes_after_con (Part f ys) c xs e rest q t = t

    takes_after_int : (v : Value) (k : ℤ) (e : Term) (rest : Branches) → Takes v (OnInt k e rest)
        → Takes v rest
    takes_after_int (Int i) k e rest t = t
    takes_after_int (Con d ys) k e rest t = t
    takes_after_int (Part f ys) k e rest t = t

    takes_none : (v : Value) → Takes v NoMore → ⊥
    takes_none (Int k) t = t
    takes_none (Con c xs) (inl t) = t
    takes_none (Con c xs) (inr t) = t
    takes_none (Part f xs) t = t

    -- the fields of a value that a branch accepts
    fields_have : (H : HeapTypes) (c : ℕ) (v : Value) (ts : List Typed) (u : Typed)
        → is_con c v ≡ true → ValueHas H v u → ConHas c ts u → NamesHaveTypes H (fields_of v) ts
    fields_have H c (Int k) ts u e h i = absurd cc
    fields_have H c (Part f xs) ts u e h i = absurd cc
    fields_have H c (Con d xs) ts u e h i =
        let same : d ≡ c = eqb-true d c e in
        subst (λ ts. NamesHaveTypes H xs ts)
        (typed.con_fields c h.0 ts u (subst (λ c. ConHas c h.0 u) same h.1) i) h.2

    -- ---- expressions

    mutual
      pub evaluating : (e : Term) (Γ : Context) (env : Env) (d : ℕ) (s : State) (H : HeapTypes)
          (t : Typed) → Sound H s.heap → EnvHasTypes H Γ env → TermHas ConHas FunHas Γ e t
          → AnswerHas H t (eval p onward e env d s)
      evaluating (App f) Γ env d s H t ok k h = forming f Γ env d s H t ok k h
      evaluating (Let group body) Γ env d s H t ok k (ts, g, h) =
          let Δ : Context = group_types Γ group ts in
          let new : Env = with_group p env group (length s.heap) in
          let H' : HeapTypes = H ++ ts in
          let grows : KeepsNameTypes H H' = grows_append H ts in
          let k' : EnvHasTypes H' Δ new = env_group Δ group ts H' Γ env (length s.heap) g
          (λ i u e. behind H ts s.heap i u ok e) (env_grows H H' Γ env grows k) in
          let more : Heap = map (λ b. binding p new b.flat) group in
          let globals : (f : ℕ) (t : Typed) → FunHas f [] t → NameHasType H' (global p f) t
          = λ f t i. name_grows H H' (global p f) t grows (ok.globals f t i) in
          let ok' : Sound H' (s.heap ++ more) = sound_append H ts s.heap more ok
          (group_has H' globals Δ new k' group ts g) in
          answer_grows H H' t (eval p onward body new d (append s more)) grows
          (evaluating body Δ new d (append s more) H' t ok' k' h)
      evaluating (Case tested branches) Γ env d s H t ok k (u, h, all, bs) =
          answer_then H u t (eval p onward tested env (suc d) s)
          (λ v s. select p onward branches v env d s)
          (evaluating tested Γ env (suc d) s H u ok k h)
          (λ v s H' g ok h. selecting branches v Γ env d s H' u t ok (env_grows H H' Γ env g k) h
          (takes H' v u branches h all) bs)

      selecting : (bs : Branches) (v : Value) (Γ : Context) (env : Env) (d : ℕ) (s : State)
          (H : HeapTypes) (u t : Typed) → Sound H s.heap → EnvHasTypes H Γ env → ValueHas H v u
          → Takes v bs
          → BranchesHave ConHas FunHas Γ u bs t → AnswerHas H t (select p onward bs v env d s)
      selecting NoMore v Γ env d s H u t ok k h a b = absurd (takes_none v a)
      selecting (OnCon c xs body rest) v Γ env d s H u t ok k h a (ts, con, b, r) =
          answer_cases H t (is_con c v) _ _
          (λ e. evaluating body (with_types Γ xs ts) (with_locals env xs (fields_of v)) d s H t ok
          (env_locals H Γ env xs (fields_of v) ts (fields_have H c v ts u e h con) k) b)
          (λ e. selecting rest v Γ env d s H u t ok k h (takes_after_con v c xs body rest e a) r)
      selecting (OnInt i body rest) v Γ env d s H u t ok k h a (b, r) =
          answer_cases H t (is_int i v) _ _ (λ e. evaluating body Γ env d s H t ok k b)
          (λ e. selecting rest v Γ env d s H u t ok k h (takes_after_int v i body rest a) r)
      selecting (OnAny None body rest) v Γ env d s H u t ok k h a (b, r)
          = evaluating body Γ env d s H t ok k b
      selecting (OnAny (Some x) body rest) v Γ env d s H u t ok k h a (b, r) =
          let H' : HeapTypes = H ++ u ∷ [] in
          let grows : KeepsNameTypes H H' = grows_append H (u ∷ []) in
          let ok' : Sound H' (s.heap ++ Known v ∷ [])
          = sound_append H (u ∷ []) s.heap (Known v ∷ []) ok
          (lemmas.value_grows ConHas FunHas integers H H' v u grows h, tt) in
          let z : length s.heap + 0 ≡ length s.heap = omega arith in
          let n : NameHasType H' (length s.heap) u = name_itself H' (length s.heap) u
          (subst (λ n. slice_get H' n ≡ Some u) z (behind H (u ∷ []) s.heap 0 u ok refl)) in
          answer_grows H H' t
          (eval p onward body (with_local env x (length s.heap)) d (append s (Known v ∷ [])))
          grows
          (evaluating body (with_type Γ x u) (with_local env x (length s.heap)) d
          (append s (Known v ∷ [])) H' t ok'
          (env_local H' Γ env x (length s.heap) u n (env_grows H H' Γ env grows k)) b)

    -- ---- functions

    arguments : (H : HeapTypes) (xs : List ℕ) (ts : List Typed) → NamesHaveTypes H xs ts
        → EnvHasTypes H (slice_get ts) (parameters xs)
    arguments H xs [] h x t e = none_is_some e
    arguments H [] (u ∷ ts) h x t e = absurd h
    arguments H (a ∷ xs) (u ∷ ts) h zero t e = subst (λ t. NameHasType H a t) (some_is e) h.0
    arguments H (a ∷ xs) (u ∷ ts) h (suc x) t e = arguments H xs ts h.1 x t e

    entering : (f : ℕ) (xs : List ℕ) (d : ℕ) (s : State) (H : HeapTypes) (ts : List Typed)
        (t : Typed) → Sound H s.heap → FunHas f ts t → NamesHaveTypes H xs ts
        → AnswerHas H t (enter_body p onward (slice_get p.funs f) xs d s)
    entering f xs d s H ts t ok h n =
        let b = typed.bodies f ts t h in
        subst (λ o. AnswerHas H t (enter_body p onward o xs d s)) (sym b.is)
        (evaluating b.function.body (slice_get ts) (parameters xs) d s H t ok
        (arguments H xs ts n) b.body)

    next : (i : List ℕ) (s : State) (H : HeapTypes) (t : Typed) → Sound H s.heap → t ≡ integers
        → AnswerHas H t (next_byte p onward i s)
    next [] s H t ok e = gives H (Con (nil p) []) s t ok
        ([], subst (λ t. ConHas (nil p) [] t) (sym e) typed.nil_has, tt)
    next (k ∷ rest) s H t ok e =
        let m : ℕ = length s.heap in
        let two : List Typed = types.Int ∷ integers ∷ [] in
        let z : m + 0 ≡ m = omega arith in
        let o : m + 1 ≡ suc m = omega arith in
        let head : NameHasType (H ++ two) m types.Int
        = name_itself (H ++ two) m types.Int
        (subst (λ n. slice_get (H ++ two) n ≡ Some types.Int) z
        (behind H two s.heap 0 types.Int ok refl)) in
        let tail : NameHasType (H ++ two) (suc m) integers
        = name_itself (H ++ two) (suc m) integers
        (subst (λ n. slice_get (H ++ two) n ≡ Some integers) o
        (behind H two s.heap 1 integers ok refl)) in (
          H ++ two,
          grows_append H two,
          sound_append H two s.heap
              (Known (Int (pos k)) ∷ Waiting Input ∷ []) ok (refl, (refl, tt)),
          (two, subst (λ t. ConHas (cons p) two t) (sym e) typed.cons_has, (head, (tail, tt))),
        )

    pub proceeding : (w : Delayed) (d : ℕ) (s : State) (H : HeapTypes) (t : Typed) → Sound H s.heap
        → DelayedHas H w t → AnswerHas H t (proceed p onward w d s)
    proceeding (Call f xs) d s H t ok h = entering f xs d s H h.0 t ok h.1 h.2
    proceeding (Global f) d s H t ok h = entering f [] d s H [] t ok h tt
    proceeding (Apply a bs) d s H t ok h = applying a bs d s H h.0 t ok h.1 h.2
    proceeding (Prim op a b) d s H t ok h = operating op a b d s H t ok h.0 h.1 h.2
    proceeding Input d s H t ok h = next s.input s H t ok h

  pub spending : (n d : ℕ) (s : State) (H : HeapTypes) (t : Typed) (go : State → Answer)
      → ((s' : State) → s'.heap ≡ s.heap → AnswerHas H t (go s'))
      → AnswerHas H t (spend_of n d s go)
  spending zero d s H t go f = tt
  spending (suc n) d s H t go f = f _ refl

  -- evaluation keeps types, whatever bounds it
  pub sound_within : (n : ℕ) → SoundOnward (within p n)
  sound_within zero w d s H t ok h = tt
  sound_within (suc n) w d s H t ok h =
      spending s.left d s H t _
      (λ s' e. proceeding (within p n) (sound_within n) w d s' H t
      (subst (λ heap. Sound H heap) (sym e) ok) h)
