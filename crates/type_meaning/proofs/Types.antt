-- Heaps with types: what grows, what names and values have.
use Rattle.std.proofs.Common.{◌≡◌, ℕ, zero, suc, Bool, true, false, cond, nat_eq, List, [], ◌∷◌, ◌++◌, map, length, Some, slice_get, refl, sym, ap, ◌∙◌, subst}
use Rattle.std.specs.Prelude.{slice_set}
use Rattle.seq.proofs.Lists.{some_is, none_is_some, get_left}
use Rattle.core_types.specs.Typing.{Typed, Types, Open, Rigid, Named, Arrow, NoTypeds, AndTyped, arrows}
use Rattle.core_types.specs.Typing as types
use Rattle.core_meaning.specs.Heap.{Value, Int, Con, Part, Call, Apply, Prim, Global, Input, Binding, Known, Waiting, Heap, Env, with_local, with_locals}
use Rattle.type_meaning.specs.Judgement.{Instance, instance, instances, Context, with_type, with_types}
use Rattle.type_meaning.specs.Heaps.{HeapTypes, KeepsNameTypes, NameHasType, NamesHaveTypes, EnvHasTypes, ValueHas, BindingHas, BindingsHave}

-- ---- instances

-- one after the other
abbrev pub after : Instance → Instance → Instance
after ρ' ρ f n = instance ρ' (ρ f n)

mutual
  pub instance_after : (ρ' ρ : Instance) (t : Typed)
      → instance ρ' (instance ρ t) ≡ instance (after ρ' ρ) t
  instance_after ρ' ρ types.Int = refl
  instance_after ρ' ρ (Open k) = refl
  instance_after ρ' ρ (Rigid f n) = refl
  instance_after ρ' ρ (Named n args) = ap (λ ts. Named n ts) (instances_after ρ' ρ args)
  instance_after ρ' ρ (Arrow from to) = λ i. Arrow (instance_after ρ' ρ from i)
      (instance_after ρ' ρ to i)

  instances_after : (ρ' ρ : Instance) (ts : Types) → instances ρ' (instances ρ ts) ≡ instances
      (after ρ' ρ) ts
  instances_after ρ' ρ NoTypeds = refl
  instances_after ρ' ρ (AndTyped t ts) = λ i. AndTyped (instance_after ρ' ρ t i)
      (instances_after ρ' ρ ts i)

mutual
  pub instance_same : (t : Typed) → instance Rigid t ≡ t
  instance_same types.Int = refl
  instance_same (Open k) = refl
  instance_same (Rigid f n) = refl
  instance_same (Named n args) = ap (λ ts. Named n ts) (instances_same args)
  instance_same (Arrow from to) = λ i. Arrow (instance_same from i) (instance_same to i)

  instances_same : (ts : Types) → instances Rigid ts ≡ ts
  instances_same NoTypeds = refl
  instances_same (AndTyped t ts) = λ i. AndTyped (instance_same t i) (instances_same ts i)

pub instance_arrows : (ρ : Instance) (ts : List Typed) (t : Typed)
    → instance ρ (arrows ts t) ≡ arrows (map (instance ρ) ts) (instance ρ t)
instance_arrows ρ [] t = refl
instance_arrows ρ (u ∷ us) t = ap (λ r. Arrow (instance ρ u) r) (instance_arrows ρ us t)

-- ---- names

pub name_grows : (H H' : HeapTypes) (a : ℕ) (t : Typed) → KeepsNameTypes H H' → NameHasType H a t
    → NameHasType H' a t
name_grows H H' a t g h = record
    { general = h.general; is = g a h.general h.is; ρ = h.ρ; by = h.by }

pub names_grow : (H H' : HeapTypes) (as' : List ℕ) (ts : List Typed) → KeepsNameTypes H H'
    → NamesHaveTypes H as' ts → NamesHaveTypes H' as' ts
names_grow H H' [] [] g h = tt
names_grow H H' [] (t ∷ ts) g h = absurd h
names_grow H H' (a ∷ as') [] g h = absurd h
names_grow H H' (a ∷ as') (t ∷ ts) g h = (name_grows H H' a t g h.0, names_grow H H' as' ts g h.1)

pub env_grows : (H H' : HeapTypes) (Γ : Context) (env : Env) → KeepsNameTypes H H'
    → EnvHasTypes H Γ env → EnvHasTypes H' Γ env
env_grows H H' Γ env g h x t e = name_grows H H' (env x) t g (h x t e)

pub name_itself : (H : HeapTypes) (a : ℕ) (t : Typed) → slice_get H a ≡ Some t → NameHasType H a t
name_itself H a t e = record { general = t; is = e; ρ = Rigid; by = sym (instance_same t) }

pub name_instance : (H : HeapTypes) (a : ℕ) (t : Typed) (ρ : Instance) → NameHasType H a t
    → NameHasType H a (instance ρ t)
name_instance H a t ρ h = record {
  general = h.general;
  is = h.is;
  ρ = after ρ h.ρ;
  by
      = ap (instance ρ) h.by ∙ instance_after ρ h.ρ h.general;
}

pub names_instance : (H : HeapTypes) (as' : List ℕ) (ts : List Typed) (ρ : Instance)
    → NamesHaveTypes H as' ts → NamesHaveTypes H as' (map (instance ρ) ts)
names_instance H [] [] ρ h = tt
names_instance H [] (t ∷ ts) ρ h = absurd h
names_instance H (a ∷ as') [] ρ h = absurd h
names_instance H (a ∷ as') (t ∷ ts) ρ h = (name_instance H a t ρ h.0, names_instance H as' ts ρ h.1)

pub names_long : (H : HeapTypes) (as' : List ℕ) (ts : List Typed) → NamesHaveTypes H as' ts
    → length as' ≡ length ts
names_long H [] [] h = refl
names_long H [] (t ∷ ts) h = absurd h
names_long H (a ∷ as') [] h = absurd h
names_long H (a ∷ as') (t ∷ ts) h = ap suc (names_long H as' ts h.1)

pub names_append : (H : HeapTypes) (as' bs : List ℕ) (ts us : List Typed) → NamesHaveTypes H as' ts
    → NamesHaveTypes H bs us → NamesHaveTypes H (as' ++ bs) (ts ++ us)
names_append H [] bs [] us h k = k
names_append H [] bs (t ∷ ts) us h k = absurd h
names_append H (a ∷ as') bs [] us h k = absurd h
names_append H (a ∷ as') bs (t ∷ ts) us h k = (h.0, names_append H as' bs ts us h.1 k)

pub grows_append : (H more : HeapTypes) → KeepsNameTypes H (H ++ more)
grows_append H more a t e = get_left H more a t e

-- ---- environments

pub env_local : (H : HeapTypes) (Γ : Context) (env : Env) (x a : ℕ) (t : Typed) → NameHasType H a t
    → EnvHasTypes H Γ env → EnvHasTypes H (with_type Γ x t) (with_local env x a)
env_local H Γ env x a t n h y u e = by_test (nat_eq y x) e
  where
    by_test : (b : Bool) → cond b (Some t) (Γ y) ≡ Some u → NameHasType H (cond b a (env y)) u
    by_test true e = subst (λ t. NameHasType H a t) (some_is e) n
    by_test false e = h y u e

pub env_locals : (H : HeapTypes) (Γ : Context) (env : Env) (xs as' : List ℕ) (ts : List Typed)
    → NamesHaveTypes H as' ts → EnvHasTypes H Γ env
    → EnvHasTypes H (with_types Γ xs ts) (with_locals env xs as')
env_locals H Γ env [] as' ts n h = h
env_locals H Γ env (x ∷ xs) [] [] n h = h
env_locals H Γ env (x ∷ xs) [] (t ∷ ts) n h = absurd n
env_locals H Γ env (x ∷ xs) (a ∷ as') [] n h = absurd n
env_locals H Γ env (x ∷ xs) (a ∷ as') (t ∷ ts) n h =
    env_locals H (with_type Γ x t) (with_local env x a) xs as' ts n.1
    (env_local H Γ env x a t n.0 h)

module _ (ConHas FunHas : ℕ → List Typed → Typed → Type 0) (integers : Typed) where
  -- ---- values and bindings

  pub value_grows : (H H' : HeapTypes) (v : Value) (t : Typed) → KeepsNameTypes H H'
      → ValueHas ConHas FunHas integers H v t → ValueHas ConHas FunHas integers H' v t
  value_grows H H' (Int k) t g h = h
  value_grows H H' (Con c xs) t g h = (h.0, h.1, names_grow H H' xs h.0 g h.2)
  value_grows H H' (Part f xs) t g (ts, u, us, r, fun, e, n)
      = (ts, u, us, r, fun, e, names_grow H H' xs ts g n)

  pub binding_grows : (H H' : HeapTypes) (b : Binding) (t : Typed) → KeepsNameTypes H H'
      → BindingHas ConHas FunHas integers H b t → BindingHas ConHas FunHas integers H' b t
  binding_grows H H' (Known v) t g h = value_grows H H' v t g h
  binding_grows H H' (Waiting (Call f xs)) t g h = (h.0, h.1, names_grow H H' xs h.0 g h.2)
  binding_grows H H' (Waiting (Apply a xs)) t g h =
      (h.0, name_grows H H' a (arrows h.0 t) g h.1, names_grow H H' xs h.0 g h.2)
  binding_grows H H' (Waiting (Prim op a b)) t g h =
      (h.0, name_grows H H' a types.Int g h.1, name_grows H H' b types.Int g h.2)
  binding_grows H H' (Waiting (Global f)) t g h = h
  binding_grows H H' (Waiting Input) t g h = h

  pub bindings_grow : (H H' : HeapTypes) (bs : Heap) (ts : List Typed) → KeepsNameTypes H H'
      → BindingsHave ConHas FunHas integers H bs ts → BindingsHave ConHas FunHas integers H' bs ts
  bindings_grow H H' [] [] g h = tt
  bindings_grow H H' [] (t ∷ ts) g h = absurd h
  bindings_grow H H' (b ∷ bs) [] g h = absurd h
  bindings_grow H H' (b ∷ bs) (t ∷ ts) g h =
      (binding_grows H H' b t g h.0, bindings_grow H H' bs ts g h.1)

  pub bindings_long : (H : HeapTypes) (bs : Heap) (ts : List Typed)
      → BindingsHave ConHas FunHas integers H bs ts → length bs ≡ length ts
  bindings_long H [] [] h = refl
  bindings_long H [] (t ∷ ts) h = absurd h
  bindings_long H (b ∷ bs) [] h = absurd h
  bindings_long H (b ∷ bs) (t ∷ ts) h = ap suc (bindings_long H bs ts h.1)

  pub bindings_append : (H : HeapTypes) (bs cs : Heap) (ts us : List Typed)
      → BindingsHave ConHas FunHas integers H bs ts → BindingsHave ConHas FunHas integers H cs us
      → BindingsHave ConHas FunHas integers H (bs ++ cs) (ts ++ us)
  bindings_append H [] cs [] us h k = k
  bindings_append H [] cs (t ∷ ts) us h k = absurd h
  bindings_append H (b ∷ bs) cs [] us h k = absurd h
  bindings_append H (b ∷ bs) cs (t ∷ ts) us h k = (h.0, bindings_append H bs cs ts us h.1 k)

  -- the binding of a name that has a type
  pub binding_at : (H : HeapTypes) (bs : Heap) (ts : List Typed) (a : ℕ) (t : Typed)
      → BindingsHave ConHas FunHas integers H bs ts → slice_get ts a ≡ Some t
      → (b : Binding) × (slice_get bs a ≡ Some b) × BindingHas ConHas FunHas integers H b t
  binding_at H bs [] a t h e = none_is_some e
  binding_at H [] (u ∷ ts) a t h e = absurd h
  binding_at H (b ∷ bs) (u ∷ ts) zero t h e =
      (b, refl, subst (λ t. BindingHas ConHas FunHas integers H b t) (some_is e) h.0)
  binding_at H (b ∷ bs) (u ∷ ts) (suc a) t h e = binding_at H bs ts a t h.1 e

  pub binding_set : (H : HeapTypes) (bs : Heap) (ts : List Typed) (a : ℕ) (t : Typed) (v : Value)
      → BindingsHave ConHas FunHas integers H bs ts → slice_get ts a ≡ Some t
      → ValueHas ConHas FunHas integers H v t → BindingsHave ConHas FunHas integers H
      (slice_set bs a (Known v)) ts
  binding_set H bs [] a t v h e k = none_is_some e
  binding_set H [] (u ∷ ts) a t v h e k = absurd h
  binding_set H (b ∷ bs) (u ∷ ts) zero t v h e k =
      (subst (λ t. ValueHas ConHas FunHas integers H v t) (sym (some_is e)) k, h.1)
  binding_set H (b ∷ bs) (u ∷ ts) (suc a) t v h e k = (h.0, binding_set H bs ts a t v h.1 e k)
