-- The types of a heap: each name has one, and with it all instances.
use Rattle.std.specs.Prelude.{◌≡◌, ℕ, List, [], ◌∷◌, ◌++◌, Some, slice_get}
use Rattle.core_types.specs.Typing.{Typed, Arrow, arrows}
use Rattle.core_types.specs.Typing as types
use Rattle.core_meaning.specs.Heap.{Value, Int, Con, Part, Delayed, Call, Apply, Prim, Global, Input, Binding, Known, Waiting, Heap, Env}
use Rattle.type_meaning.specs.Judgement.{Instance, instance, Context}

-- the type of each name
abbrev pub HeapTypes : Type 0
HeapTypes = List Typed

-- names keep their types
abbrev pub KeepsNameTypes : HeapTypes → HeapTypes → Type 0
KeepsNameTypes H H' = (a : ℕ) (t : Typed) → slice_get H a ≡ Some t → slice_get H' a ≡ Some t

pub record NameHasType (H : HeapTypes) (a : ℕ) (t : Typed) : Type 0 where
  pub general : Typed
  pub is : slice_get H a ≡ Some general
  pub ρ : Instance
  pub by : t ≡ instance ρ general

abbrev pub NamesHaveTypes : HeapTypes → List ℕ → List Typed → Type 0
NamesHaveTypes H [] [] = Unit {0}
NamesHaveTypes H [] (t ∷ ts) = ⊥
NamesHaveTypes H (a ∷ as') [] = ⊥
NamesHaveTypes H (a ∷ as') (t ∷ ts) = NameHasType H a t × NamesHaveTypes H as' ts

abbrev pub EnvHasTypes : HeapTypes → Context → Env → Type 0
EnvHasTypes H Γ env = (x : ℕ) (t : Typed) → Γ x ≡ Some t → NameHasType H (env x) t

module _ (ConHas FunHas : ℕ → List Typed → Typed → Type 0) (integers : Typed) where
  abbrev pub ValueHas : HeapTypes → Value → Typed → Type 0
  ValueHas H (Int k) t = t ≡ types.Int
  ValueHas H (Con c xs) t = (ts : List Typed) × ConHas c ts t × NamesHaveTypes H xs ts
  ValueHas H (Part f xs) t =
      (ts : List Typed) × (u : Typed) × (us : List Typed) × (r : Typed)
      × FunHas f (ts ++ u ∷ us) r × (t ≡ arrows (u ∷ us) r) × NamesHaveTypes H xs ts

  abbrev pub DelayedHas : HeapTypes → Delayed → Typed → Type 0
  DelayedHas H (Call f xs) t = (ts : List Typed) × FunHas f ts t × NamesHaveTypes H xs ts
  DelayedHas H (Apply a xs) t =
      (ts : List Typed) × NameHasType H a (arrows ts t) × NamesHaveTypes H xs ts
  DelayedHas H (Prim op a b) t =
      (t ≡ types.Int) × NameHasType H a types.Int × NameHasType H b types.Int
  DelayedHas H (Global f) t = FunHas f [] t
  DelayedHas H Input t = t ≡ integers

  abbrev pub BindingHas : HeapTypes → Binding → Typed → Type 0
  BindingHas H (Known v) t = ValueHas H v t
  BindingHas H (Waiting d) t = DelayedHas H d t

  abbrev pub BindingsHave : HeapTypes → Heap → List Typed → Type 0
  BindingsHave H [] [] = Unit {0}
  BindingsHave H [] (t ∷ ts) = ⊥
  BindingsHave H (b ∷ bs) [] = ⊥
  BindingsHave H (b ∷ bs) (t ∷ ts) = BindingHas H b t × BindingsHave H bs ts
