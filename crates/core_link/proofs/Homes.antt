-- The text of the name of each function that is known in a module.
use Rattle.std.proofs.Common.{◌≡◌, ℕ, zero, suc, ◌+◌, ◌<◌, ◌-◌, List, [], ◌∷◌, ◌++◌, length, map, refl, sym, ap, ◌∙◌, arith, Some, ◌⊎◌, inl, inr}
use Rattle.std.specs.Prelude.{◌==◌, nat_lt, codes, slice_get, if◌then◌else◌}
use Rattle.std.proofs.lemmas.Bool.{eqb-true, ltb-true, lt-ltb}
use Rattle.seq.proofs.Truth.{two_ways}
use Rattle.seq.proofs.Lists.{get_left, get_right, map_get, get_within}
use Rattle.core_reader.specs.declared.syntax.Binder.{Binder}
use Rattle.core_reader.specs.Tree.{Function, Program}
use Rattle.arity_check.specs.declared.meaning.Meaning.{Meaning}
use Rattle.arity_check.specs.declared.meaning.Meaning.TheVariants as stands
use Rattle.arity_check.specs.Scope.{Scope, means, is_named, primitives, primitive_from, function_from, found_in, unless_primitive}
use Rattle.core_link.specs.Module.{Module, text_in, name_of, seen, imported_functions, as_function}
use Rattle.core_link.specs.Union.{global_text, home_module, import_home}
use Rattle.core_link.specs.Renaming.{declared_texts, imported_text, function_texts}

-- ---- parts of lists

record GetRight {X : Type 0} (xs ys : List X) (i : ℕ) (y : X) : Type 0 where
  place : ℕ
  sum : i ≡ length xs + place
  is : slice_get ys place ≡ Some y

get_split : {X : Type 0} (xs ys : List X) (i : ℕ) (y : X) → slice_get (xs ++ ys) i ≡ Some y
    → (slice_get xs i ≡ Some y) ⊎ GetRight xs ys i y
get_split [] ys i y e = inr (record { place = i; sum = omega arith; is = e })
get_split (x ∷ xs) ys zero y e = inl e
get_split (x ∷ xs) ys (suc i) y e = elim (get_split xs ys i y e) [
  | inl l ↦ inl l
  | inr r ↦ inr (record { place = r.place; sum = omega (arith, r.sum); is = r.is })
]

pub map_back : {X Y : Type 0} (f : X → Y) (xs : List X) (i : ℕ) (y : Y)
    → slice_get (map f xs) i ≡ Some y → (x : X) × (slice_get xs i ≡ Some x) × (f x ≡ y)
map_back f [] i y e = absurd cc
map_back f (x ∷ xs) zero y e = (x, refl, some_same e)
  where
    some_same : Some (f x) ≡ Some y → f x ≡ y
    some_same e = cc
map_back f (x ∷ xs) (suc i) y e = map_back f xs i y e

-- ---- the function that a name stands for

record FunctionAt (fs : List Function) (i g x : ℕ) : Type 0 where
  place : ℕ
  function : Function
  sum : g ≡ i + place
  is : slice_get fs place ≡ Some function
  name : function.name ≡ x

module _ (p : Program) where
  from_at : (fs : List Function) (i x g params : ℕ)
      → function_from p fs i x ≡ stands.Function g params → FunctionAt fs i g x
  from_at [] i x g params e = absurd cc
  from_at (h ∷ hs) i x g params e = elim (two_ways (h.name == x)) [
    | inl y ↦
        let f : stands.Function i (length h.params) ≡ stands.Function g params
        = sym (ap
        (λ b. if b then stands.Function i (length h.params) else function_from p hs (i + 1) x)
        y) ∙ e in
        let same : i ≡ g = cc in
        record {
          place = zero;
          function = h;
          sum = omega (arith, same);
          is = refl;
          name
              = eqb-true h.name x y;
        }
    | inr n ↦
        let f : function_from p hs (i + 1) x ≡ stands.Function g params
        = sym (ap
        (λ b. if b then stands.Function i (length h.params) else function_from p hs (i + 1) x)
        n) ∙ e in
        let r = from_at hs (i + 1) x g params f in
        record {
          place = suc r.place;
          function = r.function;
          sum = omega (arith, r.sum);
          is
              = r.is;
          name = r.name;
        }
  ]

  not_primitive : (m o : Meaning) (g params : ℕ) → unless_primitive m o ≡ stands.Function g params
      → o ≡ stands.Function g params
  not_primitive (stands.Primitive op) o g params e = absurd cc
  not_primitive (stands.Local y) o g params e = e
  not_primitive (stands.Function f n) o g params e = e
  not_primitive stands.Unbound o g params e = e

  found_at : (s : Scope) (x g params : ℕ) → found_in p s x ≡ stands.Function g params
      → FunctionAt p.functions 0 g x
  found_at [] x g params e = from_at p.functions 0 x g params e
  found_at (b ∷ s) x g params e = elim (two_ways (b.0 == x)) [
    | inl y ↦
        let f : stands.Local b.1 ≡ stands.Function g params
        = sym (ap (λ t. if t then stands.Local b.1 else found_in p s x) y) ∙ e in
        absurd cc
    | inr n ↦ found_at s x g params
        (sym (ap (λ t. if t then stands.Local b.1 else found_in p s x) n) ∙ e)
  ]

  means_at : (s : Scope) (x g params : ℕ) → means p s x ≡ stands.Function g params
      → FunctionAt p.functions 0 g x
  means_at s x g params e = elim (two_ways (is_named p (codes "_") x)) [
    | inl y ↦
        let f : stands.Unbound ≡ stands.Function g params
        = sym (ap
        (λ t. if t then stands.Unbound else unless_primitive (primitive_from p primitives x)
        (found_in p s x)) y) ∙ e in
        absurd cc
    | inr n ↦ found_at s x g params
        (not_primitive (primitive_from p primitives x) (found_in p s x) g params
        (sym (ap (λ t. if t then stands.Unbound else unless_primitive
        (primitive_from p primitives x) (found_in p s x)) n) ∙ e))
  ]

-- ---- its text

module _ (m : Module) where
  declared_home : (g : ℕ) → g < length m.functions → home_module m g ≡ name_of m
  declared_home g h = ap
      (λ b. if b then name_of m else import_home m
      (slice_get (imported_functions m) (g - length m.functions))) (lt-ltb g (length m.functions) h)

  imported_home : (g j : ℕ) (i : Binder × Binder) → g ≡ length m.functions + j
      → slice_get (imported_functions m) j ≡ Some i → home_module m g ≡ text_in m i.0.name.0
  imported_home g j i e is = elim (two_ways (nat_lt g (length m.functions))) [
    | inl y ↦ absurd (omega (arith, e, ltb-true g (length m.functions) y))
    | inr n ↦
        let back : g - length m.functions ≡ j = omega (arith, e) in
        ap (λ b. if b then name_of m else import_home m
        (slice_get (imported_functions m) (g - length m.functions))) n ∙ ap
        (λ v. import_home m (slice_get (imported_functions m) v)) back ∙ ap (import_home m) is
  ]

  pub declared_text : (g : ℕ) (f : Function) → slice_get m.functions g ≡ Some f
      → slice_get (function_texts m) g ≡ Some (global_text (text_in m f.name) (name_of m))
  declared_text g f e = get_left (declared_texts m) (map (imported_text m) (imported_functions m)) g
      (global_text (text_in m f.name) (name_of m))
      (map_get (λ (f : Function). global_text (text_in m f.name) (name_of m)) m.functions g f e)

  length_map : {X Y : Type 0} (f : X → Y) (xs : List X) → length (map f xs) ≡ length xs
  length_map f [] = refl
  length_map f (x ∷ xs) = ap suc (length_map f xs)

  imported_at : (g j : ℕ) (i : Binder × Binder) → g ≡ length m.functions + j
      → slice_get (imported_functions m) j ≡ Some i
      → slice_get (function_texts m) g ≡ Some (imported_text m i)
  imported_at g j i e is =
      let at = get_right (declared_texts m) (map (imported_text m) (imported_functions m)) j
      (imported_text m i) (map_get (imported_text m) (imported_functions m) j i is) in
      ap (slice_get (function_texts m))
      (e ∙ ap (λ n. n + j)
      (sym (length_map (λ (f : Function). global_text (text_in m f.name) (name_of m))
      m.functions))) ∙ at

  by_part : (x g : ℕ) (f : Function) → f.name ≡ x → (slice_get m.functions g ≡ Some f)
      ⊎ GetRight m.functions (map as_function (imported_functions m)) g f
      → slice_get (function_texts m) g ≡ Some (global_text (text_in m x) (home_module m g))
  by_part x g f n (inl e) =
      declared_text g f e ∙ ap Some
      (ap (λ v. global_text (text_in m v) (name_of m)) n ∙ ap (global_text (text_in m x))
      (sym (declared_home g (get_within m.functions g f e))))
  by_part x g f n (inr r) =
      let b = map_back as_function (imported_functions m) r.place f r.is in
      let named : b.0.1.name.0 ≡ x = ap (λ (f : Function). f.name) b.2 ∙ n in
      imported_at g r.place b.0 r.sum b.1 ∙ ap Some
      (ap (λ v. global_text (text_in m v) (text_in m b.0.0.name.0)) named ∙ ap
      (global_text (text_in m x)) (sym (imported_home g r.place b.0 r.sum b.1)))

  -- what a name stands for at a place has this text
  pub function_text : (s : Scope) (x g params : ℕ) → means (seen m) s x ≡ stands.Function g params
      → slice_get (function_texts m) g ≡ Some (global_text (text_in m x) (home_module m g))
  function_text s x g params e =
      let r = means_at (seen m) s x g params e in
      let at : slice_get (seen m).functions g ≡ Some r.function
      = ap (slice_get (seen m).functions) (r.sum ∙ zero_plus r.place) ∙ r.is in
      by_part x g r.function r.name
      (get_split m.functions (map as_function (imported_functions m)) g r.function at)
    where
      zero_plus : (n : ℕ) → 0 + n ≡ n
      zero_plus n = omega arith
