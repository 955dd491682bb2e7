-- The renamed declarations of modules, in the order of their names, are their union.
use Rattle.std.proofs.Common.{◌≡◌, ℕ, zero, suc, ◌+◌, ◌*◌, ◌<◌, ◌^◌, List, [], ◌∷◌, ◌++◌, length, map, refl, sym, subst, ◌∙◌, arith, Some, length-append}
use Rattle.std.specs.Prelude.{All, slice_get, slice_index_or, sum_by}
use Rattle.std.specs.List.{AllZip, Contains}
use Rattle.std.specs.List.Sorted.{IsPermutation}
use Rattle.std.proofs.lemmas.List.Elements.{All-head, All-tail, All-nil, All-cons, All-append}
use Rattle.std.proofs.lemmas.List.Sums.{sum_by-cons, sum_by-append}
use Rattle.std.proofs.lemmas.List.Sorted.{IsPermutation-sym, Contains-permutation}
use Rattle.seq.specs.Lists.{AllOf, In, here, there}
use Rattle.seq.proofs.Lists.{map_get}
use Rattle.core_reader.specs.Different.{AreDistinct}
use Rattle.core_reader.specs.Tree.{Data, Function, Program}
use Rattle.core_reader.specs.Size.{function_size, program_size}
use Rattle.core_reader.specs.Readable.{ReadableData, ReadableFunction, IsReadable}
use Rattle.arity_check.specs.Whole.{known_of}
use Rattle.core_link.specs.declared.rename.Renaming.{Renaming}
use Rattle.core_link.specs.Module.{Module, body, seen, name_of}
use Rattle.core_link.specs.Joinable.{IsLinkable, AreLinkable}
use Rattle.core_link.specs.Union.{ConstructorBecomes, FunctionBecomes, with_module, local_text, IsUnion, IsStrictlySorted}
use Rattle.core_link.specs.Renaming.{Numbers, numbers_of, or_zero, TextsAreAtNumbers, AreNumbered, function_texts, renamed_data, renamed_functions, joined_constructors, joined_functions}
use Rattle.core_link.proofs.Renames.{AreNumbers, data_becomes, function_becomes}
use Rattle.core_link.proofs.Ready.{ready_data, ready_function}
use Rattle.core_link.proofs.Sizes.{length_map, functions_as_large}

-- ---- the numbers that the code keeps

number_at : (names texts : List (List ℕ)) (numbers : List ℕ) (i : ℕ) (w : List ℕ)
    → TextsAreAtNumbers names texts numbers → slice_get texts i ≡ Some w
    → slice_get names (or_zero (slice_get numbers i)) ≡ Some w
number_at names [] [] i w h e = absurd cc
number_at names [] (n ∷ ns) i w h e = absurd h
number_at names (t ∷ ts) [] i w h e = absurd h
number_at names (t ∷ ts) (n ∷ ns) zero w h e = h.0 ∙ e
number_at names (t ∷ ts) (n ∷ ns) (suc i) w h e = number_at names ts ns i w h.1 e

pub are_numbers : (names : List (List ℕ)) (m : Module) (r : Renaming) → AreNumbered names m r
    → AreNumbers names m (numbers_of r)
are_numbers names m r h = record {
  locals = λ x w e. number_at names (map local_text m.names) r.local.items x (local_text w) h.local
      (map_get local_text m.names x w e);
  itself = λ x w e. number_at names m.names r.itself.items x w h.itself e;
  functions = λ g w e. number_at names (function_texts m) r.function.items g w h.function e;
}

zip_append : {A B : Type 0} (R : A → B → Type 0) (xs ys : List A) (us vs : List B) → AllZip R xs us
    → AllZip R ys vs → AllZip R (xs ++ ys) (us ++ vs)
zip_append R [] ys [] vs h k = k
zip_append R [] ys (u ∷ us) vs h k = absurd h
zip_append R (x ∷ xs) ys [] vs h k = absurd h
zip_append R (x ∷ xs) ys (u ∷ us) vs h k = (h.0, zip_append R xs ys us vs h.1 k)

-- ---- the declarations of one module

module _ (names : List (List ℕ)) where
  abbrev DataIs : Module × Data → Data → Type 0
  DataIs d e = ConstructorBecomes names d.0 d.1 e

  abbrev FunctionIs : Module × Function → Function → Type 0
  FunctionIs f g = FunctionBecomes names f.0 f.1 g

  module _ (m : Module) (n : Numbers) (are : AreNumbers names m n) where
    constructors_are : (ds : List Data) → All (ReadableData m.names) ds
        → AllZip DataIs (map (λ (d : Data). (m, d)) ds) (map (renamed_data n) ds)
    constructors_are [] h = tt
    constructors_are (d ∷ ds) h = (
      data_becomes names m n are d (All-head (ReadableData m.names) d ds h),
      constructors_are ds (All-tail (ReadableData m.names) d ds h),
    )

    -- the functions from number g on
    abbrev From : ℕ → List Function → Type 0
    From g fs = (i : ℕ) (f : Function) → slice_get fs i ≡ Some f
        → slice_get m.functions (g + i) ≡ Some f

    next : (g : ℕ) (f : Function) (fs : List Function) → From g (f ∷ fs) → From (g + 1) fs
    next g f fs h i v e = let s : g + suc i ≡ (g + 1) + i = omega arith
        in subst (λ j. slice_get m.functions j ≡ Some v) s (h (suc i) v e)

    first : (g : ℕ) (f : Function) (fs : List Function) → From g (f ∷ fs)
        → slice_get m.functions g ≡ Some f
    first g f fs h = let s : g + 0 ≡ g = omega arith
        in subst (λ j. slice_get m.functions j ≡ Some f) s (h zero f refl)

    functions_are : (g : ℕ) (fs : List Function) → From g fs → All (ReadableFunction m.names) fs
        → AllZip FunctionIs (map (λ (f : Function). (m, f)) fs)
        (renamed_functions n (known_of (seen m)) g fs)
    functions_are g [] at h = tt
    functions_are g (f ∷ fs) at h = (
      function_becomes names m n are g f (first g f fs at)
          (All-head (ReadableFunction m.names) f fs h),
      functions_are (g + 1) fs (next g f fs at) (All-tail (ReadableFunction m.names) f fs h),
    )

    module _ (j : IsLinkable m) where
      constructors_ready : (ds : List Data) → All (ReadableData m.names) ds
          → All (ReadableData names) (map (renamed_data n) ds)
      constructors_ready [] h = All-nil (ReadableData names)
      constructors_ready (d ∷ ds) h = All-cons (ReadableData names) (renamed_data n d)
          (map (renamed_data n) ds)
          (ready_data m j.name j.imports names n are d (All-head (ReadableData m.names) d ds h))
          (constructors_ready ds (All-tail (ReadableData m.names) d ds h))

      functions_ready : (g : ℕ) (fs : List Function) → From g fs → All (ReadableFunction m.names) fs
          → All (ReadableFunction names) (renamed_functions n (known_of (seen m)) g fs)
      functions_ready g [] at h = All-nil (ReadableFunction names)
      functions_ready g (f ∷ fs) at h =
          All-cons (ReadableFunction names) _ (renamed_functions n (known_of (seen m)) (g + 1) fs)
          (ready_function m j.name j.imports names n are g f (first g f fs at)
          (All-head (ReadableFunction m.names) f fs h))
          (functions_ready (g + 1) fs (next g f fs at)
          (All-tail (ReadableFunction m.names) f fs h))

    all_from : From 0 m.functions
    all_from i f e = let s : i ≡ 0 + i = omega arith
        in subst (λ j. slice_get m.functions j ≡ Some f) s e

  -- ---- those of all

  abbrev Ready : List Module → List Numbers → Type 0
  Ready ms ns = AllZip (AreNumbers names) ms ns

  joined_data : (ms : List Module) (ns : List Numbers) → Ready ms ns → AllOf IsLinkable ms
      → AllZip DataIs (with_module (λ (m : Module). m.constructors) ms) (joined_constructors ms ns)
  joined_data [] [] h j = tt
  joined_data [] (n ∷ ns) h j = absurd h
  joined_data (m ∷ ms) [] h j = absurd h
  joined_data (m ∷ ms) (n ∷ ns) h j = zip_append DataIs (map (λ (d : Data). (m, d)) m.constructors)
      (with_module (λ (m : Module). m.constructors) ms) (map (renamed_data n) m.constructors)
      (joined_constructors ms ns)
      (constructors_are m n h.0 m.constructors j.0.readable.constructors)
      (joined_data ms ns h.1 j.1)

  joined_code : (ms : List Module) (ns : List Numbers) → Ready ms ns → AllOf IsLinkable ms
      → AllZip FunctionIs (with_module (λ (m : Module). m.functions) ms) (joined_functions ms ns)
  joined_code [] [] h j = tt
  joined_code [] (n ∷ ns) h j = absurd h
  joined_code (m ∷ ms) [] h j = absurd h
  joined_code (m ∷ ms) (n ∷ ns) h j = zip_append FunctionIs
      (map (λ (f : Function). (m, f)) m.functions) (with_module (λ (m : Module). m.functions) ms)
      (renamed_functions n (known_of (seen m)) 0 m.functions) (joined_functions ms ns)
      (functions_are m n h.0 0 m.functions (all_from m n h.0) j.0.readable.functions)
      (joined_code ms ns h.1 j.1)

  data_ready : (ms : List Module) (ns : List Numbers) → Ready ms ns → AllOf IsLinkable ms
      → All (ReadableData names) (joined_constructors ms ns)
  data_ready [] [] h j = All-nil (ReadableData names)
  data_ready [] (n ∷ ns) h j = absurd h
  data_ready (m ∷ ms) [] h j = absurd h
  data_ready (m ∷ ms) (n ∷ ns) h j = All-append (ReadableData names)
      (map (renamed_data n) m.constructors) (joined_constructors ms ns)
      (constructors_ready m n h.0 j.0 m.constructors j.0.readable.constructors)
      (data_ready ms ns h.1 j.1)

  code_ready : (ms : List Module) (ns : List Numbers) → Ready ms ns → AllOf IsLinkable ms
      → All (ReadableFunction names) (joined_functions ms ns)
  code_ready [] [] h j = All-nil (ReadableFunction names)
  code_ready [] (n ∷ ns) h j = absurd h
  code_ready (m ∷ ms) [] h j = absurd h
  code_ready (m ∷ ms) (n ∷ ns) h j = All-append (ReadableFunction names)
      (renamed_functions n (known_of (seen m)) 0 m.functions) (joined_functions ms ns)
      (functions_ready m n h.0 j.0 0 m.functions (all_from m n h.0) j.0.readable.functions)
      (code_ready ms ns h.1 j.1)

  -- ---- their size

  abbrev pub total_size : List Module → ℕ
  total_size ms = sum_by (λ (m : Module). program_size (body m)) ms

  abbrev joined_size : List Module → List Numbers → ℕ
  joined_size ms ns = 2 * length (joined_constructors ms ns) + sum_by function_size
      (joined_functions ms ns)

  as_large : (ms : List Module) (ns : List Numbers) → Ready ms ns
      → joined_size ms ns ≡ total_size ms
  as_large [] [] h = refl
  as_large [] (n ∷ ns) h = absurd h
  as_large (m ∷ ms) [] h = absurd h
  as_large (m ∷ ms) (n ∷ ns) h =
      let fs = renamed_functions n (known_of (seen m)) 0 m.functions in
      let ds = map (renamed_data n) m.constructors in
      let a = length-append ds (joined_constructors ms ns) in
      let b = length_map (renamed_data n) m.constructors in
      let c = sum_by-append function_size fs (joined_functions ms ns) in
      let d = functions_as_large n (known_of (seen m)) 0 m.functions in
      let e = as_large ms ns h.1 in
      let f = sum_by-cons (λ (m : Module). program_size (body m)) m ms in
      omega (arith, a, b, c, d, e, f)

-- ---- the union

contained : {X : Type 0} (x : X) (xs : List X) → In x xs → Contains xs x
contained x [] i = elim i [ ]
contained x (y ∷ xs) here = (zero, omega arith, refl)
contained x (y ∷ xs) (there i) = let r = contained x xs i in (suc r.0, omega (arith, r.1), r.2)

stands_in : {X : Type 0} (x : X) (xs : List X) (k : ℕ) → k < length xs → slice_index_or xs k x ≡ x
    → In x xs
stands_in x [] k h e = absurd (omega arith)
stands_in x (y ∷ xs) zero h e = subst (λ z. In z (y ∷ xs)) e here
stands_in x (y ∷ xs) (suc k) h e = there (stands_in x xs k (omega (arith, h)) e)

in_moved : {X : Type 0} (xs ys : List X) → IsPermutation xs ys → (x : X) → In x xs → In x ys
in_moved xs ys p x i = let r = Contains-permutation xs ys x p (contained x xs i)
    in stands_in x ys r.0 r.1 r.2

all_of : {X : Type 0} (P : X → Type 0) (xs : List X) → ((x : X) → In x xs → P x) → AllOf P xs
all_of P [] h = tt
all_of P (x ∷ xs) h = (h x here, all_of P xs (λ y i. h y (there i)))

of_all : {X : Type 0} (P : X → Type 0) (xs : List X) (x : X) → AllOf P xs → In x xs → P x
of_all P [] x h i = elim i [ ]
of_all P (y ∷ xs) x h here = h.0
of_all P (y ∷ xs) x h (there i) = of_all P xs x h.1 i

module _ (ms sorted : List Module) (rs : List Renaming) (p : Program) (joinable : AreLinkable ms)
    (moved : IsPermutation ms sorted) (rises : IsStrictlySorted (map name_of sorted))
    (numbered : AllZip (AreNumbered p.names) sorted rs)
    (constructors : p.constructors ≡ joined_constructors sorted (map numbers_of rs))
    (functions : p.functions ≡ joined_functions sorted (map numbers_of rs)) where
  each : AllOf IsLinkable sorted
  each = all_of IsLinkable sorted
      (λ m i. of_all IsLinkable ms m joinable.each
      (in_moved sorted ms (IsPermutation-sym ms sorted moved) m i))

  ready : (ms : List Module) (rs : List Renaming) → AllZip (AreNumbered p.names) ms rs
      → Ready p.names ms (map numbers_of rs)
  ready [] [] h = tt
  ready [] (r ∷ rs) h = absurd h
  ready (m ∷ ms) [] h = absurd h
  ready (m ∷ ms) (r ∷ rs) h = (are_numbers p.names m r h.0, ready ms rs h.1)

  pub is_union : IsUnion ms p
  is_union = record {
    sorted = sorted;
    all = in_moved ms sorted moved;
    only = in_moved sorted ms (IsPermutation-sym ms sorted moved);
    rising = rises;
    constructors = subst
        (AllZip (DataIs p.names) (with_module (λ (m : Module). m.constructors) sorted))
        (sym constructors)
        (joined_data p.names sorted (map numbers_of rs) (ready sorted rs numbered) each);
    functions = subst
        (AllZip (FunctionIs p.names) (with_module (λ (m : Module). m.functions) sorted))
        (sym functions)
        (joined_code p.names sorted (map numbers_of rs) (ready sorted rs numbered) each);
  }

  same_size : joined_size p.names sorted (map numbers_of rs) ≡ program_size p
  same_size = λ i. 2 * length (sym constructors i) + sum_by function_size (sym functions i)

  pub is_readable : AreDistinct p.names → total_size p.names sorted < 2 ^ 64 → IsReadable p
  is_readable d small = record {
    different = d;
    constructors = subst (All (ReadableData p.names)) (sym constructors)
        (data_ready p.names sorted (map numbers_of rs) (ready sorted rs numbered) each);
    functions = subst (All (ReadableFunction p.names)) (sym functions)
        (code_ready p.names sorted (map numbers_of rs) (ready sorted rs numbered) each);
    size = subst (λ n. n < 2 ^ 64)
        (sym (as_large p.names sorted (map numbers_of rs) (ready sorted rs numbered)) ∙ same_size)
        small;
  }
