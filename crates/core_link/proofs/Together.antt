-- What the code makes of modules is their union.
use Rattle.std.proofs.Common.{◌≡◌, ℕ, suc, ◌+◌, ◌<◌, ◌^◌, List, [], ◌∷◌, ◌++◌, length, map, take, get_or, refl, sym, ap, subst, ◌∙◌, arith}
use Rattle.std.specs.Prelude.{All, sum_by}
use Rattle.std.specs.List.{AllZip}
use Rattle.std.specs.List.Sorted.{IsPermutation, IsSortedByKey}
use Rattle.std.specs.Ordering.{nat_cmp}
use Rattle.std.specs.Cmp.Lexicographic.{slice_cmp}
use Rattle.std.proofs.lemmas.List.{take_more, length-take-le}
use Rattle.std.proofs.lemmas.List.Elements.{All-nil, All-cons}
use Rattle.std.proofs.lemmas.List.Sorted.{IsPermutation-map, All-permutation}
use Rattle.std.proofs.lemmas.List.Sums.{sum_by-cons}
use Rattle.seq.specs.Lists.{AllOf}
use Rattle.seq.proofs.Lists.{append_nil, append_again}
use Rattle.core_reader.specs.Different.{AreDistinct}
use Rattle.core_reader.specs.declared.syntax.Core.{Core}
use Rattle.core_reader.specs.declared.syntax.Data as code-data
use Rattle.core_reader.specs.declared.syntax.Function as code-function
use Rattle.core_reader.specs.Tree.{Data, Function, Program, data_of, function, program}
use Rattle.core_reader.specs.Size.{program_size}
use Rattle.core_reader.specs.Readable.{IsReadable}
use Rattle.arity_check.specs.Known.{Known}
use Rattle.arity_check.specs.Whole.{known_of}
use Rattle.core_link.specs.declared.module.Module as code
use Rattle.core_link.specs.declared.naming.Named.{Named}
use Rattle.core_link.specs.declared.rename.Renaming.{Renaming}
use Rattle.core_link.specs.Module.{Module, body, seen, name_of}
use Rattle.core_link.specs.ModuleOf.{module_of, import_of}
use Rattle.core_link.specs.Shared.{declare_all}
use Rattle.core_link.specs.Joinable.{IsLinkable, AreLinkable}
use Rattle.core_link.specs.Union.{IsUnion, IsStrictlySorted}
use Rattle.core_link.specs.Renaming.{Numbers, numbers_of, AreNumbered, renamed_data, renamed_function, renamed_functions, joined_constructors, joined_functions}
use Rattle.core_link.proofs.Interned.{mapped_last}
use Rattle.core_link.proofs.Sizes.{length_map}
use Rattle.core_link.proofs.Takings.{seen_is}
use Rattle.core_link.proofs.Rising.{rising}
use Rattle.core_link.proofs.Unions.{is_union, is_readable}

abbrev pub part_of : Named → Module
part_of n = module_of n.part

-- ---- lists

map_twice : {A B C : Type 0} (f : A → B) (g : B → C) (xs : List A)
    → map g (map f xs) ≡ map (λ x. g (f x)) xs
map_twice f g [] = refl
map_twice f g (x ∷ xs) = ap (λ ys. g (f x) ∷ ys) (map_twice f g xs)

zip_mapped : {A B C : Type 0} (R : B → C → Type 0) (f : A → B) (xs : List A) (ys : List C)
    → AllZip (λ x y. R (f x) y) xs ys → AllZip R (map f xs) ys
zip_mapped R f [] [] h = tt
zip_mapped R f [] (y ∷ ys) h = absurd h
zip_mapped R f (x ∷ xs) [] h = absurd h
zip_mapped R f (x ∷ xs) (y ∷ ys) h = (h.0, zip_mapped R f xs ys h.1)

pub zip_lengths : {A B : Type 0} (R : A → B → Type 0) (xs : List A) (ys : List B) → AllZip R xs ys
    → length ys ≡ length xs
zip_lengths R [] [] h = refl
zip_lengths R [] (y ∷ ys) h = absurd h
zip_lengths R (x ∷ xs) [] h = absurd h
zip_lengths R (x ∷ xs) (y ∷ ys) h = ap suc (zip_lengths R xs ys h.1)

-- ---- one more function, one more module

pub one_more_function : (n : Numbers) (k : Known) (g : ℕ) (fs : List Function) (f : Function)
    → renamed_functions n k g (fs ++ f ∷ []) ≡ renamed_functions n k g fs
    ++ renamed_function n k (g + length fs) f ∷ []
one_more_function n k g [] f = let z : g ≡ g + 0 = omega arith
    in ap (λ j. renamed_function n k j f ∷ []) z
one_more_function n k g (e ∷ fs) f =
    let z : (g + 1) + length fs ≡ g + suc (length fs) = omega arith in
    ap (λ v. renamed_function n k g e ∷ v)
    (one_more_function n k (g + 1) fs f ∙ ap
    (λ j. renamed_functions n k (g + 1) fs ++ renamed_function n k j f ∷ []) z)

pub one_more_constructors : (ms : List Module) (ns : List Numbers) (m : Module) (n : Numbers)
    → length ns ≡ length ms → joined_constructors (ms ++ m ∷ []) (ns ++ n ∷ []) ≡
    joined_constructors ms ns ++ map (renamed_data n) m.constructors
one_more_constructors [] [] m n e = append_nil (map (renamed_data n) m.constructors)
one_more_constructors [] (o ∷ ns) m n e = absurd (omega (arith, e))
one_more_constructors (l ∷ ms) [] m n e = absurd (omega (arith, e))
one_more_constructors (l ∷ ms) (o ∷ ns) m n e =
    ap (λ v. map (renamed_data o) l.constructors ++ v)
    (one_more_constructors ms ns m n (omega (arith, e)))
    ∙ sym (append_again (map (renamed_data o) l.constructors) (joined_constructors ms ns)
    (map (renamed_data n) m.constructors))

pub one_more_functions : (ms : List Module) (ns : List Numbers) (m : Module) (n : Numbers)
    → length ns ≡ length ms → joined_functions (ms ++ m ∷ []) (ns ++ n ∷ []) ≡ joined_functions ms
    ns ++ renamed_functions n (known_of (seen m)) 0 m.functions
one_more_functions [] [] m n e = append_nil (renamed_functions n (known_of (seen m)) 0 m.functions)
one_more_functions [] (o ∷ ns) m n e = absurd (omega (arith, e))
one_more_functions (l ∷ ms) [] m n e = absurd (omega (arith, e))
one_more_functions (l ∷ ms) (o ∷ ns) m n e =
    ap (λ v. renamed_functions o (known_of (seen l)) 0 l.functions ++ v)
    (one_more_functions ms ns m n (omega (arith, e)))
    ∙ sym (append_again (renamed_functions o (known_of (seen l)) 0 l.functions)
    (joined_functions ms ns) (renamed_functions n (known_of (seen m)) 0 m.functions))

-- the first items, where others stand behind them
pub front_mapped : {A B : Type 0} (f : A → B) (xs : List A) (us vs : List B) → map f xs ≡ us ++ vs
    → map f (take (length us) xs) ≡ us
front_mapped f xs [] vs e = refl
front_mapped f [] (u ∷ us) vs e = absurd cc
front_mapped f (x ∷ xs) (u ∷ us) vs e =
    let first : f x ≡ u = cc in
    let rest : map f xs ≡ us ++ vs = cc in
    λ i. first i ∷ front_mapped f xs us vs rest i

functions_length : (n : Numbers) (k : Known) (g : ℕ) (fs : List Function)
    → length (renamed_functions n k g fs) ≡ length fs
functions_length n k g [] = refl
functions_length n k g (f ∷ fs) = ap suc (functions_length n k (g + 1) fs)

pub more_functions : (n : Numbers) (k : Known) (made longer yielded : List code-function.Function)
    (f g : code-function.Function) (number : ℕ) → longer ≡ made ++ g ∷ []
    → map function made ≡ renamed_functions n k 0 (map function yielded)
    → function g ≡ renamed_function n k number (function f) → number ≡ length made
    → map function longer ≡ renamed_functions n k 0 (map function (yielded ++ f ∷ []))
more_functions n k made longer yielded f g number e h r s =
    let size : length (map function yielded) ≡ number
    = sym (functions_length n k 0 (map function yielded)) ∙ ap length (sym h) ∙ length_map
    function made ∙ sym s in
    let z : number ≡ 0 + length (map function yielded) = omega (arith, size) in
    ap (map function) e ∙ mapped_last function made g ∙ ap (λ v. v ++ function g ∷ []) h
    ∙ ap (λ v. renamed_functions n k 0 (map function yielded) ++ v ∷ [])
    (r ∙ ap (λ j. renamed_function n k j (function f)) z)
    ∙ sym (one_more_function n k 0 (map function yielded) (function f)) ∙ ap
    (renamed_functions n k 0) (sym (mapped_last function yielded f))

mapped_append : {A B : Type 0} (f : A → B) (xs ys : List A) → map f (xs ++ ys) ≡ map f xs
    ++ map f ys
mapped_append f [] ys = refl
mapped_append f (x ∷ xs) ys = ap (λ v. f x ∷ v) (mapped_append f xs ys)

-- more items behind others
pub appended : {A B : Type 0} (f : A → B) (old new more : List A) (ys : List B) → new ≡ old ++ more
    → map f more ≡ ys → map f new ≡ map f old ++ ys
appended f old new more ys e h = ap (map f) e ∙ mapped_append f old more ∙ ap (λ v. map f old ++ v)
    h

-- ---- a module's own declarations among all that is known in it

module _ (m : code.Module) (core : Core)
    (known : program core ≡ declare_all (program m.core) (map import_of m.imports)) where
  pub known_is : program core ≡ seen (module_of m)
  known_is = known ∙ seen_is (module_of m)

  pub own_constructors : (end : ℕ) (own : List code-data.Data) → end ≡ length m.core.constructors
      → own ≡ take end core.constructors → map data_of own ≡ (module_of m).constructors
  own_constructors end own e t =
      let s : end ≡ length (module_of m).constructors
      = e ∙ sym (length_map data_of m.core.constructors) in
      ap (map data_of) (t ∙ ap (λ n. take n core.constructors) s) ∙ front_mapped data_of
      core.constructors (module_of m).constructors _
      (ap (λ (p : Program). p.constructors) known_is)

  pub own_functions : (end : ℕ) (own : List code-function.Function) → end ≡ length m.core.functions
      → own ≡ take end core.functions → map function own ≡ (module_of m).functions
  own_functions end own e t =
      let s : end ≡ length (module_of m).functions = e ∙ sym (length_map function m.core.functions)
      in
      ap (map function) (t ∙ ap (λ n. take n core.functions) s) ∙ front_mapped function
      core.functions (module_of m).functions _ (ap (λ (p : Program). p.functions) known_is)

-- ---- one more module

module _ (yielded : List Named) (one : Named) (rs : List Renaming) (r : Renaming) (at : ℕ)
    (e : at ≡ length yielded) (lt : at < length rs) (is : r ≡ get_or rs at r) where
  numbers_more : map numbers_of (take (at + 1) rs) ≡ map numbers_of (take at rs)
      ++ numbers_of r ∷ []
  numbers_more = ap (map numbers_of)
      (take_more rs at r lt ∙ ap (λ v. take at rs ++ v ∷ []) (sym is)) ∙ mapped_last numbers_of
      (take at rs) r

  as_many : length (map numbers_of (take at rs)) ≡ length (map part_of yielded)
  as_many = omega (
    arith,
    length_map numbers_of (take at rs),
    length_map part_of yielded,
    length-take-le at rs (omega (arith, lt)),
    e,
    lt,
  )

  pub more_constructors : (old new : List Data) → old ≡ joined_constructors (map part_of yielded)
      (map numbers_of (take at rs)) → new ≡ old ++ map (renamed_data (numbers_of r))
      (part_of one).constructors
      → new ≡ joined_constructors (map part_of (yielded ++ one ∷ []))
      (map numbers_of (take (at + 1) rs))
  more_constructors old new h f =
      f ∙ ap (λ v. v ++ map (renamed_data (numbers_of r)) (part_of one).constructors) h
      ∙ sym (one_more_constructors (map part_of yielded) (map numbers_of (take at rs)) (part_of one)
      (numbers_of r) as_many)
      ∙ ap (λ v. joined_constructors v (map numbers_of (take at rs) ++ numbers_of r ∷ []))
      (sym (mapped_last part_of yielded one))
      ∙ ap (joined_constructors (map part_of (yielded ++ one ∷ []))) (sym numbers_more)

  pub more_of_functions : (old new : List Function)
      → old ≡ joined_functions (map part_of yielded) (map numbers_of (take at rs)) → new ≡ old
      ++ renamed_functions (numbers_of r) (known_of (seen (part_of one))) 0 (part_of one).functions
      → new ≡ joined_functions (map part_of (yielded ++ one ∷ []))
      (map numbers_of (take (at + 1) rs))
  more_of_functions old new h f =
      f ∙ ap (λ v. v ++ renamed_functions (numbers_of r) (known_of (seen (part_of one))) 0
      (part_of one).functions) h
      ∙ sym (one_more_functions (map part_of yielded) (map numbers_of (take at rs)) (part_of one)
      (numbers_of r) as_many)
      ∙ ap (λ v. joined_functions v (map numbers_of (take at rs) ++ numbers_of r ∷ []))
      (sym (mapped_last part_of yielded one))
      ∙ ap (joined_functions (map part_of (yielded ++ one ∷ []))) (sym numbers_more)

-- ---- sizes

small_each : (ms : List code.Module) → AllOf IsLinkable (map module_of ms)
    → All (λ (m : code.Module). program_size (body (module_of m)) < 2 ^ 64) ms
small_each [] h = All-nil (λ (m : code.Module). program_size (body (module_of m)) < 2 ^ 64)
small_each (m ∷ ms) h = All-cons (λ (m : code.Module). program_size (body (module_of m)) < 2 ^ 64) m
    ms h.0.readable.size (small_each ms h.1)

pub sizes_fit : (ms ys : List code.Module) → AreLinkable (map module_of ms) → IsPermutation ms ys
    → All (λ (m : code.Module). program_size (body (module_of m)) < 2 ^ 64) ys
sizes_fit ms ys j p = All-permutation
    (λ (m : code.Module). program_size (body (module_of m)) < 2 ^ 64) ms ys p (small_each ms j.each)

size_mapped : (ys : List code.Module) → sum_by (λ (m : Module). program_size (body m))
    (map module_of ys) ≡ sum_by (λ (m : code.Module). program_size (body (module_of m))) ys
size_mapped [] = refl
size_mapped (y ∷ ys) = sum_by-cons (λ (m : Module). program_size (body m)) (module_of y)
    (map module_of ys) ∙ ap (λ n. program_size (body (module_of y)) + n) (size_mapped ys) ∙ sym
    (sum_by-cons (λ (m : code.Module). program_size (body (module_of m))) y ys)

-- ---- the union

module _ (ms ys : List code.Module) (all : List Named) (rs : List Renaming) (p : Program)
    (j : AreLinkable (map module_of ms)) (moved : IsPermutation ms ys)
    (sorted : IsSortedByKey (λ (m : code.Module). name_of (module_of m)) (slice_cmp nat_cmp) ys)
    (parts : map (λ (n : Named). n.part) all ≡ ys)
    (numbered : AllZip (λ (n : Named). AreNumbered p.names (module_of n.part)) all rs)
    (constructors : p.constructors ≡ joined_constructors (map part_of all) (map numbers_of rs))
    (functions : p.functions ≡ joined_functions (map part_of all) (map numbers_of rs)) where
  parts_are : map module_of ys ≡ map part_of all
  parts_are = ap (map module_of) (sym parts) ∙ map_twice (λ (n : Named). n.part) module_of all

  moved_parts : IsPermutation (map module_of ms) (map part_of all)
  moved_parts = subst (IsPermutation (map module_of ms)) parts_are
      (IsPermutation-map module_of ms ys moved)

  rises : IsStrictlySorted (map name_of (map part_of all))
  rises =
      subst (λ v. IsStrictlySorted (map name_of v)) parts_are
      (subst IsStrictlySorted (sym (map_twice module_of name_of ys))
      (rising (λ (m : code.Module). name_of (module_of m)) ms ys moved
      (subst AreDistinct (map_twice module_of name_of ms) j.different) sorted))

  pub joined_is_union : IsUnion (map module_of ms) p
  joined_is_union = is_union (map module_of ms) (map part_of all) rs p j moved_parts rises
      (zip_mapped (AreNumbered p.names) part_of all rs numbered) constructors functions

  pub joined_is_readable : AreDistinct p.names → sum_by
      (λ (m : code.Module). program_size (body (module_of m))) ys < 2 ^ 64 → IsReadable p
  joined_is_readable d small =
      is_readable (map module_of ms) (map part_of all) rs p j moved_parts rises
      (zip_mapped (AreNumbered p.names) part_of all rs numbered) constructors functions d
      (subst (λ n. n < 2 ^ 64)
      (sym (size_mapped ys) ∙ ap (sum_by (λ (m : Module). program_size (body m))) parts_are)
      small)
