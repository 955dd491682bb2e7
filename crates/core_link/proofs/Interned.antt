-- The names of a linked program get their numbers.
use Rattle.std.proofs.Common.{◌≡◌, ℕ, zero, suc, ◌+◌, ◌<◌, Bool, true, false, cond, List, [], ◌∷◌, ◌++◌, length, map, take, drop, get_or, refl, sym, ap, subst, ◌∙◌, arith, Some}
use Rattle.std.specs.Prelude.{◌≢◌, ◌||◌, not, slice_get}
use Rattle.std.specs.Str.{bytes_eq}
use Rattle.std.specs.List.{AllZip, list_any, filter, flat_map}
use denote.Ref.{Bor}
use Rattle.std.proofs.lemmas.List.{drop_more}
use Rattle.std.proofs.lemmas.List.Elements.{All-nil, All-push}
use Rattle.std.proofs.lemmas.Slice.Eq.{bytes_eq-Decides}
use Rattle.seq.proofs.Lists.{get_left, map_get, append_again}
use Rattle.core_reader.specs.declared.syntax.Binder.{Binder}
use Rattle.core_reader.specs.Different.{AreDistinct}
use Rattle.core_reader.specs.LexedOf.{texts_of}
use Rattle.core_link.specs.declared.rename.Renaming.{Renaming}
use Rattle.core_link.specs.declared.module.Module as code
use Rattle.core_link.specs.declared.module.Import as code-import
use Rattle.core_link.specs.declared.naming.Named.{Named}
use Rattle.core_link.specs.Module.{Module, Import, is_constructor}
use Rattle.core_link.specs.ModuleOf.{module_of, import_of}
use Rattle.core_link.specs.Union.{local_text}
use Rattle.core_link.specs.Renaming.{TextsAreAtNumbers, NamesAreExtended, AreNumbered, function_texts, imported_text}

abbrev Texts : Type 0
Texts = List (List ℕ)

pub mapped_last : {A B : Type 0} (f : A → B) (xs : List A) (x : A) → map f (xs ++ x ∷ []) ≡ map f xs
    ++ f x ∷ []
mapped_last f [] x = refl
mapped_last f (y ∷ xs) x = ap (λ ys. f y ∷ ys) (mapped_last f xs x)

pub grows_none : (ws : Texts) → NamesAreExtended ws ws
grows_none ws = record { kept = λ n w e. e; different = λ d. d }

pub grows_twice : (us vs ws : Texts) → NamesAreExtended us vs → NamesAreExtended vs ws
    → NamesAreExtended us ws
grows_twice us vs ws g h = record
    { kept = λ n w e. h.kept n w (g.kept n w e); different = λ d. h.different (g.different d) }

pub at_grows : (us vs texts : Texts) (numbers : List ℕ) → NamesAreExtended us vs
    → TextsAreAtNumbers us texts numbers → TextsAreAtNumbers vs texts numbers
at_grows us vs [] [] g h = tt
at_grows us vs [] (n ∷ ns) g h = absurd h
at_grows us vs (t ∷ ts) [] g h = absurd h
at_grows us vs (t ∷ ts) (n ∷ ns) g h = (g.kept n t h.0, at_grows us vs ts ns g h.1)

pub numbered_grows : (us vs : Texts) (m : Module) (r : Renaming) → NamesAreExtended us vs
    → AreNumbered us m r → AreNumbered vs m r
numbered_grows us vs m r g h = record {
  local = at_grows us vs (map local_text m.names) r.local.items g h.local;
  itself = at_grows us vs m.names r.itself.items g h.itself;
  function = at_grows us vs (function_texts m) r.function.items g h.function;
}

pub zip_maps : {A B : Type 0} (R S : A → B → Type 0) → ((a : A) (b : B) → R a b → S a b)
    → (xs : List A) (ys : List B) → AllZip R xs ys → AllZip S xs ys
zip_maps R S f [] [] h = tt
zip_maps R S f [] (y ∷ ys) h = absurd h
zip_maps R S f (x ∷ xs) [] h = absurd h
zip_maps R S f (x ∷ xs) (y ∷ ys) h = (f x y h.0, zip_maps R S f xs ys h.1)

-- one more of each
pub zip_more : {A B : Type 0} (R : A → B → Type 0) (xs : List A) (ys : List B) (i : ℕ) (x : A)
    (y : B) → i < length xs → x ≡ get_or xs i x → AllZip R (take i xs) ys → R x y
    → AllZip R (take (suc i) xs) (ys ++ y ∷ [])
zip_more R [] ys i x y lt e h r = absurd (omega arith)
zip_more R (a ∷ xs) [] zero x y lt e h r = (subst (λ v. R v y) e r, tt)
zip_more R (a ∷ xs) (b ∷ ys) zero x y lt e h r = absurd h
zip_more R (a ∷ xs) [] (suc i) x y lt e h r = absurd h
zip_more R (a ∷ xs) (b ∷ ys) (suc i) x y lt e h r =
    (h.0, zip_more R xs ys i x y (omega (arith, lt)) e h.1 r)

-- ---- a new text

longer_different : (w : List ℕ) (ws : Texts) → list_any (bytes_eq w) ws ≡ false → AreDistinct ws
    → AreDistinct (ws ++ w ∷ [])
longer_different w [] n d = (All-nil (λ v. v ≢ w), tt)
longer_different w (v ∷ ws) n d = (
  All-push (λ u. u ≢ v) ws w d.0 (differs (bytes_eq w v) (list_any (bytes_eq w) ws) refl n),
  longer_different w ws (later (bytes_eq w v) (list_any (bytes_eq w) ws) n) d.1,
)
  where
    later : (a b : Bool) → (a || b) ≡ false → b ≡ false
    later true b e = absurd cc
    later false b e = e

    differs : (a b : Bool) → bytes_eq w v ≡ a → (a || b) ≡ false → w ≢ v
    differs true b e f s = absurd cc
    differs false b e f s =
        let t : true ≡ false = sym ((bytes_eq-Decides w v).1 s) ∙ e in
        absurd cc

any_same : (w : Bor (List ℕ)) (eq : Bor (List ℕ) → Bor (List ℕ) → Bool)
    → ((a b : Bor (List ℕ)) → eq a b ≡ bytes_eq a.now b.now) → (keys : List (Bor (List ℕ)))
    → list_any (eq w) keys ≡ list_any (bytes_eq w.now) (texts_of keys)
any_same w eq h [] = refl
any_same w eq h (k ∷ keys) = λ i. h w k i || any_same w eq h keys i

texts_last : (keys : List (Bor (List ℕ))) (w : Bor (List ℕ))
    → texts_of (keys ++ w ∷ []) ≡ texts_of keys ++ w.now ∷ []
texts_last [] w = refl
texts_last (k ∷ keys) w = ap (λ ws. k.now ∷ ws) (texts_last keys w)

grows_by : (b : Bool) (w : Bor (List ℕ)) (keys : List (Bor (List ℕ)))
    → list_any (bytes_eq w.now) (texts_of keys) ≡ b
    → NamesAreExtended (texts_of keys) (texts_of (cond b keys (keys ++ w ∷ [])))
grows_by true w keys n = grows_none (texts_of keys)
grows_by false w keys n = subst (NamesAreExtended (texts_of keys)) (sym (texts_last keys w))
    (record {
      kept = λ i v e. get_left (texts_of keys) (w.now ∷ []) i v e;
      different = λ d. longer_different w.now (texts_of keys) n d;
    })

pub grows_one : (eq : Bor (List ℕ) → Bor (List ℕ) → Bool)
    → ((a b : Bor (List ℕ)) → eq a b ≡ bytes_eq a.now b.now)
    → (w : Bor (List ℕ)) (keys new : List (Bor (List ℕ)))
    → new ≡ cond (list_any (eq w) keys) keys (keys ++ w ∷ [])
    → NamesAreExtended (texts_of keys) (texts_of new)
grows_one eq h w keys new e = subst (λ v. NamesAreExtended (texts_of keys) (texts_of v)) (sym e)
    (grows_by (list_any (eq w) keys) w keys (sym (any_same w eq h keys)))

-- the text stands where it was put
pub stands_at : (eq : Bor (List ℕ) → Bor (List ℕ) → Bool)
    → ((a b : Bor (List ℕ)) → eq a b ≡ bytes_eq a.now b.now)
    → (w k : Bor (List ℕ)) (keys : List (Bor (List ℕ))) (i : ℕ) → slice_get keys i ≡ Some k
    → eq w k ≡ true → slice_get (texts_of keys) i ≡ Some w.now
stands_at eq h w k keys i e s = map_get (λ (k : Bor (List ℕ)). k.now) keys i k e ∙ ap Some
    (sym ((bytes_eq-Decides w.now k.now).0 (sym (h w k) ∙ s)))

pub more_numbers : (old new texts : Texts) (numbers longer : List ℕ) (i : ℕ) (w : List ℕ) (n : ℕ)
    → i < length texts → w ≡ get_or texts i w → NamesAreExtended old new
    → TextsAreAtNumbers old (take i texts) numbers → slice_get new n ≡ Some w → longer ≡ numbers
    ++ n ∷ [] → TextsAreAtNumbers new (take (i + 1) texts) longer
more_numbers old new texts numbers longer i w n lt e g h at l =
    let s : suc i ≡ i + 1 = omega arith in
    subst (TextsAreAtNumbers new (take (i + 1) texts)) (sym l)
    (subst (λ k. TextsAreAtNumbers new (take k texts) (numbers ++ n ∷ [])) s
    (zip_more (λ (w : List ℕ) (n : ℕ). slice_get new n ≡ Some w) texts numbers i w n lt e
    (at_grows old new (take i texts) numbers g h) at))

abbrev pub NumberedIn : Texts → Named → Renaming → Type 0
NumberedIn names n r = AreNumbered names (module_of n.part) r

pub more_modules : (old new : Texts) (ms : List Named) (rs longer : List Renaming) (i : ℕ)
    (m : Named) (r : Renaming) → i < length ms → m ≡ get_or ms i m → NamesAreExtended old new
    → AllZip (NumberedIn old) (take i ms) rs → AreNumbered new (module_of m.part) r → longer ≡ rs
    ++ r ∷ [] → AllZip (NumberedIn new) (take (i + 1) ms) longer
more_modules old new ms rs longer i m r lt e g h a l =
    let s : suc i ≡ i + 1 = omega arith in
    subst (AllZip (NumberedIn new) (take (i + 1) ms)) (sym l)
    (subst (λ k. AllZip (NumberedIn new) (take k ms) (rs ++ r ∷ [])) s
    (zip_more (NumberedIn new) ms rs i m r lt e
    (zip_maps (NumberedIn old) (NumberedIn new)
    (λ n o. numbered_grows old new (module_of n.part) o g) (take i ms) rs h) a))

-- ---- the names of functions that are imported

kept_append : {A B : Type 0} (f : A → B) (p : A → Bool) (xs ys : List A)
    → map f (filter p (xs ++ ys)) ≡ map f (filter p xs) ++ map f (filter p ys)
kept_append f p [] ys = refl
kept_append f p (x ∷ xs) ys = by (p x) (kept_append f p xs ys)
  where
    by : (b : Bool) → map f (filter p (xs ++ ys)) ≡ map f (filter p xs) ++ map f (filter p ys)
        → map f (cond b (x ∷ filter p (xs ++ ys)) (filter p (xs ++ ys))) ≡ map f
        (cond b (x ∷ filter p xs) (filter p xs)) ++ map f (filter p ys)
    by true e = ap (λ v. f x ∷ v) e
    by false e = e

abbrev pairs : Import → List (Binder × Binder)
pairs i = map (λ b. (i.from, b)) i.names

abbrev is_function : Module → Binder × Binder → Bool
is_function m i = not (is_constructor m i.1)

pub next_import : (m : Module) (items : List code-import.Import) (k : ℕ) (i : code-import.Import)
    (old new whole : Texts) → k < length items → i ≡ get_or items k i → new ≡ old
    ++ map (imported_text m) (filter (is_function m) (pairs (import_of i)))
    → old ++ map (imported_text m)
    (filter (is_function m) (flat_map pairs (map import_of (drop k items)))) ≡ whole → new
    ++ map (imported_text m)
    (filter (is_function m) (flat_map pairs (map import_of (drop (k + 1) items)))) ≡ whole
next_import m items k i old new whole lt e f h =
    let rest = flat_map pairs (map import_of (drop (k + 1) items)) in
    let one = map (imported_text m) (filter (is_function m) (pairs (import_of i))) in
    let now : drop k items ≡ i ∷ drop (k + 1) items
    = drop_more items k i lt ∙ ap (λ z. z ∷ drop (k + 1) items) (sym e) in
    ap (λ v. v ++ map (imported_text m) (filter (is_function m) rest)) f
    ∙ append_again old one (map (imported_text m) (filter (is_function m) rest))
    ∙ ap (λ v. old ++ v)
    (sym (kept_append (imported_text m) (is_function m) (pairs (import_of i)) rest))
    ∙ ap (λ v. old ++ map (imported_text m)
    (filter (is_function m) (flat_map pairs (map import_of v)))) (sym now)
    ∙ h

-- ---- modules with the texts of their names

pub more_parts : (all longer : List Named) (n : Named) (ys : List code.Module) (m : code.Module)
    → longer ≡ all ++ n ∷ [] → map (λ (n : Named). n.part) all ≡ ys → n.part ≡ m
    → map (λ (n : Named). n.part) longer ≡ ys ++ m ∷ []
more_parts all longer n ys m e f g = ap (map (λ (n : Named). n.part)) e ∙ mapped_last
    (λ (n : Named). n.part) all n ∙ ap (λ v. v ++ n.part ∷ []) f ∙ ap (λ x. ys ++ x ∷ []) g
