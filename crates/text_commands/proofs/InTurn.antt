-- Files that are read in turn.
use Rattle.std.proofs.Common.{◌≡◌, ℕ, zero, suc, ◌+◌, ◌<◌, ◌≤◌, List, [], ◌∷◌, ◌++◌, length, map, take, get_or, slice_get, Option, Some, None, refl, sym, ap, ◌∙◌, subst, arith, append_assoc, append-nil}
use mathlib.Core.Logic.{◌⊎◌, inl, inr}
use Rattle.std.specs.List.{AllZip}
use Rattle.std.proofs.lemmas.List.{length-take-le, take_all}
use Rattle.std.proofs.lemmas.Option.{same_Some}
use Rattle.seq.specs.Lists.{In, here, there}
use Rattle.seq.proofs.Lists.{some_is, none_is_some, map_append, map_push, take_next, get_is}
use Rattle.seq.proofs.Member.{in_left, in_right, in_map}
use Rattle.seq.proofs.Order.{le_or_lt}
use Rattle.grin_io.specs.Content.{Files, file_named}
use Rattle.grin_io.specs.Changes.{ShelfChange, shelf_change}
use Rattle.text_commands.specs.declared.status.Status.{Status}
use Rattle.text_commands.specs.Reading.{IsRead, IsUnread, HoldsOfEachFile, Stay, open_behind, open_last, HaveTexts, AreRead, AddsFronts}
use Rattle.text_commands.specs.Operands.{HoldsOfFileTexts}
use Rattle.text_commands.proofs.Files.{unread_on}

-- ---- lists, place by place

zip_append : {A B : Type 0} (R : A → B → Type 0) (xs xs' : List A) (ys ys' : List B)
    → AllZip R xs ys → AllZip R xs' ys' → AllZip R (xs ++ xs') (ys ++ ys')
zip_append R [] xs' [] ys' h k = k
zip_append R [] xs' (y ∷ ys) ys' h k = absurd h
zip_append R (x ∷ xs) xs' [] ys' h k = absurd h
zip_append R (x ∷ xs) xs' (y ∷ ys) ys' h k = (h.0, zip_append R xs xs' ys ys' h.1 k)

zip_map : {A B : Type 0} (R S : A → B → Type 0) (xs : List A) (ys : List B)
    → ((x : A) (y : B) → R x y → S x y) → AllZip R xs ys → AllZip S xs ys
zip_map R S [] [] f h = tt
zip_map R S [] (y ∷ ys) f h = absurd h
zip_map R S (x ∷ xs) [] f h = absurd h
zip_map R S (x ∷ xs) (y ∷ ys) f h = (f x y h.0, zip_map R S xs ys f h.1)

-- ---- which file is open

named_stays : (shelf : Files) (files fronts : List (List ℕ))
    → (open_last shelf files fronts).named ≡ shelf.named
named_stays shelf [] fronts = refl
named_stays shelf (file ∷ files) [] = refl
named_stays shelf (file ∷ files) (front ∷ fronts) = named_stays
    (open_behind shelf file (length front)) files fronts

open_more : (shelf : Files) (files files' fronts fronts' : List (List ℕ))
    (P : List ℕ → List ℕ → Type 0) → AllZip P files fronts
    → open_last (open_last shelf files fronts) files' fronts' ≡ open_last shelf (files ++ files')
    (fronts ++ fronts')
open_more shelf [] files' [] fronts' P h = refl
open_more shelf [] files' (front ∷ fronts) fronts' P h = absurd h
open_more shelf (file ∷ files) files' [] fronts' P h = absurd h
open_more shelf (file ∷ files) files' (front ∷ fronts) fronts' P h
    = open_more (open_behind shelf file (length front)) files files' fronts fronts' P h.1

-- ---- readings

pub read_none : (c : Option Files) (most : ℕ) → AreRead c c most [] []
read_none c most = record { front = λ shelf e. ([], tt, refl, e); short = tt }

pub read_one : {F : Type 0} (content : F → Option Files) (faults : F → ℕ) (old new : F) (most : ℕ)
    (file front : List ℕ)
    → IsRead (shelf_change content faults old new) most file front
    → AreRead (content old) (content new) most (file ∷ []) (front ∷ [])
read_one content faults old new most file front read = record {
  front = λ shelf e.
      let r = read.front shelf e in
      (r.0 ∷ [], (r.1, tt), ap (λ t. t ∷ []) r.2, r.3);
  short = (read.short, tt);
}

pub read_more : (before mid now : Option Files) (most : ℕ)
    (files files' fronts fronts' : List (List ℕ))
    → AreRead before mid most files fronts → AreRead mid now most files' fronts'
    → AreRead before now most (files ++ files') (fronts ++ fronts')
read_more before mid now most files files' fronts fronts' a b = record {
  front = λ shelf e.
      let r = a.front shelf e in
      let s = b.front (open_last shelf files fronts) r.3 in
      let more : HaveTexts shelf files' s.0 = subst
      (λ named. AllZip (λ file text. file_named file named ≡ Some text) files' s.0)
      (named_stays shelf files fronts) s.1 in (
        r.0 ++ s.0,
        zip_append (λ file text. file_named file shelf.named ≡ Some text) files files' r.0 s.0 r.1
            more,
        ap (λ l. l ++ fronts') r.2 ∙
            (ap (λ l. map (take most) r.0 ++ l) s.2 ∙ sym (map_append (take most) r.0 s.0)),
        s.3 ∙ ap Some
            (open_more shelf files files' fronts fronts' (λ file front. length front ≤ most)
            a.short),
      );
  short = zip_append (λ file front. length front ≤ most) files files' fronts fronts' a.short
      b.short;
}

pub stay_read : (before now : Option Files) (most : ℕ) (files fronts : List (List ℕ))
    → AreRead before now most files fronts → Stay before now
stay_read before now most files fronts read old e = let r = read.front old e
    in (open_last old files fronts, r.3, named_stays old files fronts)

-- ---- the same, behind the texts that were there

pub adds_none : (c : Option Files) (most : ℕ) (old : List (List ℕ)) → AddsFronts c c most [] old old
adds_none c most old = ([], read_none c most, sym (append-nil old))

pub adds_more : (before mid now : Option Files) (most : ℕ)
    (files files' old between new : List (List ℕ))
    → AddsFronts before mid most files old between → AddsFronts mid now most files' between new
    → AddsFronts before now most (files ++ files') old new
adds_more before mid now most files files' old between new a b = (
  a.0 ++ b.0,
  read_more before mid now most files files' a.0 b.0 a.1 b.1,
  b.2 ∙ (ap (λ l. l ++ b.0) a.2 ∙ append_assoc old a.0 b.0),
)

pub adds_one : {F : Type 0} (content : F → Option Files) (faults : F → ℕ) (before : Option Files)
    (mid new : F) (most : ℕ) (files : List (List ℕ)) (file front : List ℕ)
    (old texts texts' : List (List ℕ))
    → AddsFronts before (content mid) most files old texts
    → IsRead (shelf_change content faults mid new) most file front → texts' ≡ texts
    ++ front ∷ []
    → AddsFronts before (content new) most (files ++ file ∷ []) old texts'
adds_one content faults before mid new most files file front old texts texts' a read is =
    adds_more before (content mid) (content new) most files (file ∷ []) old texts texts' a
    (front ∷ [], read_one content faults mid new most file front read, is)

pub stay_added : (before now : Option Files) (most : ℕ) (files old new : List (List ℕ))
    → AddsFronts before now most files old new → Stay before now
stay_added before now most files old new a = stay_read before now most files a.0 a.1

-- a file behind those that were read is not read
pub unread_later : {F : Type 0} (content : F → Option Files) (faults : F → ℕ) (old mid new : F)
    (most : ℕ) (files before texts : List (List ℕ)) (status : Status)
    → AddsFronts (content old) (content mid) most files before texts → faults old ≤ faults mid
    → IsUnread (shelf_change content faults mid new) status
    → IsUnread (shelf_change content faults old new) status
unread_later content faults old mid new most files before texts status a later h =
    unread_on content faults old mid new status
    (stay_added (content old) (content mid) most files before texts a) later h

-- or is read
pub stay_later : {F : Type 0} (content : F → Option Files) (faults : F → ℕ) (old mid new : F)
    (most : ℕ) (files before texts : List (List ℕ)) (file front : List ℕ)
    → AddsFronts (content old) (content mid) most files before texts
    → IsRead (shelf_change content faults mid new) most file front
    → Stay (content old) (content new)
stay_later content faults old mid new most files before texts file front a read =
    stay_added (content old) (content new) most (files ++ file ∷ []) before (texts ++ front ∷ [])
    (adds_one content faults (content old) mid new most files file front before texts
    (texts ++ front ∷ []) a read refl)

-- the names of the first files and of the next one
pub names_more : {X : Type 0} (f : X → List ℕ) (xs : List X) (i : ℕ) (x : X) (file : List ℕ)
    → i < length xs → x ≡ get_or xs i x → file ≡ f x
    → map f (take i xs) ++ file ∷ [] ≡ map f (take (i + 1) xs)
names_more f xs i x file within is same =
    ap (λ l. map f (take i xs) ++ l ∷ []) same ∙
    (sym (map_push f (take i xs) x) ∙ sym (ap (map f) (take_next xs i x within is)))

-- ---- what holds of each file

at_in : {X : Type 0} (xs : List X) (i : ℕ) (x : X) → slice_get xs i ≡ Some x → In x xs
at_in [] i x is = none_is_some is
at_in (y ∷ xs) zero x is = subst (λ z. In z (y ∷ xs)) (some_is is) here
at_in (y ∷ xs) (suc i) x is = there (at_in xs i x is)

pub of_name : {X : Type 0} (P : List ℕ → Type 0) (f : X → List ℕ) (xs : List X) (i : ℕ) (x : X)
    (file : List ℕ) → HoldsOfEachFile P (map f xs) → i < length xs → x ≡ get_or xs i x
    → file ≡ f x → P file
of_name P f xs i x file each within is same = subst P (sym same)
    (each (f x) (in_map f xs (at_in xs i x (get_is xs i x within is))))

pub of_front : (P : List ℕ → Type 0) (files others : List (List ℕ))
    → HoldsOfEachFile P (files ++ others) → HoldsOfEachFile P files
of_front P files others each file h = each file (in_left files others h)

pub of_others : (P : List ℕ → Type 0) (files others : List (List ℕ))
    → HoldsOfEachFile P (files ++ others) → HoldsOfEachFile P others
of_others P files others each file h = each file (in_right files others h)

-- ---- all of them

pub all_added : (before now : Option Files) (most : ℕ) (files texts : List (List ℕ))
    → AddsFronts before now most files [] texts → AreRead before now most files texts
all_added before now most files texts a = subst (AreRead before now most files) (sym a.2) a.1

-- two readings after each other, the first behind no text
pub both_read : (before mid now : Option Files) (most : ℕ)
    (files others first between texts : List (List ℕ))
    → AddsFronts before mid most files first between → AddsFronts mid now most others between texts
    → first ≡ []
    → AreRead before now most (files ++ others) texts
both_read before mid now most files others first between texts a b none =
    all_added before now most (files ++ others) texts
    (subst (λ (f : List (List ℕ)). AddsFronts before now most (files ++ others) f texts) none
    (adds_more before mid now most files others first between texts a b))

-- ---- what was read of files

-- what was read is the whole text, or as much as the most of a longer one
abbrev pub IsFront : (most : ℕ) → (front text : List ℕ) → Type 0
IsFront most front text = (front ≡ text) ⊎ ((length front ≡ most) × (most < length text))

front_of : (most : ℕ) (text : List ℕ) → (length text ≤ most) ⊎ (most < length text)
    → IsFront most (take most text) text
front_of most text (inl short) = inl (take_all most text short)
front_of most text (inr long) = inr (length-take-le most text (omega (arith, long)), long)

fronts_of : (most : ℕ) (texts : List (List ℕ)) → AllZip (IsFront most) (map (take most) texts) texts
fronts_of most [] = tt
fronts_of most (text ∷ texts) =
    (front_of most text (le_or_lt (length text) most), fronts_of most texts)

same_fronts : (most : ℕ) (texts : List (List ℕ)) → AllZip (IsFront most) texts texts
same_fronts most [] = tt
same_fronts most (text ∷ texts) = (inl refl, same_fronts most texts)

-- what holds of what was read holds of the files, if it does so where files have more than the most
-- that are read
pub of_files : {F : Type 0} (f : ShelfChange F) (most : ℕ) (files fronts : List (List ℕ))
    (outcome : List (List ℕ) → Type 0)
    → ((texts : List (List ℕ)) → AllZip (IsFront most) fronts texts → outcome fronts
    → outcome texts)
    → AreRead (f.content f.old) (f.content f.new) most files fronts → outcome fronts
    → HoldsOfFileTexts f most files outcome
of_files f most files fronts outcome longer read h = go (f.content f.old) refl
  where
    go : (c : Option Files) → f.content f.old ≡ c → HoldsOfFileTexts f most files outcome
    go None is = (
      fronts,
      (
        zip_map _ _ files fronts
            (λ file front short shelf e. let c : None ≡ Some shelf = sym is ∙ e in absurd cc)
            read.short,
        λ shelf e. let c : None ≡ Some shelf = sym is ∙ e in absurd cc,
      ),
      h,
    )
    go (Some shelf) is =
        let r = read.front shelf is in (
          r.0,
          (
            zip_map (λ file text. file_named file shelf.named ≡ Some text) _ files r.0
                (λ file text named shelf' e.
                let c : Some shelf ≡ Some shelf' = sym is ∙ e in
                subst (λ (q : Files). file_named file q.named ≡ Some text)
                (same_Some shelf shelf' c) named) r.1,
            λ shelf' e.
                let c : Some shelf ≡ Some shelf' = sym is ∙ e in
                r.3 ∙ (ap (λ l. Some (open_last shelf files l)) r.2 ∙ ap
                (λ q. Some (open_last q files (map (take most) r.0)))
                (same_Some shelf shelf' c)),
          ),
          longer r.0 (subst (λ l. AllZip (IsFront most) l r.0) (sym r.2) (fronts_of most r.0)) h,
        )
