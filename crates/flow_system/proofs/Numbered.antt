-- Sets by their numbers, and their rows of readers.
use Rattle.std.proofs.Common.{◌≡◌, ◌+◌, ◌<◌, ◌≤◌, ℕ, zero, suc, Bool, true, false, cond, ◌||◌, List, [], ◌∷◌, ◌++◌, length, get_or, slice_set, take, replicate, Option, Some, None, Result, Ok, Err, slice_get, refl, sym, ap, ◌∙◌, subst, inl, inr, ⊎_elim, arith, append-nil, append_assoc}
use Rattle.std.specs.Prelude.{◌⊎◌, ◌↔◌, unwrap_or}
use Rattle.std.specs.List.{flat_map, fold}
use Rattle.std.specs.Option.{option_map, is_some}
use Rattle.std.specs.Result.{is_err, OnOk}
use Rattle.std.specs.declared.cmp.Ordering.{Ordering}
use Rattle.std.specs.declared.cmp.Ordering.TheVariants.{Less, Equal, Greater}
use Rattle.std.specs.Ordering.{nat_cmp, is_eq}
use Rattle.std.proofs.lemmas.Bool.{cases_eq, false≢true}
use Rattle.std.proofs.lemmas.Bool.Decides.{nat_tests}
use Rattle.std.proofs.lemmas.List.{get_or-set_other, length-set, length-replicate, get_or-replicate, take_more, map-append, length-map, length-take-le}
use Rattle.std.proofs.lemmas.List.Elements.{All-nil, All-cons}
use Rattle.std.proofs.lemmas.Option.{slice_get_within, slice_get-get_or, get_or_from_slice_get}
use Rattle.seq.proofs.Order.{eq_from, eq_self}
use Rattle.seq.proofs.Truth.{or_true, or_false}
use Rattle.seq.proofs.Lists.{get_last, get_set}
use Rattle.flow_system.specs.Inclusions.{Place, site, var, result, Inclusion}
use Rattle.flow_system.specs.declared.inclusion.Inclusion as TheInclusion
use Rattle.flow_system.specs.Written.{inclusion_of, shown}
use Rattle.flow_system.specs.contracts.fact.PlaceOrd.TheImpl as place_ord
use Rattle.flow_system.specs.Readers.{named, named_sources, same_place, is_one_of, with_set, sets, readers_from, readers}
use Rattle.flow_system.specs.Rows.{Numbers, RowBelongsToSet, IsReaderIndex, AreEarlierInclusions, AppendsReader, with_reader, RecordsReader, RecordsReaderOfAll}

-- ---- places

abbrev pub place_order : Place → Place → Ordering
place_order = (place_ord.ghosts).cmp

pub nat_equal : (m n : ℕ) → nat_cmp m n ≡ Equal → m ≡ n
nat_equal m n e = grind (arith, nat_tests)

nat_self : (n : ℕ) → nat_cmp n n ≡ Equal
nat_self n = grind (arith, nat_tests)

place_equal : (p q : Place) → place_order p q ≡ Equal → p ≡ q
place_equal (site s) (site t) e = ap site (nat_equal s t e)
place_equal (site s) (var t) e = cc
place_equal (site s) (result t) e = cc
place_equal (var s) (site t) e = cc
place_equal (var s) (var t) e = ap var (nat_equal s t e)
place_equal (var s) (result t) e = cc
place_equal (result s) (site t) e = cc
place_equal (result s) (var t) e = cc
place_equal (result s) (result t) e = ap result (nat_equal s t e)

place_self : (p : Place) → place_order p p ≡ Equal
place_self (site s) = nat_self s
place_self (var x) = nat_self x
place_self (result f) = nat_self f

same_equal : (p q : Place) → same_place p q ≡ true → p ≡ q
same_equal (site s) (site t) e = ap site (eq_from s t e)
same_equal (site s) (var t) e = cc
same_equal (site s) (result t) e = cc
same_equal (var s) (site t) e = cc
same_equal (var s) (var t) e = ap var (eq_from s t e)
same_equal (var s) (result t) e = cc
same_equal (result s) (site t) e = cc
same_equal (result s) (var t) e = cc
same_equal (result s) (result t) e = ap result (eq_from s t e)

same_self : (p : Place) → same_place p p ≡ true
same_self (site s) = eq_self s
same_self (var x) = eq_self x
same_self (result f) = eq_self f

-- ---- lists of places

there_one_of : (ps : List Place) (q : Place) (n : ℕ) → slice_get ps n ≡ Some q
    → is_one_of ps q ≡ true
there_one_of [] q n e = cc
there_one_of (p ∷ ps) q zero e =
    let same : p ≡ q = cc in
    ap (λ p. same_place q p || is_one_of ps q) same ∙ ap (λ b. b || is_one_of ps q) (same_self q)
there_one_of (p ∷ ps) q (suc n) e = ap (λ b. same_place q p || b) (there_one_of ps q n e) ∙ or_true
    (same_place q p)

one_of_there : (ps : List Place) (q : Place) → is_one_of ps q ≡ true → (n : ℕ)
    × (slice_get ps n ≡ Some q)
one_of_there [] q e = cc
one_of_there (p ∷ ps) q e = go (one_of_there ps q) (same_place q p) refl e
  where
    go : (is_one_of ps q ≡ true → (n : ℕ) × (slice_get ps n ≡ Some q)) → (b : Bool)
        → same_place q p ≡ b → (b || is_one_of ps q) ≡ true → (n : ℕ)
        × (slice_get (p ∷ ps) n ≡ Some q)
    go again true s e = (0, ap Some (sym (same_equal q p s)))
    go again false s e = let h = again e in (suc h.0, h.1)

one_of_push : (ps : List Place) (q p : Place) → is_one_of (ps ++ q ∷ []) p ≡
    (is_one_of ps p || same_place p q)
one_of_push [] q p = or_false (same_place p q)
one_of_push (x ∷ ps) q p = ap (λ b. same_place p x || b) (one_of_push ps q p) ∙ grouped
    (same_place p x) (is_one_of ps p) (same_place p q)
  where
    grouped : (a b c : Bool) → (a || (b || c)) ≡ ((a || b) || c)
    grouped true b c = refl
    grouped false b c = refl

in_front : {X : Type 0} (ps : List X) (q p : X) (n : ℕ) → slice_get ps n ≡ Some p
    → slice_get (ps ++ q ∷ []) n ≡ Some p
in_front [] q p n e = cc
in_front (x ∷ ps) q p zero e = e
in_front (x ∷ ps) q p (suc n) e = in_front ps q p n e

front_or_end : {X : Type 0} (ps : List X) (q p : X) (n : ℕ) → slice_get (ps ++ q ∷ []) n ≡ Some p
    → (slice_get ps n ≡ Some p) ⊎ ((n ≡ length ps) × (p ≡ q))
front_or_end [] q p zero e = inr (refl, cc)
front_or_end [] q p (suc n) e = cc
front_or_end (x ∷ ps) q p zero e = inl e
front_or_end (x ∷ ps) q p (suc n) e = ⊎_elim (λ h. inl h) (λ h. inr (ap suc h.0, h.1))
    (front_or_end ps q p n e)

-- ---- numbers

-- what a call ensures where it gave no error
pub without_error : {T E : Type 0} {P : Type 0} (r : Result T E) → is_err r ≡ false → OnOk r P → P
without_error (Ok x) e h = h
without_error (Err x) e h = absurd (false≢true (sym e))

-- a set that has a number is there already
pub known_set : (table : Place → Option ℕ) (ps : List Place) (q : Place) → Numbers table ps
    → is_some (table q) ≡ true → ps ≡ with_set ps q
known_set table ps q h e = go (table q) refl
  where
    go : (o : Option ℕ) → table q ≡ o → ps ≡ with_set ps q
    go None t = absurd (false≢true (subst (λ o. is_some o ≡ true) t e))
    go (Some n) t = sym
        (ap (λ b. cond b ps (ps ++ q ∷ [])) (there_one_of ps q n ((h.number q n).0 t)))

no_number : (table : Place → Option ℕ) (q : Place) (n : ℕ) {G : Type 0} → is_some (table q) ≡ false
    → table q ≡ Some n → G
no_number table q n none t = absurd (false≢true (sym (subst (λ o. is_some o ≡ false) t none)))

-- a set that has none is new
pub new_set : (table : Place → Option ℕ) (ps : List Place) (q : Place) → Numbers table ps
    → is_some (table q) ≡ false → ps ++ q ∷ [] ≡ with_set ps q
new_set table ps q h none = go (is_one_of ps q) refl
  where
    go : (b : Bool) → is_one_of ps q ≡ b → ps ++ q ∷ [] ≡ with_set ps q
    go false e = sym (ap (λ b. cond b ps (ps ++ q ∷ [])) e)
    go true e = let t = one_of_there ps q e in no_number table q t.0 none ((h.number q t.0).1 t.1)

-- and gets the next number
pub numbers_more : (table table' : Place → Option ℕ) (ps : List Place) (q : Place) (n : ℕ)
    → n ≡ length ps → Numbers table ps → is_some (table q) ≡ false
    → ((p : Place) → table' p ≡ cond (is_eq (place_order q p)) (Some n) (table p))
    → Numbers table' (ps ++ q ∷ [])
numbers_more table table' ps q n many h none now = record
    { number = λ p k. (there p k (place_order q p) refl, back p k) }
  where
    there : (p : Place) (k : ℕ) (o : Ordering) → place_order q p ≡ o → table' p ≡ Some k
        → slice_get (ps ++ q ∷ []) k ≡ Some p
    there p k Equal e t =
        let found : table' p ≡ Some n = now p ∙ ap (λ o. cond (is_eq o) (Some n) (table p)) e in
        let k_is : k ≡ length ps = cc in
        let p_is : q ≡ p = place_equal q p e in
        ap (slice_get (ps ++ q ∷ [])) k_is ∙ get_last ps q ∙ ap Some p_is
    there p k Less e t =
        let found : table' p ≡ table p = now p ∙ ap (λ o. cond (is_eq o) (Some n) (table p)) e in
        in_front ps q p k ((h.number p k).0 (sym found ∙ t))
    there p k Greater e t =
        let found : table' p ≡ table p = now p ∙ ap (λ o. cond (is_eq o) (Some n) (table p)) e in
        in_front ps q p k ((h.number p k).0 (sym found ∙ t))

    old : (p : Place) (k : ℕ) (o : Ordering) → place_order q p ≡ o → table p ≡ Some k
        → table' p ≡ Some k
    old p k Equal e t = no_number table q k none (ap table (place_equal q p e) ∙ t)
    old p k Less e t = now p ∙ ap (λ o. cond (is_eq o) (Some n) (table p)) e ∙ t
    old p k Greater e t = now p ∙ ap (λ o. cond (is_eq o) (Some n) (table p)) e ∙ t

    back : (p : Place) (k : ℕ) → slice_get (ps ++ q ∷ []) k ≡ Some p → table' p ≡ Some k
    back p k e = ⊎_elim
        (λ s. old p k (place_order q p) refl ((h.number p k).1 s))
        (λ s. ap table' s.1 ∙ now q ∙ ap (λ o. cond (is_eq o) (Some n) (table q)) (place_self q) ∙
        ap Some (many ∙ sym s.0))
        (front_or_end ps q p k e)

-- ---- rows

set_other : {X : Type 0} (xs : List X) (i j : ℕ) (y x : X) → (j ≡ i → ⊥) → slice_get xs j ≡ Some x
    → slice_get (slice_set xs i y) j ≡ Some x
set_other xs i j y x apart e =
    let l : j < length (slice_set xs i y) = omega
    (arith, slice_get_within xs j x e, length-set xs i y) in
    slice_get-get_or (slice_set xs i y) j x l ∙ ap Some
    (get_or-set_other xs i j y x apart ∙ get_or_from_slice_get xs j x x e)

-- rows under another name
pub rows_same : (ps : List Place) (of of' : Place → List ℕ) (rows : List (List ℕ))
    → ((q : Place) → of q ≡ of' q) → RowBelongsToSet ps of rows → RowBelongsToSet ps of' rows
rows_same ps of of' rows same h = record
    { as_many = h.as_many; row = λ n q e. h.row n q e ∙ ap Some (same q) }

-- where the set has a row
module _ (ps : List Place) (n : ℕ) (q : Place) (o : Option ℕ)
    (number : (k : ℕ) → (o ≡ Some k) ↔ (slice_get ps k ≡ Some q)) where
  apart_from : (qs : List Place) (p : Place) (b : Bool) → same_place p q ≡ b → (p ≡ q → ⊥)
      → is_one_of qs p ≡ is_one_of (qs ++ q ∷ []) p
  apart_from qs p true s apart = absurd (apart (same_equal p q s))
  apart_from qs p false s apart = sym
      (one_of_push qs q p ∙ ap (λ b. is_one_of qs p || b) s ∙ or_false (is_one_of qs p))

  same_reader : (of : Place → List ℕ) (qs : List Place) (p : Place) → (p ≡ q → ⊥)
      → with_reader of n qs p ≡ with_reader of n (qs ++ q ∷ []) p
  same_reader of qs p apart = ap (λ b. of p ++ cond b (n ∷ []) [])
      (apart_from qs p (same_place p q) refl apart)

  pub set_noted : (old : List (List ℕ)) (at : ℕ) (row' row : List ℕ) → o ≡ Some at
      → slice_get old at ≡ Some row → AppendsReader n row row'
      → RecordsReader ps n q old (slice_set old at row')
  set_noted old at row' row is there ends = record {
    as_many = length-set old at row';
    notes = λ of qs earlier h. record {
      as_many = length-set old at row' ∙ h.as_many;
      row = λ k p e. ⊎_elim
          (λ same. mine of qs earlier h k p e same)
          (λ other. set_other old at k row' (with_reader of n (qs ++ q ∷ []) p) other
          (h.row k p e ∙ ap Some
          (same_reader of qs p (λ is_q. other (cc (is, (number k).1 (e ∙ ap Some is_q)))))))
          (cases_eq k at);
    };
  }
    where
      mine : (of : Place → List ℕ) (qs : List Place) → ((p : Place) → AreEarlierInclusions n (of p))
          → RowBelongsToSet ps (with_reader of n qs) old → (k : ℕ) (p : Place)
          → slice_get ps k ≡ Some p → k ≡ at
          → slice_get (slice_set old at row') k ≡ Some (with_reader of n (qs ++ q ∷ []) p)
      mine of qs earlier h k p e same =
          let here : slice_get ps at ≡ Some q = (number at).0 is in
          let p_is : q ≡ p = cc in
          let before : row ≡ with_reader of n qs q = cc (h.row at q here) in
          let after : row' ≡ of q ++ n ∷ [] = ends.ends (of q) (is_one_of qs q) (earlier q) before
          in
          let one : is_one_of (qs ++ q ∷ []) q ≡ true
          = there_one_of (qs ++ q ∷ []) q (length qs) (get_last qs q) in
          let now : row' ≡ with_reader of n (qs ++ q ∷ []) q
          = after ∙ sym (ap (λ b. of q ++ cond b (n ∷ []) []) one) in
          ap (slice_get (slice_set old at row')) same ∙ get_set old at row'
          (slice_get_within old at row there) ∙ ap Some now ∙ ap
          (λ p. Some (with_reader of n (qs ++ q ∷ []) p)) p_is

  -- where it has none
  pub none_noted : (old : List (List ℕ)) → o ≡ None → RecordsReader ps n q old old
  none_noted old is = record {
    as_many = refl;
    notes = λ of qs earlier h. record {
      as_many = h.as_many;
      row = λ k p e. h.row k p e ∙ ap Some
          (same_reader of qs p (λ is_q. cc (is, (number k).1 (e ∙ ap Some is_q))));
    };
  }

-- no set is noted yet
pub none_so_far : (ps : List Place) (n : ℕ) (old : List (List ℕ))
    → RecordsReaderOfAll ps n [] old old
none_so_far ps n old = record {
  as_many = refl;
  notes = λ of earlier h. rows_same ps of (with_reader of n []) old
      (λ q. sym (append-nil (of q))) h;
}

-- one set more
pub sets_more : (ps : List Place) (n : ℕ) (qs qs' : List Place) (q : Place)
    (old new newer : List (List ℕ)) → qs' ≡ qs ++ q ∷ [] → RecordsReaderOfAll ps n qs old new
    → RecordsReader ps n q new newer → RecordsReaderOfAll ps n qs' old newer
sets_more ps n qs qs' q old new newer e h t =
    subst (λ qs. RecordsReaderOfAll ps n qs old newer) (sym e)
    (record {
      as_many = t.as_many ∙ h.as_many;
      notes
          = λ of earlier r. t.notes of qs earlier (h.notes of earlier r);
    })

-- rows without readers
pub empty_are : (ps : List Place) (count : ℕ) (rows : List (List ℕ)) → count ≡ length ps
    → rows ≡ replicate count [] → RowBelongsToSet ps (λ q. readers_from 0 q []) rows
empty_are ps count rows many is = record {
  as_many = ap length is ∙ length-replicate count [] ∙ many;
  row = λ n q e.
      let l : n < count = omega (arith, slice_get_within ps n q e, many) in
      let m : n < length rows = omega
      (arith, l, ap length is, length-replicate {A = List ℕ} count []) in
      slice_get-get_or rows n [] m ∙ ap Some
      (ap (λ rows. get_or rows n []) is ∙ get_or-replicate count n [] [] l);
}

-- one inclusion more
readers_more : (n : ℕ) (q : Place) (cs : List Inclusion) (c : Inclusion)
    → readers_from n q (cs ++ c ∷ []) ≡ readers_from n q cs
    ++ cond (is_one_of (named_sources c) q) ((n + length cs) ∷ []) []
readers_more n q [] c = append-nil (cond (is_one_of (named_sources c) q) (n ∷ []) []) ∙ ap
    (λ m. cond (is_one_of (named_sources c) q) (m ∷ []) []) (omega arith)
readers_more n q (x ∷ cs) c =
    let mine = cond (is_one_of (named_sources x) q) (n ∷ []) [] in
    let last = λ (m : ℕ). cond (is_one_of (named_sources c) q) (m ∷ []) [] in
    let e : suc n + length cs ≡ n + suc (length cs) = omega arith in
    ap (λ t. mine ++ t)
    (readers_more (suc n) q cs c ∙ ap (λ m. readers_from (suc n) q cs ++ last m) e) ∙ sym
    (append_assoc mine (readers_from (suc n) q cs) (last (n + suc (length cs))))

earlier_readers : (n m : ℕ) (q : Place) (cs : List Inclusion) → n + length cs ≤ m
    → AreEarlierInclusions m (readers_from n q cs)
earlier_readers n m q [] l = All-nil (λ k. k < m)
earlier_readers n m q (c ∷ cs) l = go (is_one_of (named_sources c) q)
    (earlier_readers (suc n) m q cs (omega (arith, l)))
  where
    go : (b : Bool) → AreEarlierInclusions m (readers_from (suc n) q cs)
        → AreEarlierInclusions m (cond b (n ∷ []) [] ++ readers_from (suc n) q cs)
    go true h = All-cons (λ k. k < m) n (readers_from (suc n) q cs) (omega (arith, l)) h
    go false h = h

pub shown_more : (xs : List TheInclusion.Inclusion) (i : ℕ) (x : TheInclusion.Inclusion)
    → i < length xs → x ≡ get_or xs i x → shown (take (i + 1) xs) ≡ shown (take i xs)
    ++ inclusion_of x ∷ []
shown_more xs i x lt is = ap shown (take_more xs i x lt ∙ ap (λ y. take i xs ++ y ∷ []) (sym is)) ∙
    map-append inclusion_of (take i xs) (x ∷ [])

pub many_shown : (xs : List TheInclusion.Inclusion) (i : ℕ) → i ≤ length xs
    → i ≡ length (shown (take i xs))
many_shown xs i l = sym (length-map (take i xs) inclusion_of ∙ length-take-le i xs l)

pub inclusion_noted : (ps : List Place) (n : ℕ) (cs cs' : List Inclusion) (c : Inclusion)
    (qs : List Place) (old new : List (List ℕ)) → n ≡ length cs → cs' ≡ cs ++ c ∷ []
    → qs ≡ named_sources c
    → RowBelongsToSet ps (λ q. readers_from 0 q cs) old → RecordsReaderOfAll ps n qs old new
    → RowBelongsToSet ps (λ q. readers_from 0 q cs') new
inclusion_noted ps n cs cs' c qs old new many more names h t =
    let m : 0 + length cs ≡ n = omega (arith, many) in
    rows_same ps (with_reader (λ q. readers_from 0 q cs) n qs) (λ q. readers_from 0 q cs') new
    (λ q. sym
    (ap (readers_from 0 q) more ∙ readers_more 0 q cs c ∙ ap
    (λ m. readers_from 0 q cs ++ cond (is_one_of (named_sources c) q) (m ∷ []) []) m ∙ ap
    (λ qs. with_reader (λ q. readers_from 0 q cs) n qs q) (sym names)))
    (t.notes (λ q. readers_from 0 q cs) (λ q. earlier_readers 0 n q cs (omega (arith, many))) h)

-- ---- what the index says

none_past : {X : Type 0} (xs : List X) (n : ℕ) → slice_get xs n ≡ None → length xs ≤ n
none_past [] n e = omega arith
none_past (x ∷ xs) zero e = cc
none_past (x ∷ xs) (suc n) e = omega (arith, none_past xs n e)

pub row_there : (cs : List Inclusion) (ps : List Place) (rows : List (List ℕ)) (n : ℕ)
    (row : List ℕ) → IsReaderIndex cs ps rows → slice_get rows n ≡ Some row → row ≡ readers cs n
unfolding readers
row_there cs ps rows n row h e = go (slice_get ps n) refl
  where
    go : (o : Option Place) → slice_get ps n ≡ o → row ≡ unwrap_or
        (option_map (λ q. readers_from 0 q cs) (slice_get (sets cs) n)) []
    go (Some q) s =
        let same : row ≡ readers_from 0 q cs = cc (h.noted.row n q s) in
        same ∙ ap (λ o. unwrap_or (option_map (λ q. readers_from 0 q cs) o) [])
        (sym s ∙ ap (λ ps. slice_get ps n) h.listed)
    go None s = absurd
        (omega (arith, slice_get_within rows n row e, none_past ps n s, h.noted.as_many))

pub no_row_there : (cs : List Inclusion) (ps : List Place) (rows : List (List ℕ)) (n : ℕ)
    → IsReaderIndex cs ps rows → slice_get rows n ≡ None → [] ≡ readers cs n
unfolding readers
no_row_there cs ps rows n h e = go (slice_get ps n) refl
  where
    go : (o : Option Place) → slice_get ps n ≡ o → [] ≡ unwrap_or
        (option_map (λ q. readers_from 0 q cs) (slice_get (sets cs) n)) []
    go (Some q) s = cc (e, h.noted.row n q s)
    go None s = ap (λ o. unwrap_or (option_map (λ q. readers_from 0 q cs) o) [])
        (sym s ∙ ap (λ ps. slice_get ps n) h.listed)

-- what `system` makes
pub indexed : (cs cs' : List Inclusion) (names ps ps' : List Place) (rows rows' : List (List ℕ))
    → RowBelongsToSet ps' (λ q. readers_from 0 q cs') rows → names ≡ flat_map named cs
    → ps ≡ fold with_set [] names
    → cs' ≡ cs → ps' ≡ ps → rows' ≡ rows → IsReaderIndex cs ps rows'
unfolding sets
indexed cs cs' names ps ps' rows rows' noted e listed same_cs same_ps same_rows = record {
  listed = listed ∙ ap (fold with_set []) e;
  noted = subst (λ rows. RowBelongsToSet ps (λ q. readers_from 0 q cs) rows) (sym same_rows)
      (subst (λ ps. RowBelongsToSet ps (λ q. readers_from 0 q cs) rows) same_ps
      (subst (λ cs. RowBelongsToSet ps' (λ q. readers_from 0 q cs) rows) same_cs noted));
}
