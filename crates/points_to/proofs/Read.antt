-- What tables of wanted numbers say of the facts.
use Rattle.std.proofs.Common.{◌≡◌, ◌+◌, ◌<◌, ◌≤◌, ℕ, zero, suc, true, ◌||◌, nat_eq, List, [], ◌∷◌, ◌++◌, map, length, get_or, slice_get, refl, sym, ap, ◌∙◌, subst, inl, inr, ⊎_elim, arith}
use Rattle.std.specs.Prelude.{◌⊎◌}
use Rattle.std.specs.List.{Contains, dedup, flat_map}
use Rattle.std.specs.List.Sorted.{IsStrictlyIncreasing, IsPermutation}
use Rattle.std.specs.Ordering.{nat_cmp, match_ordering}
use Rattle.std.specs.declared.cmp.Ordering.{Ordering}
use Rattle.std.specs.declared.cmp.Ordering.TheVariants.{Less, Equal, Greater}
use Rattle.std.specs.BTreeSet.{insert_key}
use lib.Dec.{eqb}
use Rattle.std.proofs.lemmas.List.Kept.{Contains-dedup_nat, Contains-from_dedup}
use Rattle.std.proofs.lemmas.List.Sorted.{Contains-permutation, IsPermutation-sym}
use Rattle.std.proofs.lemmas.Option.{slice_get_past}
use Rattle.flow_system.specs.declared.fact.Element.{Element}
use Rattle.flow_system.specs.declared.fact.Element.TheVariants.{Cell, Tag, Number}
use Rattle.flow_system.specs.declared.fact.Part.{Part}
use Rattle.flow_system.specs.declared.fact.Part.TheVariants.{Tags as tags, Field as field, Word as word}
use Rattle.points_to.specs.declared.facts.Item.{Item}
use Rattle.flow_system.specs.declared.fact.Place.{Place}
use Rattle.points_to.specs.declared.wanted.Kind.{Kind}
use Rattle.points_to.specs.declared.wanted.Wanted.{Wanted}
use Rattle.points_to.specs.declared.wanted.Wanted.TheVariants.{NodeTags, Tags as all_tags, Sites as cell_sites}
use Rattle.points_to.specs.Held.{In, here, there, item}
use Rattle.points_to.specs.declared.bits.Bits.{Bits}
use Rattle.points_to.specs.Bits.{word_of}
use Rattle.points_to.specs.Rows.{numbers_in, words_in, SameMembers}
use Rattle.points_to.proofs.Rows.{words_are}
use Rattle.points_to.specs.Wanted.{tag_in, site_in, wanted_of, wanted, place_of, SameSet, is_in, Lists, numbers_by, IsTableOfWanted}
use Rattle.points_to.specs.Joined.{Joined}
use Rattle.seq.proofs.Member.{none_in, cons_in, one_in, when_in, in_flat, flat_in}
use Rattle.seq.proofs.Truth.{or_cases, or_true, both_ways}
use Rattle.seq.proofs.Order.{lt_or_le, eq_from, eq_self}
use Rattle.flow_system.proofs.Numbered.{nat_equal}

-- a number is put into an ordered list
number_kept : (ks : List ℕ) (k j : ℕ) → In j ks → In j (insert_key nat_cmp ks k)
number_kept [] k j h = none_in h
number_kept (x ∷ ks) k j h = go (number_kept ks k j) (nat_cmp k x) h
  where
    go : (In j ks → In j (insert_key nat_cmp ks k)) → (o : Ordering) → In j (x ∷ ks)
        → In j (match_ordering o (k ∷ x ∷ ks) (x ∷ ks) (x ∷ insert_key nat_cmp ks k))
    go again Less h = there h
    go again Equal h = h
    go again Greater h = ⊎_elim (λ e. subst (λ y. In j (y ∷ insert_key nat_cmp ks k)) e here)
        (λ t. there (again t)) (cons_in x ks h)

number_put : (ks : List ℕ) (k : ℕ) → In k (insert_key nat_cmp ks k)
number_put [] k = here
number_put (x ∷ ks) k = go (number_put ks k) (nat_cmp k x) refl
  where
    go : In k (insert_key nat_cmp ks k) → (o : Ordering) → nat_cmp k x ≡ o
        → In k (match_ordering o (k ∷ x ∷ ks) (x ∷ ks) (x ∷ insert_key nat_cmp ks k))
    go again Less q = here
    go again Equal q = subst (λ y. In k (y ∷ ks)) (nat_equal k x q) here
    go again Greater q = there again

number_only : (ks : List ℕ) (k j : ℕ) → In j (insert_key nat_cmp ks k) → In j ks ⊎ In j (k ∷ [])
number_only [] k j h = inr h
number_only (x ∷ ks) k j h = go (number_only ks k j) (nat_cmp k x) h
  where
    go : (In j (insert_key nat_cmp ks k) → In j ks ⊎ In j (k ∷ [])) → (o : Ordering)
        → In j (match_ordering o (k ∷ x ∷ ks) (x ∷ ks) (x ∷ insert_key nat_cmp ks k))
        → In j (x ∷ ks) ⊎ In j (k ∷ [])
    go again Less h = ⊎_elim (λ e. inr (subst (λ y. In j (y ∷ [])) e here)) (λ t. inl t)
        (cons_in k (x ∷ ks) h)
    go again Equal h = inl h
    go again Greater h = ⊎_elim (λ e. inl (subst (λ y. In j (y ∷ ks)) e here))
        (λ t. ⊎_elim (λ a. inl (there a)) (λ b. inr b) (again t))
        (cons_in x (insert_key nat_cmp ks k) h)

pub put_joins : (old new : List ℕ) (n : ℕ) → new ≡ insert_key nat_cmp old n
    → Joined old (n ∷ []) new
put_joins old new n e = subst (Joined old (n ∷ [])) (sym e) (record {
  kept = number_kept old n;
  put = λ m h. subst (λ k. In k (insert_key nat_cmp old n)) (sym (one_in n h)) (number_put old n);
  only = number_only old n;
})

pub nothing_joins : (old : List ℕ) → Joined old [] old
nothing_joins old = record { kept = λ n h. h; put = λ n h. none_in h; only = λ n h. inl h }

-- membership as a test

pub is_in-in : (n : ℕ) (ns : List ℕ) → is_in n ns ≡ true → In n ns
is_in-in n [] e = cc
is_in-in n (m ∷ ns) e = ⊎_elim (λ a. subst (λ k. In n (k ∷ ns)) (eq_from n m a) here)
    (λ b. there (is_in-in n ns b)) (or_cases (nat_eq n m) (is_in n ns) e)

pub in-is_in : (n : ℕ) (ns : List ℕ) → In n ns → is_in n ns ≡ true
in-is_in n [] h = none_in h
in-is_in n (m ∷ ns) h = ⊎_elim
    (λ e. subst (λ k. (nat_eq n k || is_in n ns) ≡ true) e (ap (λ b. b || is_in n ns) (eq_self n)))
    (λ t. ap (λ b. nat_eq n m || b) (in-is_in n ns t) ∙ or_true (nat_eq n m))
    (cons_in m ns h)

members : (w : Wanted) (X : List Item) (ns : List ℕ) → Lists w X ns → SameSet ns (wanted w X)
members w X ns l = record {
  to = λ n h. is_in-in n (wanted w X) (sym (l.same n) ∙ in-is_in n ns h);
  from = λ n h. is_in-in n ns (l.same n ∙ in-is_in n (wanted w X) h);
}

pub lists_of : (w : Wanted) (X : List Item) (ns : List ℕ) → SameSet ns (wanted w X)
    → IsStrictlyIncreasing ns → Lists w X ns
lists_of w X ns s o = record {
  ascending = o;
  same = λ n. both_ways (is_in n ns) (is_in n (wanted w X))
      (λ e. in-is_in n (wanted w X) (s.to n (is_in-in n ns e)))
      (λ e. in-is_in n ns (s.from n (is_in-in n (wanted w X) e)));
}

-- membership, as the library says it
in-contains : (n : ℕ) (ns : List ℕ) → In n ns → Contains ns n
in-contains n [] h = none_in h
in-contains n (m ∷ ns) h = ⊎_elim
    (λ e. (0, omega arith, sym e))
    (λ t. let r = in-contains n ns t in let lt : r.0 < length ns = r.1
    in (suc r.0, omega (arith, lt), r.2))
    (cons_in m ns h)

at-in : (n : ℕ) (ns : List ℕ) (k : ℕ) → k < length ns → get_or ns k n ≡ n → In n ns
at-in n [] k lt e = absurd (omega (arith, lt))
at-in n (m ∷ ns) zero lt e = subst (λ y. In n (y ∷ ns)) (sym e) here
at-in n (m ∷ ns) (suc k) lt e = there (at-in n ns k (omega (arith, lt)) e)

contains-in : (n : ℕ) (ns : List ℕ) → Contains ns n → In n ns
contains-in n ns r = at-in n ns r.0 r.1 r.2

-- a sort, and repeats left out
pub sorted_same : (ns ms : List ℕ) → IsPermutation ns ms → SameSet (dedup eqb ms) ns
sorted_same ns ms p = record {
  to = λ n h. contains-in n ns
      (Contains-permutation ms ns n (IsPermutation-sym ns ms p)
      (Contains-from_dedup eqb ms n (in-contains n (dedup eqb ms) h)));
  from = λ n h. contains-in n (dedup eqb ms)
      (Contains-dedup_nat ms n (Contains-permutation ns ms n p (in-contains n ns h)));
}

-- the words of a set, by their numbers
pub words_of : (s : Bits) → words_in s ≡ map word_of (numbers_in s)
words_of s = words_are s.blocks.items

-- the tags among the same words
pub tags_like : (us ws : List Element) (ns : List ℕ) → SameMembers us ws
    → SameSet ns (flat_map tag_in us) → SameSet ns (flat_map tag_in ws)
tags_like us ws ns m s = record {
  to = λ n h. let r = flat_in tag_in us (s.to n h) in in_flat tag_in ws (m.into r.0 r.1) r.2;
  from = λ n h. let r = flat_in tag_in ws h in s.from n (in_flat tag_in us (m.back r.0 r.1) r.2);
}

-- numbers under a newtype
pub unwrapped : {X : Type 0} (number : X → ℕ) (wrap : ℕ → X) → ((n : ℕ) → number (wrap n) ≡ n)
    → (ns : List ℕ) → map number (map wrap ns) ≡ ns
unwrapped number wrap e [] = refl
unwrapped number wrap e (n ∷ ns) = ap (λ k. k ∷ map number (map wrap ns)) (e n) ∙ ap (λ l. n ∷ l)
    (unwrapped number wrap e ns)

-- tables
no_numbers : (w : Wanted) → Lists w [] []
no_numbers w = record { ascending = λ k lt. absurd (omega (arith, lt)); same = λ n. refl }

module _ {X : Type 0} (number : X → ℕ) where
  pub longer : (table : List (List X)) (xs : List X) → length (table ++ xs ∷ []) ≡ length table + 1
  longer [] xs = refl
  longer (y ∷ table) xs = let e : length (table ++ xs ∷ []) ≡ length table + 1 = longer table xs
      in omega (arith, e)

  -- what holds of each entry and of one that is put after them holds of each
  pub entry : (table : List (List X)) (m : ℕ) (xs : List X) (P : ℕ → List ℕ → Type 0)
      → ((m : ℕ) → m < length table → P m (numbers_by number (slice_get table m)))
      → P (length table) (map number xs) → m < length table + 1
      → P m (numbers_by number (slice_get (table ++ xs ∷ []) m))
  entry [] zero xs P all last lt = last
  entry [] (suc m) xs P all last lt = absurd (omega (arith, lt))
  entry (y ∷ table) zero xs P all last lt = all 0 (omega arith)
  entry (y ∷ table) (suc m) xs P all last lt = entry table m xs (λ m. P (suc m))
      (λ m lt. all (suc m) (omega (arith, lt))) last (omega (arith, lt))

module _ {X : Type 0} (number : X → ℕ) (H : Place → List Item) (k : Kind) (w : Wanted) where
  pub record TableSoFar (table : List (List X)) (n : ℕ) : Type 0 where
    pub many : length table ≡ n
    pub lists : (m : ℕ) → m < n → Lists w (H (place_of k m)) (numbers_by number (slice_get table m))

  pub no_table : TableSoFar [] 0
  no_table = record { many = refl; lists = λ m lt. absurd (omega (arith, lt)) }

  pub table_more : (table : List (List X)) (n : ℕ) (xs : List X) → TableSoFar table n
      → Lists w (H (place_of k n)) (map number xs) → TableSoFar (table ++ xs ∷ []) (n + 1)
  table_more table n xs t l = record {
    many = longer number table xs ∙ ap (λ m. m + 1) t.many;
    lists = λ m lt. entry number table m xs (λ m. Lists w (H (place_of k m)))
        (λ m lt. t.lists m (omega (arith, t.many)))
        (subst (λ n. Lists w (H (place_of k n)) (map number xs)) (sym t.many) l)
        (omega (arith, t.many, lt));
  }

  pub table_done : (table : List (List X)) (n : ℕ) → TableSoFar table n
      → ((m : ℕ) → n ≤ m → H (place_of k m) ≡ []) → IsTableOfWanted number H k w table
  table_done table n t past m = ⊎_elim
      (λ lt. t.lists m lt)
      (λ le. subst (λ X. Lists w X (numbers_by number (slice_get table m))) (sym (past m le))
      (subst (λ o. Lists w [] (numbers_by number o))
      (sym (slice_get_past table m (omega (arith, t.many, le)))) (no_numbers w)))
      (lt_or_le m n)

-- what readers say
pub tag_is : (u : Element) (t : ℕ) → In t (tag_in u) → u ≡ Tag t
tag_is (Cell s) t h = none_in h
tag_is (Tag v) t h = ap Tag (sym (one_in v h))
tag_is Number t h = none_in h

pub site_is : (u : Element) (s : ℕ) → In s (site_in u) → u ≡ Cell s
site_is (Cell v) s h = ap Cell (sym (one_in v h))
site_is (Tag t) s h = none_in h
site_is Number s h = none_in h

pub node_tags : (X : List Item) (ns : List ℕ) → Lists NodeTags X ns → (t : ℕ)
    → (In t ns → In (item tags (Tag t)) X) × (In (item tags (Tag t)) X → In t ns)
node_tags X ns l t = (
  λ h. let r = flat_in (λ i. wanted_of NodeTags i.part i.word) X
      ((members NodeTags X ns l).to t h) in by r.0.part r.0.word r.1 r.2,
  λ h. (members NodeTags X ns l).from t
      (in_flat (λ i. wanted_of NodeTags i.part i.word) X h here),
)
  where
    by : (q : Part) (u : Element) → In (item q u) X → In t (wanted_of NodeTags q u)
        → In (item tags (Tag t)) X
    by tags u x y = subst (λ v. In (item tags v) X) (tag_is u t y) x
    by (field c i) u x y = none_in y
    by (word j) u x y = none_in y

pub tags_and_words : (X : List Item) (ns : List ℕ) → Lists all_tags X ns → (t : ℕ)
    → (In t ns → In (item tags (Tag t)) X ⊎ In (item (word 0) (Tag t)) X)
    × (In (item tags (Tag t)) X ⊎ In (item (word 0) (Tag t)) X → In t ns)
tags_and_words X ns l t = (
  λ h. let r = flat_in (λ i. wanted_of all_tags i.part i.word) X ((members all_tags X ns l).to t h)
      in by r.0.part r.0.word r.1 r.2,
  λ o. (members all_tags X ns l).from t
      (⊎_elim (λ h. in_flat (λ i. wanted_of all_tags i.part i.word) X h here)
      (λ h. in_flat (λ i. wanted_of all_tags i.part i.word) X h here) o),
)
  where
    by : (q : Part) (u : Element) → In (item q u) X → In t (wanted_of all_tags q u)
        → In (item tags (Tag t)) X ⊎ In (item (word 0) (Tag t)) X
    by tags u x y = inl (subst (λ v. In (item tags v) X) (tag_is u t y) x)
    by (field c i) u x y = none_in y
    by (word j) u x y = let w = when_in (nat_eq j 0) (tag_in u) y
        in inr (subst (λ v. In (item (word 0) v) X) (tag_is u t w.1)
        (subst (λ j. In (item (word j) u) X) (eq_from j 0 w.0) x))

pub cells : (X : List Item) (ns : List ℕ) → Lists cell_sites X ns → (s : ℕ)
    → (In s ns → In (item (word 0) (Cell s)) X) × (In (item (word 0) (Cell s)) X → In s ns)
cells X ns l s = (
  λ h. let r = flat_in (λ i. wanted_of cell_sites i.part i.word) X
      ((members cell_sites X ns l).to s h) in by r.0.part r.0.word r.1 r.2,
  λ h. (members cell_sites X ns l).from s
      (in_flat (λ i. wanted_of cell_sites i.part i.word) X h here),
)
  where
    by : (q : Part) (u : Element) → In (item q u) X → In s (wanted_of cell_sites q u)
        → In (item (word 0) (Cell s)) X
    by tags u x y = none_in y
    by (field c i) u x y = none_in y
    by (word j) u x y = let w = when_in (nat_eq j 0) (site_in u) y
        in subst (λ v. In (item (word 0) v) X) (site_is u s w.1)
        (subst (λ j. In (item (word j) u) X) (eq_from j 0 w.0) x)
