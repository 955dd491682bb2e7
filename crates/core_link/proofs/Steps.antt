-- Steps of the loops over names, imports and declarations.
use Rattle.std.proofs.Common.{◌≡◌, ℕ, ◌+◌, ◌<◌, ◌≤◌, Bool, true, false, cond, List, [], ◌∷◌, ◌++◌, drop, get_or, length, map, take, refl, sym, ap, ◌∙◌, arith, Option, Some, None}
use Rattle.std.specs.Prelude.{◌==◌, ◌||◌, not}
use Rattle.std.specs.List.{flat_map}
use Rattle.std.specs.Ordering.{nat_cmp}
use Rattle.std.specs.BTreeMap.{is_at}
use Rattle.std.specs.BTreeSet.{BTreeSet, contains}
use Rattle.std.specs.HashSet.{HashSet}
use Rattle.std.specs.Str.{bytes_eq}
use Rattle.std.proofs.lemmas.List.{drop_all}
use Rattle.std.proofs.lemmas.Bool.Decides.{nat_tests}
use denote.Ref.{Bor}
use Rattle.seq.proofs.Lists.{drop_next, map_append}
use Rattle.core_reader.specs.declared.syntax.Binder.{Binder}
use Rattle.core_reader.specs.LexedOf.{texts_of}
use Rattle.arity_check.specs.Faults.{with_member}
use Rattle.core_link.specs.Module.{Module, Import, text_in}
use Rattle.core_link.specs.Found.{earlier_place_if, earliest, first_repeated_name, with_names_seen}
use Rattle.core_link.specs.Shared.{has, found_at, lacks}
use Rattle.core_link.proofs.Takings.{pairs, names_of}
use Rattle.core_link.proofs.Tables.{or_again, not_not}

-- ---- texts that are put into a table

pub next_text : {X Y : Type 0} (g : X → Y) (text : Y → List ℕ) (items : List X) (i : ℕ) (d : X)
    (word : List ℕ) → i < length items → word ≡ text (g (get_or items i d))
    → map text (map g (drop i items)) ≡ word ∷ map text (map g (drop (i + 1) items))
next_text g text items i d word l e = ap (λ xs. map text (map g xs)) (drop_next items i d l) ∙ ap
    (λ w. w ∷ map text (map g (drop (i + 1) items))) (sym e)

pub next_name : {X : Type 0} (text : X → List ℕ) (items : List X) (i : ℕ) (d : X) (word : List ℕ)
    → i < length items → word ≡ text (get_or items i d)
    → map text (drop i items) ≡ word ∷ map text (drop (i + 1) items)
next_name text items i d word l e = ap (map text) (drop_next items i d l) ∙ ap
    (λ w. w ∷ map text (drop (i + 1) items)) (sym e)

pub put_next : (keys new : List (Bor (List ℕ))) (word : List ℕ) (rest next : List (List ℕ))
    (all : List ℕ → Bool) → rest ≡ word ∷ next →
    ((w : List ℕ) → has (texts_of new) w ≡ (has (texts_of keys) w || bytes_eq w word))
    → ((w : List ℕ) → (has (texts_of keys) w || has rest w) ≡ all w) → (w : List ℕ)
    → (has (texts_of new) w || has next w) ≡ all w
put_next keys new word rest next all e put h w =
    ap (λ b. b || has next w) (put w) ∙ or_again (has (texts_of keys) w) (bytes_eq w word)
    (has next w) ∙ ap (λ ws. has (texts_of keys) w || has ws w) (sym e) ∙ h w

-- ---- first places

pub earliest_next : {X Y : Type 0} (g : X → Y) (test : Y → Bool) (place : Y → ℕ) (items : List X)
    (i : ℕ) (d : X) (b : Bool) (at : ℕ) (first now all : Option ℕ) → i < length items
    → b ≡ test (g (get_or items i d)) → at ≡ place (g (get_or items i d))
    → now ≡ earlier_place_if b first at → earliest test place first (map g (drop i items)) ≡ all
    → earliest test place now (map g (drop (i + 1) items)) ≡ all
earliest_next g test place items i d b at first now all l t p n h =
    ap (λ o. earliest test place o (map g (drop (i + 1) items)))
    (n ∙ ap (λ c. earlier_place_if c first at) t ∙ ap
    (earlier_place_if (test (g (get_or items i d))) first) p)
    ∙ ap (λ xs. earliest test place first (map g xs)) (sym (drop_next items i d l)) ∙ h

pub earliest_item : {X : Type 0} (test : X → Bool) (place : X → ℕ) (items : List X) (i : ℕ) (d : X)
    (b : Bool) (at : ℕ) (first now all : Option ℕ) → i < length items → b ≡ test (get_or items i d)
    → at ≡ place (get_or items i d)
    → now ≡ earlier_place_if b first at → earliest test place first (drop i items) ≡ all
    → earliest test place now (drop (i + 1) items) ≡ all
earliest_item test place items i d b at first now all l t p n h =
    ap (λ o. earliest test place o (drop (i + 1) items))
    (n ∙ ap (λ c. earlier_place_if c first at) t ∙ ap
    (earlier_place_if (test (get_or items i d)) first) p)
    ∙ ap (λ xs. earliest test place first xs) (sym (drop_next items i d l)) ∙ h

pub earliest_append : {X : Type 0} (test : X → Bool) (place : X → ℕ) (first : Option ℕ)
    (xs ys : List X) → earliest test place first (xs ++ ys) ≡ earliest test place
    (earliest test place first xs) ys
earliest_append test place first [] ys = refl
earliest_append test place first (x ∷ xs) ys = earliest_append test place
    (earlier_place_if (test x) first (place x)) xs ys

-- the items that one more thing of a list has
pub items_next : {T X : Type 0} (all : List T → List X) (one : T → List X)
    → ((t : T) (ts : List T) → all (t ∷ ts) ≡ one t ++ all ts)
    → (test : X → Bool) (place : X → ℕ) (items : List T) (i : ℕ) (t : T) → i < length items
    → t ≡ get_or items i t
    → (first now whole : Option ℕ) → now ≡ earliest test place first (one t)
    → earliest test place first (all (drop i items)) ≡ whole
    → earliest test place now (all (drop (i + 1) items)) ≡ whole
items_next all one more test place items i t l is first now whole n h =
    let rest = drop (i + 1) items in
    ap (λ o. earliest test place o (all rest)) n
    ∙ sym (earliest_append test place first (one t) (all rest))
    ∙ ap (earliest test place first) (sym (more t rest))
    ∙ ap (λ ts. earliest test place first (all ts))
    (sym (drop_next items i t l ∙ ap (λ y. y ∷ rest) (sym is)))
    ∙ h

pub items_done : {T X : Type 0} (all : List T → List X) → all [] ≡ []
    → (test : X → Bool) (place : X → ℕ) (items : List T) (i : ℕ) → length items ≤ i
    → (first whole : Option ℕ) → earliest test place first (all (drop i items)) ≡ whole
    → first ≡ whole
items_done all none test place items i l first whole h
    = ap (earliest test place first) (sym none) ∙ ap (λ ts. earliest test place first (all ts))
    (sym (drop_all i items l)) ∙ h

earliest_map : {X Y : Type 0} (g : X → Y) (test : Y → Bool) (place : Y → ℕ) (first : Option ℕ)
    (xs : List X) → earliest test place first (map g xs) ≡ earliest (λ x. test (g x))
    (λ x. place (g x)) first xs
earliest_map g test place first [] = refl
earliest_map g test place first (x ∷ xs) = earliest_map g test place
    (earlier_place_if (test (g x)) first (place (g x))) xs

pub never_found : {X : Type 0} (place : X → ℕ) (first : Option ℕ) (xs : List X)
    → earliest (λ x. false) place first xs ≡ first
never_found place first [] = refl
never_found place first (x ∷ xs) = never_found place first xs

module _ {S : Type 0} (m : Module) (entries : List (Bor (List ℕ) × HashSet (Bor (List ℕ)) S)) where
  abbrev pub is_lacking : Binder × Binder → Bool
  is_lacking i = lacks (found_at entries (text_in m i.0.name.0)) (text_in m i.1.name.0)

  abbrev pub place_of_name : Binder × Binder → ℕ
  place_of_name i = i.1.at

  pub lacking_next : (x : Import) (rest : List Import) (first now all : Option ℕ)
      → now ≡ earliest
      (λ b. lacks (found_at entries (text_in m x.from.name.0)) (text_in m b.name.0)) (λ b. b.at)
      first x.names
      → earliest is_lacking place_of_name first (flat_map pairs (x ∷ rest)) ≡ all
      → earliest is_lacking place_of_name now (flat_map pairs rest) ≡ all
  lacking_next x rest first now all n h =
      ap (λ o. earliest is_lacking place_of_name o (flat_map pairs rest))
      (n ∙ sym (earliest_map (λ b. (x.from, b)) is_lacking place_of_name first x.names))
      ∙ sym (earliest_append is_lacking place_of_name first (pairs x) (flat_map pairs rest)) ∙ h

  -- what is lacking among the names of one import
  pub lacking_some : (from : ℕ) (names : List Binder) (first : Option ℕ)
      (s : HashSet (Bor (List ℕ)) S) → found_at entries (text_in m from) ≡ Some s
      → earliest (λ b. not (has (texts_of s.keys) (text_in m b.name.0))) (λ b. b.at) first names ≡
      earliest (λ b. lacks (found_at entries (text_in m from)) (text_in m b.name.0)) (λ b. b.at)
      first names
  lacking_some from names first s e = ap
      (λ (o : Option (HashSet (Bor (List ℕ)) S)). earliest
      (λ (b : Binder). lacks o (text_in m b.name.0)) (λ (b : Binder). b.at) first names) (sym e)

  pub lacking_none : (from : ℕ) (names : List Binder) (first : Option ℕ)
      → found_at entries (text_in m from) ≡ None
      → first ≡ earliest (λ b. lacks (found_at entries (text_in m from)) (text_in m b.name.0))
      (λ b. b.at) first names
  lacking_none from names first e = sym (never_found (λ (b : Binder). b.at) first names) ∙ ap
      (λ (o : Option (HashSet (Bor (List ℕ)) S)). earliest
      (λ (b : Binder). lacks o (text_in m b.name.0)) (λ (b : Binder). b.at) first names) (sym e)

-- ---- names that are taken

again_append : (declared seen : ℕ → Bool) (first : Option ℕ) (xs ys : List Binder)
    → first_repeated_name declared seen first (xs ++ ys) ≡ first_repeated_name declared
    (with_names_seen seen xs) (first_repeated_name declared seen first xs) ys
again_append declared seen first [] ys = refl
again_append declared seen first (b ∷ xs) ys = again_append declared (with_member b.name.0 seen)
    (earlier_place_if (seen b.name.0 || declared b.name.0) first b.at) xs ys

without_source : (from : Binder) (bs : List Binder)
    → map (λ (i : Binder × Binder). i.1) (map (λ b. (from, b)) bs) ≡ bs
without_source from [] = refl
without_source from (b ∷ bs) = ap (λ cs. b ∷ cs) (without_source from bs)

names_next : (x : Import) (rest : List Import) → names_of (x ∷ rest) ≡ x.names ++ names_of rest
names_next x rest = map_append (λ (i : Binder × Binder). i.1) (pairs x) (flat_map pairs rest) ∙ ap
    (λ bs. bs ++ names_of rest) (without_source x.from x.names)

pub imported_next : (declared seen next : ℕ → Bool) (x : Import) (rest : List Import)
    (first now all : Option ℕ) → next ≡ with_names_seen seen x.names
    → now ≡ first_repeated_name declared seen first x.names
    → first_repeated_name declared seen first (names_of (x ∷ rest)) ≡ all
    → first_repeated_name declared next now (names_of rest) ≡ all
imported_next declared seen next x rest first now all s n h =
    ap (λ t. first_repeated_name declared t now (names_of rest)) s ∙ ap
    (λ o. first_repeated_name declared (with_names_seen seen x.names) o (names_of rest)) n
    ∙ sym (again_append declared seen first x.names (names_of rest)) ∙ ap
    (first_repeated_name declared seen first) (sym (names_next x rest)) ∙ h

at_is : (n k : ℕ) → is_at (nat_cmp n) k ≡ (n == k)
at_is n k = grind (arith, nat_tests)

cond_or : (b c : Bool) → cond b true c ≡ (b || c)
cond_or true c = refl
cond_or false c = refl

pub seen_also : (old new : BTreeSet ℕ) (k : ℕ) →
    ((q : ℕ) → contains nat_cmp new q ≡ cond (is_at (nat_cmp k) q) true (contains nat_cmp old q))
    → contains nat_cmp new ≡ with_member k (contains nat_cmp old)
seen_also old new k h = λ i q.
    (h q ∙ ap (λ b. cond b true (contains nat_cmp old q)) (at_is k q) ∙ cond_or (k == q)
    (contains nat_cmp old q)) i

pub again_next : (declared : ℕ → Bool) (old new : BTreeSet ℕ) (names : List Binder) (i : ℕ)
    (d : Binder) (is_new b : Bool) (x at : ℕ) (first now all : Option ℕ) → i < length names
    → contains nat_cmp new ≡ with_member x (contains nat_cmp old) → x ≡ (get_or names i d).name.0
    → at ≡ (get_or names i d).at
    → is_new ≡ not (contains nat_cmp old x) → b ≡ (not is_new || declared x)
    → now ≡ earlier_place_if b first at
    → first_repeated_name declared (contains nat_cmp old) first (drop i names) ≡ all
    → first_repeated_name declared (contains nat_cmp new) now (drop (i + 1) names) ≡ all
again_next declared old new names i d is_new b x at first now all l s e p f t n h =
    let y : ℕ = (get_or names i d).name.0 in
    let taken : b ≡ (contains nat_cmp old y || declared y)
    = t ∙ ap (λ c. not c || declared x) f ∙ ap (λ c. c || declared x)
    (not_not (contains nat_cmp old x)) ∙ ap (λ z. contains nat_cmp old z || declared z) e in
    ap (λ u. first_repeated_name declared u now (drop (i + 1) names))
    (s ∙ ap (λ z. with_member z (contains nat_cmp old)) e)
    ∙ ap (λ o. first_repeated_name declared (with_member y (contains nat_cmp old)) o
    (drop (i + 1) names))
    (n ∙ ap (λ c. earlier_place_if c first at) taken ∙ ap
    (earlier_place_if (contains nat_cmp old y || declared y) first) p)
    ∙ ap (first_repeated_name declared (contains nat_cmp old) first) (sym (drop_next names i d l)) ∙
    h

pub seen_next : (old new : BTreeSet ℕ) (names : List Binder) (i : ℕ) (d : Binder) (x : ℕ)
    (all : ℕ → Bool) → i < length names → x ≡ (get_or names i d).name.0
    → contains nat_cmp new ≡ with_member x (contains nat_cmp old)
    → with_names_seen (contains nat_cmp old) (drop i names) ≡ all
    → with_names_seen (contains nat_cmp new) (drop (i + 1) names) ≡ all
seen_next old new names i d x all l e s h =
    ap (λ u. with_names_seen u (drop (i + 1) names))
    (s ∙ ap (λ z. with_member z (contains nat_cmp old)) e) ∙ ap
    (with_names_seen (contains nat_cmp old)) (sym (drop_next names i d l)) ∙ h

-- ---- the first declarations

tails : {X : Type 0} (x y : X) (xs ys : List X) → x ∷ xs ≡ y ∷ ys → xs ≡ ys
tails x y xs ys e = cc

heads : {X : Type 0} (x y : X) (xs ys : List X) → x ∷ xs ≡ y ∷ ys → x ≡ y
heads x y xs ys e = cc

front_by : {X Y : Type 0} (f : X → Y) (made : List X) (front more : List Y) → map f made ≡ front
    ++ more → map f (take (length front) made) ≡ front
front_by f made [] more e = refl
front_by f [] (y ∷ front) more e = absurd cc
front_by f (x ∷ made) (y ∷ front) more e =
    let first = heads (f x) y (map f made) (front ++ more) e in
    let rest = front_by f made front more (tails (f x) y (map f made) (front ++ more) e) in
    λ i. first i ∷ rest i

pub map_front : {X Y : Type 0} (f : X → Y) (made : List X) (front more : List Y) (n : ℕ)
    → map f made ≡ front ++ more → n ≡ length front → map f (take n made) ≡ front
map_front f made front more n e l = ap (λ k. map f (take k made)) l ∙ front_by f made front more e
