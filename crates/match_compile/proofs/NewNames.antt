-- The new names differ from each other and from those of a text that has none that is reserved.
use Rattle.std.proofs.Common.{◌≡◌, ℕ, zero, suc, ◌+◌, ◌-◌, ◌<◌, ◌≤◌, ◌^◌, Bool, true, false, cond, List, [], ◌∷◌, ◌++◌, map, get_or, length, refl, sym, ap, subst, ◌∙◌, arith, append_assoc, Option, Some, None, ⊎_elim}
use Rattle.std.specs.Prelude.{◌≢◌, All, codes, decimal, fold, nat_lt, if◌then◌else◌}
use Rattle.std.specs.List.{list_any, range_with_len, position, position_or_len, position_from}
use Rattle.std.specs.Str.{bytes_eq}
use Rattle.std.specs.Str.Parse.{AllDigits}
use Rattle.std.proofs.lemmas.List.{append-nil}
use Rattle.std.proofs.lemmas.List.Elements.{All-nil, All-cons, All-push, All-head, All-tail, All-append}
use Rattle.std.proofs.lemmas.Fmt.{decimal_is_IsNumeral, decimal_injective}
use Rattle.std.proofs.lemmas.Iterator.Adapters.{position_from-zero}
use Rattle.std.proofs.lemmas.Str.Parse.{digit_from_value}
use Rattle.seq.specs.Lists.{In, here, there}
use Rattle.seq.proofs.Member.{none_in, cons_in, in_split}
use Rattle.core_reader.specs.declared.dialect.Dialect.TheVariants.{Core}
use Rattle.core_reader.specs.TokensOf.{Piece}
use Rattle.core_reader.specs.NamesOf.{is_numbered, with_piece}
use Rattle.core_reader.specs.Different.{AreDistinct}
use Rattle.match_compile.specs.Source.{Source}
use Rattle.match_compile.specs.Grammar.{IsSourceText}
use Rattle.match_compile.specs.Rules.{is_reserved, IsReserved}
use Rattle.match_compile.specs.Sound.{name_of_equation}
use Rattle.match_compile.specs.Decisions.{decisions}
use Rattle.match_compile.specs.Translated.{is_nameless, with_nameless, numbered_texts, param_name, field_name, most_params, most_fields_of}
use Rattle.match_compile.specs.Premises.{new_names, AreFree, HasNoNewName}

-- ---- the names of a text

-- the name does not begin with `match'`
abbrev IsUnreservedName : List ℕ → Type 0
IsUnreservedName w = (rest : List ℕ) → w ≢ codes "match'" ++ rest

reserved : (w rest : List ℕ) → w ≡ codes "match'" ++ rest → is_reserved w ≡ true
reserved w rest e = ap is_reserved e

name_by : (a b : Bool) (names : List (List ℕ)) (w : List ℕ) → All IsUnreservedName names
    → IsUnreservedName w → All IsUnreservedName
    (if a then (if b then names else names ++ w ∷ []) else names)
name_by false b names w h f = h
name_by true true names w h f = h
name_by true false names w h f = All-push IsUnreservedName names w h f

free_from : (names : List (List ℕ)) (ps : List Piece) → All IsUnreservedName names
    → ((p : Piece) → In p ps → IsUnreservedName p.bytes)
    → All IsUnreservedName (fold (with_piece Core) names ps)
free_from names [] h f = h
free_from names (p ∷ ps) h f = free_from (with_piece Core names p) ps
    (name_by (is_numbered Core p) (list_any (bytes_eq p.bytes) names) names p.bytes h (f p here))
    (λ q i. f q (there i))

-- the names of a text that has none that begins so
text_free : (text : List ℕ) (c : Source) → IsSourceText text c → ((at : ℕ) → IsReserved text at → ⊥)
    → All IsUnreservedName c.names
text_free text c t none =
    subst (All IsUnreservedName) (sym t.program.names)
    (free_from [] t.pieces (All-nil IsUnreservedName)
    (λ p i rest e. none p.at
    (record {
      pieces = t.pieces;
      tokens = t.tokens;
      name = p;
      stands = i;
      begins
          = reserved p.bytes rest e;
      place = refl;
    })))

-- ---- new ones

-- a text that begins so, and a number
abbrev Begins : List ℕ → (ℕ → List ℕ) → Type 0
Begins start text = (k : ℕ) → text k ≡ start ++ decimal k

text_one : (start xs ys : List ℕ) → start ++ xs ≡ start ++ ys → xs ≡ ys
text_one [] xs ys e = e
text_one (c ∷ start) xs ys e = text_one start xs ys (tail_one e)
  where
    tail_one : (c ∷ start) ++ xs ≡ (c ∷ start) ++ ys → start ++ xs ≡ start ++ ys
    tail_one e = cc

module _ (start : List ℕ) where
  abbrev name : ℕ → List ℕ
  name k = start ++ decimal k

  names_from : ℕ → ℕ → List (List ℕ)
  names_from k n = map name (range_with_len k n)

  differs : (k m : ℕ) → k < m → m < 2 ^ 32 → name m ≢ name k
  differs k m h l e = let same : m ≡ k = decimal_injective m k (omega arith) (omega arith)
      (text_one start (decimal m) (decimal k) e) in omega arith

  all_differ : (k m n : ℕ) → k < m → m + n ≤ 2 ^ 32
      → All (λ v. v ≢ name k) (map name (range_with_len m n))
  all_differ k m zero l h = All-nil (λ v. v ≢ name k)
  all_differ k m (suc n) l h = All-cons (λ v. v ≢ name k) (name m)
      (map name (range_with_len (m + 1) n)) (differs k m l (omega arith))
      (all_differ k (m + 1) n (omega arith) (omega arith))

  pub numbered_different : (k n : ℕ) → k + n ≤ 2 ^ 32 → AreDistinct (map name (range_with_len k n))
  numbered_different k zero h = tt
  numbered_different k (suc n) h = (
    all_differ k (k + 1) n (omega arith) (omega arith),
    numbered_different (k + 1) n (omega arith),
  )

-- ---- one name after the other

module _ (text : ℕ → List ℕ) where
  one_named : (i n : ℕ) → i < n → map text (range_with_len i (n - i)) ≡ text i ∷ map text
      (range_with_len (i + 1) (n - (i + 1)))
  one_named i n l = let e : n - i ≡ suc (n - (i + 1)) = omega arith
      in ap (λ m. map text (range_with_len i m)) e

  -- one more name
  pub one_behind : (entries entries' names : List (List ℕ)) (i n : ℕ) → i < n → entries' ≡ entries
      ++ text i ∷ [] → entries ++ map text (range_with_len i (n - i)) ≡ names
      → entries' ++ map text (range_with_len (i + 1) (n - (i + 1))) ≡ names
  one_behind entries entries' names i n l e h =
      let rest : List (List ℕ) = map text (range_with_len (i + 1) (n - (i + 1))) in
      ap (λ w. w ++ rest) e ∙ append_assoc entries (text i ∷ []) rest ∙ sym
      (ap (λ w. entries ++ w) (one_named i n l)) ∙ h

  -- all of them
  pub all_behind : (entries names : List (List ℕ)) (i n : ℕ) → n ≤ i → entries
      ++ map text (range_with_len i (n - i)) ≡ names → entries ≡ names
  all_behind entries names i n l h =
      let none : n - i ≡ 0 = omega (arith, l) in
      sym (ap (λ m. entries ++ map text (range_with_len i m)) none ∙ append-nil entries) ∙ h

-- ---- lists of texts

-- each of these differs from each of those
abbrev Apart : List (List ℕ) → List (List ℕ) → Type 0
Apart vs ws = All (λ w. All (λ v. v ≢ w) vs) ws

apart_append : (us vs ws : List (List ℕ)) → Apart us ws → Apart vs ws → Apart (us ++ vs) ws
apart_append us vs [] a b = All-nil (λ w. All (λ v. v ≢ w) (us ++ vs))
apart_append us vs (w ∷ ws) a b = All-cons (λ w. All (λ v. v ≢ w) (us ++ vs)) w ws
    (All-append (λ v. v ≢ w) us vs (All-head (λ w. All (λ v. v ≢ w) us) w ws a)
    (All-head (λ w. All (λ v. v ≢ w) vs) w ws b))
    (apart_append us vs ws (All-tail (λ w. All (λ v. v ≢ w) us) w ws a)
    (All-tail (λ w. All (λ v. v ≢ w) vs) w ws b))

pub append_different : (ws vs : List (List ℕ)) → AreDistinct ws → AreDistinct vs → Apart vs ws
    → AreDistinct (ws ++ vs)
append_different [] vs d e a = e
append_different (w ∷ ws) vs d e a = (
  All-append (λ v. v ≢ w) ws vs d.0 (All-head (λ w. All (λ v. v ≢ w) vs) w ws a),
  append_different ws vs d.1 e (All-tail (λ w. All (λ v. v ≢ w) vs) w ws a),
)

apart_by : (text : ℕ → List ℕ) (k n : ℕ) (w : List ℕ) → ((m : ℕ) → text m ≢ w)
    → All (λ v. v ≢ w) (map text (range_with_len k n))
apart_by text k zero w h = All-nil (λ v. v ≢ w)
apart_by text k (suc n) w h = All-cons (λ v. v ≢ w) (text k) (map text (range_with_len (k + 1) n))
    (h k) (apart_by text (k + 1) n w h)

none_is : (vs : List (List ℕ)) (w : List ℕ) → (In w vs → ⊥) → All (λ v. v ≢ w) vs
none_is [] w h = All-nil (λ v. v ≢ w)
none_is (v ∷ vs) w h = All-cons (λ v. v ≢ w) v vs (λ e. h (subst (λ x. In x (v ∷ vs)) e here))
    (none_is vs w (λ i. h (there i)))

none_in_both : (vs ws : List (List ℕ)) → ((w : List ℕ) → In w ws → In w vs → ⊥) → Apart vs ws
none_in_both vs [] h = All-nil (λ w. All (λ v. v ≢ w) vs)
none_in_both vs (w ∷ ws) h = All-cons (λ w. All (λ v. v ≢ w) vs) w ws (none_is vs w (h w here))
    (none_in_both vs ws (λ x i. h x (there i)))

texts_apart : (text text' : ℕ → List ℕ) (n k m : ℕ) → k + m ≤ 2 ^ 32
    → ((i j : ℕ) → j < 2 ^ 32 → text i ≢ text' j) → Apart (numbered_texts n text)
    (map text' (range_with_len k m))
texts_apart text text' n k zero l h = All-nil (λ w. All (λ v. v ≢ w) (numbered_texts n text))
texts_apart text text' n k (suc m) l h = All-cons (λ w. All (λ v. v ≢ w) (numbered_texts n text))
    (text' k) (map text' (range_with_len (k + 1) m))
    (apart_by text 0 n (text' k) (λ i e. h i k (omega arith) e))
    (texts_apart text text' n (k + 1) m (omega arith) h)

-- a letter is no digit
no_digit : (n c : ℕ) (ds : List ℕ) → 57 < c → n < 2 ^ 64 → c ∷ ds ≢ decimal n
no_digit n c ds l h e = let d = digit_from_value c
    (subst (AllDigits 10) (sym e) (decimal_is_IsNumeral n h).0.1).0 in omega (arith, d, l)

param_apart : (i j : ℕ) → j < 2 ^ 32 → param_name i ≢ name_of_equation j
param_apart i j l e = no_digit j 112 (decimal i) (omega arith) (omega arith)
    (text_one (codes "match'") (112 ∷ decimal i) (decimal j) e)

field_apart : (i j : ℕ) → j < 2 ^ 32 → field_name i ≢ name_of_equation j
field_apart i j l e = no_digit j 113 (decimal i) (omega arith) (omega arith)
    (text_one (codes "match'") (113 ∷ decimal i) (decimal j) e)

letters_apart : (i j : ℕ) → j < 2 ^ 32 → field_name i ≢ param_name j
letters_apart i j l e =
    let h : 113 ≡ 112 = ap (λ xs. get_or xs 0 0)
    (text_one (codes "match'") (113 ∷ decimal i) (112 ∷ decimal j) e) in
    omega (arith, h)

-- the names with `_`
none_named : (i : ℕ) (names : List (List ℕ)) → position_from is_nameless i names ≡ None
    → Apart (codes "_" ∷ []) names
none_named i [] e = All-nil (λ w. All (λ v. v ≢ w) (codes "_" ∷ []))
none_named i (w ∷ names) e = go (is_nameless w) refl e (λ f. none_named (i + 1) names f)
  where
    other : is_nameless w ≡ false → codes "_" ≢ w
    other h same = let yes : true ≡ false = ap is_nameless same ∙ h in absurd cc

    go : (b : Bool) → is_nameless w ≡ b → cond b (Some i) (position_from is_nameless (i + 1) names)
        ≡ None → (position_from is_nameless (i + 1) names ≡ None → Apart (codes "_" ∷ []) names)
        → Apart (codes "_" ∷ []) (w ∷ names)
    go true h e more = absurd cc
    go false h e more = All-cons (λ w. All (λ v. v ≢ w) (codes "_" ∷ [])) w names
        (All-cons (λ v. v ≢ w) (codes "_") [] (other h) (All-nil (λ v. v ≢ w))) (more e)

-- whether `_` is among the names
pub with_nameless_is : (names : List (List ℕ)) (b : Bool)
    → nat_lt (position_or_len is_nameless names) (length names) ≡ b
    → with_nameless names ≡ cond b names (names ++ codes "_" ∷ [])
with_nameless_is names b e = ap (λ b. by (cond b (Some (position_or_len is_nameless names)) None)) e
    ∙ go b
  where
    by : Option ℕ → List (List ℕ)
    by o = elim o [ Some n ↦ names | None ↦ names ++ codes "_" ∷ [] ]

    go : (b : Bool) → by (cond b (Some (position_or_len is_nameless names)) None) ≡ cond b names
        (names ++ codes "_" ∷ [])
    go true = refl
    go false = refl

pub with_nameless_different : (names : List (List ℕ)) → AreDistinct names
    → AreDistinct (with_nameless names)
with_nameless_different names d = go (position is_nameless names)
    (sym (position_from-zero is_nameless names))
  where
    go : (o : Option ℕ) → position_from is_nameless 0 names ≡ o
        → AreDistinct (elim o [ Some n ↦ names | None ↦ names ++ codes "_" ∷ [] ])
    go (Some n) e = d
    go None e = append_different names (codes "_" ∷ []) d (All-nil (λ v. v ≢ codes "_"), tt)
        (none_named 0 names e)

-- `_` is no new name
nameless_apart : (e p f : ℕ) → All (λ v. v ≢ codes "_") (new_names e p f)
nameless_apart e p f =
    All-append (λ v. v ≢ codes "_") (numbered_texts e name_of_equation)
    (numbered_texts p param_name ++ numbered_texts f field_name)
    (apart_by name_of_equation 0 e (codes "_") (λ m h. absurd cc))
    (All-append (λ v. v ≢ codes "_") (numbered_texts p param_name) (numbered_texts f field_name)
    (apart_by param_name 0 p (codes "_") (λ m h. absurd cc))
    (apart_by field_name 0 f (codes "_") (λ m h. absurd cc)))

with_nameless_apart : (vs names : List (List ℕ)) → All (λ v. v ≢ codes "_") vs → Apart vs names
    → Apart vs (with_nameless names)
with_nameless_apart vs names n a = go (position is_nameless names)
  where
    go : (o : Option ℕ) → Apart vs (elim o [ Some n ↦ names | None ↦ names ++ codes "_" ∷ [] ])
    go (Some m) = a
    go None = All-push (λ w. All (λ v. v ≢ w) vs) names (codes "_") a n

-- all names of the program
all_different : (names : List (List ℕ)) (e p f : ℕ) → e ≤ 2 ^ 32 → p ≤ 2 ^ 32 → f ≤ 2 ^ 32
    → AreDistinct names → Apart (new_names e p f) names → AreDistinct (names ++ new_names e p f)
all_different names e p f le lp lf d free =
    let params = numbered_texts p param_name in
    let fields = numbered_texts f field_name in
    let equations = numbered_texts e name_of_equation in
    let differ : AreDistinct (equations ++ (params ++ fields)) =
    append_different equations (params ++ fields)
    (numbered_different (codes "match'") 0 e (omega (arith, le)))
    (append_different params fields (numbered_different (codes "match'p") 0 p (omega (arith, lp)))
    (numbered_different (codes "match'q") 0 f (omega (arith, lf)))
    (texts_apart field_name param_name f 0 p (omega (arith, lp)) letters_apart))
    (apart_append params fields equations
    (texts_apart param_name name_of_equation p 0 e (omega (arith, le)) param_apart)
    (texts_apart field_name name_of_equation f 0 e (omega (arith, le)) field_apart)) in
    append_different names (equations ++ (params ++ fields)) d differ free

pub new_different : (names : List (List ℕ)) (e p f : ℕ) → e < 2 ^ 32 → p < 2 ^ 32 → f < 2 ^ 32
    → AreDistinct names → AreFree e p f names → AreDistinct (with_nameless names ++ new_names e p f)
new_different names e p f le lp lf d free =
    all_different (with_nameless names) e p f (omega (arith, le)) (omega (arith, lp))
    (omega (arith, lf)) (with_nameless_different names d)
    (with_nameless_apart (new_names e p f) names (nameless_apart e p f)
    (none_in_both (new_names e p f) names free))

-- ---- of a text

begins_so : (text after : ℕ → List ℕ) → ((k : ℕ) → text k ≡ codes "match'" ++ after k)
    → (w : List ℕ) (k n : ℕ) → In w (map text (range_with_len k n)) → (rest : List ℕ)
    × (w ≡ codes "match'" ++ rest)
begins_so text after h w k zero i = none_in i
begins_so text after h w k (suc n) i = ⊎_elim (λ e. (after k, e ∙ h k))
    (λ j. begins_so text after h w (k + 1) n j)
    (cons_in (text k) (map text (range_with_len (k + 1) n)) i)

new_begins : (e p f : ℕ) (w : List ℕ) → In w (new_names e p f) → (rest : List ℕ)
    × (w ≡ codes "match'" ++ rest)
new_begins e p f w i =
    ⊎_elim (λ a. begins_so name_of_equation decimal (λ k. refl) w 0 e a)
    (λ b. ⊎_elim (λ a. begins_so param_name (λ k. 112 ∷ decimal k) (λ k. refl) w 0 p a)
    (λ a. begins_so field_name (λ k. 113 ∷ decimal k) (λ k. refl) w 0 f a)
    (in_split (numbered_texts p param_name) (numbered_texts f field_name) b))
    (in_split (numbered_texts e name_of_equation)
    (numbered_texts p param_name ++ numbered_texts f field_name) i)

is_unreserved : (names : List (List ℕ)) → All IsUnreservedName names → (w : List ℕ) → In w names
    → IsUnreservedName w
is_unreserved [] h w i = none_in i
is_unreserved (v ∷ names) h w here = All-head IsUnreservedName v names h
is_unreserved (v ∷ names) h w (there i) = is_unreserved names (All-tail IsUnreservedName v names h)
    w i

-- a text whose names are not reserved has no new name
pub text_has_none : (text : List ℕ) (c : Source) → IsSourceText text c
    → ((at : ℕ) → IsReserved text at → ⊥) → HasNoNewName c
text_has_none text c is none w i j =
    let b = new_begins (length c.equations) (most_params c.equations) (most_fields_of (decisions c))
    w j in
    is_unreserved c.names (text_free text c is none) w i b.0 b.1

pub with_counts : (c : Source) (names : List (List ℕ)) (e p f : ℕ) → names ≡ c.names
    → e ≡ length c.equations → p ≡ most_params c.equations → f ≡ most_fields_of (decisions c)
    → HasNoNewName c → AreFree e p f names
with_counts c names e p f a b g h none = λ w i j. none w (subst (In w) a i)
    (subst (In w) (λ k. new_names (b k) (g k) (h k)) j)

-- names put behind others three times
pub joined_names : (n xs ys zs w v u : List (List ℕ)) → w ≡ n ++ xs → v ≡ w ++ ys → u ≡ v ++ zs
    → u ≡ n ++ (xs ++ (ys ++ zs))
joined_names n xs ys zs w v u e f g =
    g ∙ ap (λ w. w ++ zs) (f ∙ ap (λ w. w ++ ys) e) ∙ append_assoc (n ++ xs) ys zs ∙ append_assoc n
    xs (ys ++ zs)
