-- Loops over cells, variables and inclusions of a system that reads cells by words.
use Rattle.std.proofs.Common.{◌≡◌, ◌+◌, ◌<◌, ◌≤◌, ℕ, zero, suc, Bool, true, false, ◌||◌, List, [], ◌∷◌, ◌++◌, map, length, take, get_or, Some, None, slice_get, refl, sym, ap, ◌∙◌, subst, inl, inr, ⊎_elim, arith}
use Rattle.std.specs.Prelude.{◌⊎◌}
use Rattle.std.specs.List.{flat_map}
use Rattle.std.proofs.lemmas.List.{take_all, take_more}
use Rattle.grin_syntax.specs.declared.program.VarId.{VarId}
use Rattle.grin_syntax.specs.declared.program.Word.TheVariants.{Lit, Var, Global, TagWord}
use Rattle.flow_system.specs.declared.inclusion.Inclusion as code
use Rattle.flow_system.specs.declared.fact.Element.{Element as AbstractWord}
use Rattle.flow_system.specs.declared.fact.Element.TheVariants.{Cell as cell_of, Tag as tag, Number as num}
use Rattle.flow_system.specs.declared.fact.Place.{Place}
use Rattle.flow_system.specs.declared.fact.Place.TheVariants.{Var as var}
use Rattle.flow_system.specs.declared.fact.Part.TheVariants.{Word as word}
use Rattle.flow_system.specs.Inclusions.{Inclusion}
use Rattle.flow_system.specs.Shown.{inclusion_of, shown}
use Rattle.flow_system.specs.Tables.{Tables}
use Rattle.points_to.specs.declared.bits.Bits.{Bits}
use Rattle.points_to.specs.declared.facts.Item.{Item}
use Rattle.points_to.specs.declared.kept.Kept.{Kept}
use Rattle.points_to.specs.declared.stored.Stored.{Stored}
use Rattle.points_to.specs.declared.noted.NotedSets.{NotedSets}
use Rattle.points_to.specs.declared.vectors.CachedWords.{CachedWords}
use Rattle.points_to.specs.declared.vectors.WordCache.{WordCache}
use Rattle.points_to.specs.Held.{In, here, words_in_part}
use Rattle.points_to.specs.Known.{held}
use Rattle.points_to.specs.Rows.{SameMembers, numbers_in}
use Rattle.points_to.specs.Stored.{stored_at, cell_stored, PutsAtSite, PutsAtAllSites}
use Rattle.points_to.specs.Kept.{is_by_words, AllByWords, met_by, MetExact, AreWords, WordsExact}
use Rattle.points_to.specs.Noted.{noted_at}
use Rattle.seq.proofs.Member.{none_in, one_in, in_left, in_right, in_split}
use Rattle.seq.proofs.Order.{lt_or_le}

pub shown_at : (xs : List code.Inclusion) (i : ℕ) (c : code.Inclusion) → i < length xs
    → c ≡ get_or xs i c → slice_get (shown xs) i ≡ Some (inclusion_of c)
shown_at [] i c lt e = absurd (omega arith)
shown_at (x ∷ xs) zero c lt e = ap (λ y. Some (inclusion_of y)) (sym e)
shown_at (x ∷ xs) (suc i) c lt e = shown_at xs i c (omega arith) e

-- the first ones read cells by words
pub record WordsBefore (xs : List code.Inclusion) (n : ℕ) : Type 0 where
  pub by : (i : ℕ) (c : Inclusion) → i < n → slice_get (shown xs) i ≡ Some c → is_by_words c ≡ true

pub none_before : (xs : List code.Inclusion) → WordsBefore xs 0
none_before xs = record { by = λ i c lt e. absurd (omega arith) }

pub more_before : (xs : List code.Inclusion) (n : ℕ) (d : code.Inclusion) → n < length xs
    → d ≡ get_or xs n d → is_by_words (inclusion_of d) ≡ true → WordsBefore xs n
    → WordsBefore xs (n + 1)
more_before xs n d lt is e x = record { by = λ i c l q. next i c l q (lt_or_le i n) }
  where
    some_same : (c d : Inclusion) → Some c ≡ Some d → c ≡ d
    some_same c d e = cc

    next : (i : ℕ) (c : Inclusion) → i < n + 1 → slice_get (shown xs) i ≡ Some c → (i < n) ⊎ (n ≤ i)
        → is_by_words c ≡ true
    next i c l q (inl a) = x.by i c a q
    next i c l q (inr b) =
        let same : i ≡ n = omega (arith, l, b) in
        subst (λ y. is_by_words y ≡ true)
        (some_same (inclusion_of d) c
        (sym (shown_at xs n d lt is) ∙ ap (slice_get (shown xs)) (sym same) ∙ q)) e

pub all_before : (xs : List code.Inclusion) (n : ℕ) → length xs ≤ n → WordsBefore xs n
    → AllByWords (shown xs)
all_before xs n le x i c q = x.by i c (within xs i c n le q) q
  where
    within : (xs : List code.Inclusion) (i : ℕ) (c : Inclusion) (n : ℕ) → length xs ≤ n
        → slice_get (shown xs) i ≡ Some c → i < n
    within [] i c n le q = cc
    within (x ∷ xs) zero c n le q = omega arith
    within (x ∷ xs) (suc i) c zero le q = absurd (omega arith)
    within (x ∷ xs) (suc i) c (suc n) le q = let h : i < n = within xs i c n (omega arith) q
        in omega arith

-- a number that is put at cells
pub stores_none : (f : ℕ → List ℕ) (n : ℕ) → PutsAtAllSites f f [] n
stores_none f n = record { kept = λ s m h. h; put = λ s h. none_in h; only = λ s m h. inl h }

pub stores_more : (f g h : ℕ → List ℕ) (xs ys : List AbstractWord) (n : ℕ) → PutsAtAllSites f g xs n
    → PutsAtAllSites g h ys n → PutsAtAllSites f h (xs ++ ys) n
stores_more f g h xs ys n a b = record {
  kept = λ s m i. b.kept s m (a.kept s m i);
  put = λ s i. ⊎_elim (λ x. b.kept s n (a.put s x)) (λ y. b.put s y) (in_split xs ys i);
  only = λ s m i. ⊎_elim
      (λ x. ⊎_elim (λ y. inl y) (λ y. inr (in_left xs ys y.0, y.1)) (a.only s m x))
      (λ y. inr (in_right xs ys y.0, y.1)) (b.only s m i);
}

pub stores_one : (f g : ℕ → List ℕ) (s n : ℕ) → PutsAtSite f g s n
    → PutsAtAllSites f g (cell_of s ∷ []) n
stores_one f g s n a = record {
  kept = a.kept;
  put = λ r h. subst (λ x. In n (g x)) (sym (same r (one_in (cell_of s) h))) a.put;
  only = λ r m h. ⊎_elim (λ x. inl x)
      (λ y. inr (subst (λ x. In (cell_of x) (cell_of s ∷ [])) (sym y.0) here, y.1)) (a.only r m h);
}
  where
    same : (r : ℕ) → cell_of r ≡ cell_of s → r ≡ s
    same r e = cc

pub stores_no_tag : (f : ℕ → List ℕ) (t n : ℕ) → PutsAtAllSites f f (tag t ∷ []) n
stores_no_tag f t n = record
    { kept = λ s m h. h; put = λ s h. clash s (one_in (tag t) h); only = λ s m h. inl h }
  where
    clash : (s : ℕ) → cell_of s ≡ tag t → In n (f s)
    clash s e = cc

pub stores_no_number : (f : ℕ → List ℕ) (n : ℕ) → PutsAtAllSites f f (num ∷ []) n
stores_no_number f n = record
    { kept = λ s m h. h; put = λ s h. clash s (one_in num h); only = λ s m h. inl h }
  where
    clash : (s : ℕ) → cell_of s ≡ num → In n (f s)
    clash s e = cc

pub record Storing (old now : Stored) (added : Bool) (cells : List AbstractWord) (n : ℕ)
    : Type 0 where
  pub stores : PutsAtAllSites (stored_at old) (stored_at now) cells n
  pub same : added ≡ false → now ≡ old

pub storing_begins : (s : Stored) (n : ℕ) → Storing s s false [] n
storing_begins s n = record { stores = stores_none (stored_at s) n; same = λ e. refl }

pub storing_on : (old now new : Stored) (a b both : Bool) (xs : List AbstractWord) (i : ℕ)
    (d : AbstractWord) (n : ℕ) → i < length xs → both ≡ (a || b) → Storing old now a (take i xs) n
    → PutsAtAllSites (stored_at now) (stored_at new) (get_or xs i d ∷ []) n
    → (b ≡ false → new ≡ now) → Storing old new both (take (i + 1) xs) n
storing_on old now new a b both xs i d n lt e x st same
    = subst (λ l. Storing old new both l n) (sym (take_more xs i d lt)) (record {
      stores = stores_more (stored_at old) (stored_at now) (stored_at new) (take i xs)
          (get_or xs i d ∷ []) n x.stores st;
      same = λ q. let f = sym e ∙ q in same (right a b f) ∙ x.same (left a b f);
    })
  where
    left : (a b : Bool) → (a || b) ≡ false → a ≡ false
    left true b e = cc
    left false b e = refl

    right : (a b : Bool) → (a || b) ≡ false → b ≡ false
    right true b e = cc
    right false b e = e

pub storing_done : (old now : Stored) (a : Bool) (xs : List AbstractWord) (i : ℕ) (n : ℕ)
    → length xs ≤ i → Storing old now a (take i xs) n → Storing old now a xs n
storing_done old now a xs i n le x = subst (λ l. Storing old now a l n) (take_all i xs le) x

-- noted values
module _ (p : Tables) (k : Kept) where
  pub nothing_noted : (m : NotedSets) → ((x : ℕ) → noted_at m x ≡ None) → MetExact p k m
  nothing_noted m none (Lit i) b e = cc
  nothing_noted m none (Var x) b e = not_some (sym (none x.0) ∙ e)
    where
      not_some : None ≡ Some b → SameMembers (numbers_in b) (met_by p k (Var x))
      not_some e = cc
  nothing_noted m none (Global i) b e = cc
  nothing_noted m none (TagWord t) b e = cc

  pub noted_more : (m m' : NotedSets) (x : VarId) (b : Bits) → MetExact p k m
      → SameMembers (numbers_in b) (met_by p k (Var x))
      → ((y : ℕ) → (noted_at m' y ≡ noted_at m y) ⊎ ((y ≡ x.0) × (noted_at m' y ≡ Some b)))
      → MetExact p k m'
  noted_more m m' x b exact same put (Lit i) b' e = cc
  noted_more m m' x b exact same put (Var y) b' e = ⊎_elim
      (λ q. exact (Var y) b' (sym q ∙ e))
      (λ q. subst (λ c. SameMembers (numbers_in c) (met_by p k (Var y)))
      (some_is b b' (sym q.1 ∙ e))
      (subst (λ n. SameMembers (numbers_in b)
      (flat_map (cell_stored k.stored) (words_in_part (word 0) (held k.facts (var n)))))
      (sym q.0) same))
      (put y.0)
    where
      some_is : (c d : Bits) → Some c ≡ Some d → c ≡ d
      some_is c d e = cc
  noted_more m m' x b exact same put (Global i) b' e = cc
  noted_more m m' x b exact same put (TagWord t) b' e = cc

-- noted words
module _ (p : Tables) (cs : List Inclusion) (H : Place → List Item) where
  pub no_words : (m : WordCache) → m.entries.items ≡ [] → WordsExact p cs H m
  no_words m is e h = none_in (subst (In e) is h)

  pub words_more : (m : WordCache) (ds : List CachedWords) (e : CachedWords) → ds ≡ m.entries.items
      ++ e ∷ [] → AreWords p cs H e.i (numbers_in e.numbers) e.words → WordsExact p cs H m
      → (d : CachedWords) → In d ds → AreWords p cs H d.i (numbers_in d.numbers) d.words
  words_more m ds e is its exact d h = ⊎_elim
      (λ a. exact d a)
      (λ b. subst (λ x. AreWords p cs H x.i (numbers_in x.numbers) x.words) (sym (one_in e b)) its)
      (in_split m.entries.items (e ∷ []) (subst (In d) is h))

  pub words_at : (m : WordCache) (e : CachedWords) (i : ℕ) (ns : List ℕ) → In e m.entries.items
      → e.i ≡ i → numbers_in e.numbers ≡ ns → WordsExact p cs H m → AreWords p cs H i ns e.words
  words_at m e i ns h is same exact =
      subst (λ l. AreWords p cs H i l e.words) same
      (subst (λ j. AreWords p cs H j (numbers_in e.numbers) e.words) is (exact e h))

-- blocks by their numbers and their bits
pub pairs_same : (xs ys : List (ℕ × ℕ)) → map (λ b. b.0) xs ≡ map (λ b. b.0) ys
    → map (λ b. b.1) xs ≡ map (λ b. b.1) ys → xs ≡ ys
pairs_same [] [] e q = refl
pairs_same [] (y ∷ ys) e q = cc
pairs_same (x ∷ xs) [] e q = cc
pairs_same (x ∷ xs) (y ∷ ys) e q =
    let a : x.0 ≡ y.0 = cc in
    let b : x.1 ≡ y.1 = cc in
    let rest : map (λ b. b.0) xs ≡ map (λ b. b.0) ys = cc in
    let more : map (λ b. b.1) xs ≡ map (λ b. b.1) ys = cc in
    λ i. (a i, b i) ∷ pairs_same xs ys rest more i
