-- Copies are followed: what is known stays in every solution.
use Rattle.std.proofs.Common.{◌≡◌, ◌+◌, ◌*◌, ◌<◌, ℕ, zero, suc, List, [], ◌∷◌, ◌++◌, map, take, length, get_or, slice_set, Option, Some, None, slice_get, refl, sym, ap, ◌∙◌, subst, inl, inr, ⊎_elim, arith}
use Rattle.std.specs.Prelude.{◌⊎◌, Result, Ok, Err, OnOk, IfSome}
use Rattle.std.specs.Int.{bit_at}
use Rattle.std.specs.List.{flat_map}
use Rattle.grin_syntax.specs.declared.program.VarId.{VarId}
use Rattle.grin_syntax.specs.declared.program.Target.TheVariants.{One}
use Rattle.grin_syntax.specs.declared.program.Val.{Val}
use Rattle.grin_syntax.specs.declared.program.Val.TheVariants.{NodeVar, Node as NodeVal, Vector as VectorVal, One as OneVal}
use Rattle.grin_syntax.specs.declared.program.Word as W
use Rattle.grin_syntax.specs.declared.program.Word.TheVariants.{Var as var_word}
use Rattle.flow_system.specs.declared.fact.Element.{Element as AbstractWord}
use Rattle.flow_system.specs.declared.fact.Element.TheVariants.{Cell as cell_of, Tag as tag, Number as num}
use Rattle.flow_system.specs.declared.fact.Place.{Place}
use Rattle.flow_system.specs.declared.fact.Place.TheVariants.{Var as var}
use Rattle.flow_system.specs.declared.fact.Part.{Part}
use Rattle.flow_system.specs.declared.fact.Part.TheVariants.{Tags as tags, Field as field, Word as word}
use Rattle.flow_system.specs.Inclusions.{value, word_at, to, Inclusion, flows}
use Rattle.flow_system.specs.Tables.{Tables, fields_of}
use Rattle.flow_system.specs.Solution.{Solution, At, one_word, AsNodes, node_tag, node_field, words_tag, words_field, StandsFor, variable, WordAmong, first, later, ValueGives, of_node, of_field, of_words, FetchGives, its_field, width, Solves}
use Rattle.flow_system.specs.Demands.{of_variable, by_flow}
use Rattle.flow_system.proofs.Least.{in_every}
use Rattle.points_to.specs.declared.copies.Copies.{Copies}
use Rattle.points_to.specs.declared.copies.Fetch.{Fetch}
use Rattle.points_to.specs.declared.copies.Fetched.{Fetched}
use Rattle.points_to.specs.declared.facts.Fact.{Fact}
use Rattle.points_to.specs.declared.facts.Item.{Item}
use Rattle.points_to.specs.declared.kept.Kept.{Kept}
use Rattle.points_to.specs.Asked.{fact, facts_at}
use Rattle.points_to.specs.Bits.{block_numbers, word_of, block_words}
use Rattle.points_to.specs.declared.bits.Bits.{Bits}
use Rattle.points_to.specs.Copies.{fetch_of, fetch_at, words_of, words_at, targets_of, targets_at, links_at, facts_to, AreFetched, HoldsFetched, GoesTo, AreAt, IsField, IsFetched, IsCopied}
use Rattle.points_to.specs.Held.{In, here, there, item, in_part, words_in_part, elements}
use Rattle.points_to.specs.Kept.{is_not_site, met_by, IsSound}
use Rattle.points_to.specs.Known.{held, GrowsByFacts}
use Rattle.points_to.specs.Rows.{numbers_in, words_in, GainsMembers}
use Rattle.points_to.specs.Stored.{cell_stored, value_in, values_in, value_at}
use Rattle.points_to.specs.ValueWords.{elements_of, stored_words}
use Rattle.seq.specs.Lists.{or_empty}
use Rattle.seq.proofs.Lists.{some_is, none_is_some, map_append, get_within, get_set, length_set}
use Rattle.seq.proofs.Member.{none_in, one_in, in_left, in_right, in_split, flat_in, in_map, map_in}
use Rattle.seq.proofs.Order.{same_or_not}
use Rattle.points_to.proofs.GivenItems.{picked_in, elements_mean}
use Rattle.points_to.proofs.Loops.{flat_taken}
use Rattle.points_to.proofs.Solved.{grows_more}
use Rattle.points_to.proofs.Numbers.{bit_in, in_bit}
use Rattle.points_to.proofs.Rows.{gets_words, words_are}
use Rattle.points_to.proofs.Whole.{facts_sound, value_at_of}
use Rattle.points_to.proofs.WholeFetch.{value_gives}

pub on_both : {X E : Type 0} (r : Result X E) (P Q R : Type 0) → (P → Q → R) → OnOk r P → OnOk r Q
    → OnOk r R
on_both (Ok x) P Q R f p q = f p q
on_both (Err e) P Q R f p q = tt

pub when_some : {X : Type 0} (o : Option X) (P Q : X → Type 0) → ((x : X) → P x → Q x) → IfSome o P
    → IfSome o Q
when_some None P Q f p = tt
when_some (Some x) P Q f p = f x p

pub at_in : {X : Type 0} (xs : List X) (i : ℕ) (x : X) → slice_get xs i ≡ Some x → In x xs
at_in [] i x e = none_is_some e
at_in (y ∷ xs) zero x e = subst (λ z. In z (y ∷ xs)) (some_is e) here
at_in (y ∷ xs) (suc i) x e = there (at_in xs i x e)

-- an item that is set in a list, and one that is put at its end
pub set_elsewhere : {X : Type 0} (xs : List X) (n m : ℕ) (x : X) → (m ≡ n → ⊥)
    → slice_get (slice_set xs n x) m ≡ slice_get xs m
set_elsewhere [] n m x ne = refl
set_elsewhere (y ∷ xs) zero zero x ne = absurd (ne refl)
set_elsewhere (y ∷ xs) zero (suc m) x ne = refl
set_elsewhere (y ∷ xs) (suc n) zero x ne = refl
set_elsewhere (y ∷ xs) (suc n) (suc m) x ne = set_elsewhere xs n m x (λ e. ne (ap suc e))

pub at_pushed : {X : Type 0} (xs : List X) (x y : X) (m : ℕ) → slice_get (xs ++ x ∷ []) m ≡ Some y
    → (slice_get xs m ≡ Some y) ⊎ ((m ≡ length xs) × (y ≡ x))
at_pushed [] x y zero e = inr (refl, some_is (sym e))
at_pushed [] x y (suc m) e = none_is_some e
at_pushed (z ∷ xs) x y zero e = inl e
at_pushed (z ∷ xs) x y (suc m) e = ⊎_elim (λ a. inl a) (λ b. inr (ap suc b.0, b.1))
    (at_pushed xs x y m e)

length_pushed : {X : Type 0} (xs : List X) (x : X) → length (xs ++ x ∷ []) ≡ suc (length xs)
length_pushed [] x = refl
length_pushed (y ∷ xs) x = ap suc (length_pushed xs x)

-- rows of numbers
pub row_pushed : (xs : List (List ℕ)) (m : ℕ) → or_empty (slice_get (xs ++ [] ∷ []) m) ≡ or_empty
    (slice_get xs m)
row_pushed [] zero = refl
row_pushed [] (suc m) = refl
row_pushed (x ∷ xs) zero = refl
row_pushed (x ∷ xs) (suc m) = row_pushed xs m

pub row_grown : (zs xs ys : List (List ℕ)) (x : List ℕ) → x ≡ [] → ys ≡ xs ++ x ∷ []
    → ((m : ℕ) → or_empty (slice_get xs m) ≡ or_empty (slice_get zs m)) → (m : ℕ)
    → or_empty (slice_get ys m) ≡ or_empty (slice_get zs m)
row_grown zs xs ys x e q h m = ap (λ l. or_empty (slice_get l m)) (q ∙ ap (λ y. xs ++ y ∷ []) e) ∙
    row_pushed xs m ∙ h m

pub row_put : (xs : List (List ℕ)) (n g : ℕ) (row new : List ℕ) → n < length xs
    → slice_get xs n ≡ Some row → new ≡ row ++ g ∷ [] → (m h : ℕ)
    → In h (or_empty (slice_get (slice_set xs n new) m))
    → In h (or_empty (slice_get xs m)) ⊎ ((m ≡ n) × (h ≡ g))
row_put xs n g row new lt is e m h i = ⊎_elim
    (λ q. ⊎_elim
    (λ a. inl (subst (λ o. In h (or_empty o)) (sym (ap (slice_get xs) q ∙ is)) a))
    (λ b. inr (q, one_in g b))
    (in_split row (g ∷ [])
    (subst (In h) e
    (subst (λ o. In h (or_empty o))
    (ap (slice_get (slice_set xs n new)) q ∙ get_set xs n new lt) i))))
    (λ q. inl (subst (λ o. In h (or_empty o)) (set_elsewhere xs n m new q) i))
    (same_or_not m n)

-- the words of a set that gets numbers
pub set_gets : (s s' : Bits) (bs : List (ℕ × ℕ)) → GainsMembers (numbers_in s) (numbers_in s')
    (flat_map block_numbers bs) → GainsMembers (words_in s) (words_in s') (flat_map block_words bs)
set_gets s s' bs g = subst (GainsMembers (words_in s) (words_in s')) (sym (words_are bs))
    (gets_words s.blocks.items s'.blocks.items (flat_map block_numbers bs) g)

pub no_words : (s : Bits) → numbers_in s ≡ [] → words_in s ≡ []
no_words s e = words_are s.blocks.items ∙ ap (map word_of) e

-- fewer bits, and the words of more blocks
pub fewer_words : (q w v : ℕ) → ((i : ℕ) → bit_at v i ≡ 1 → bit_at w i ≡ 1) → (u : AbstractWord)
    → In u (block_words (q, v)) → In u (block_words (q, w))
fewer_words q w v h u i =
    let m = map_in word_of (block_numbers (q, v)) i in
    let b = in_bit 64 (q * 64) v m.0 m.1 in
    subst (λ u. In u (block_words (q, w))) (sym m.2)
    (in_map word_of (block_numbers (q, w))
    (subst (λ n. In n (block_numbers (q, w))) (sym b.2)
    (bit_in 64 (q * 64) w b.0 b.1 (h b.0 b.3))))

pub within_next : (old : List AbstractWord) (bs : List (ℕ × ℕ)) (i : ℕ) (b : ℕ × ℕ)
    (now new : List AbstractWord) → i < length bs →
    ((u : AbstractWord) → In u now → In u old ⊎ In u (flat_map block_words (take i bs)))
    → ((u : AbstractWord) → In u new → In u now ⊎ In u (block_words (get_or bs i b)))
    → (u : AbstractWord) → In u new → In u old ⊎ In u (flat_map block_words (take (i + 1) bs))
within_next old bs i b now new lt before more u h =
    let all = flat_taken block_words bs i b lt in
    ⊎_elim
    (λ x. ⊎_elim (λ o. inl o)
    (λ y. inr
    (subst (In u) all
    (in_left (flat_map block_words (take i bs)) (block_words (get_or bs i b)) y))) (before u x))
    (λ x. inr
    (subst (In u) all
    (in_right (flat_map block_words (take i bs)) (block_words (get_or bs i b)) x)))
    (more u h)

-- words that are put at variables
module _ (H H' H'' : Place → List Item) where
  pub targets_next : (us : List AbstractWord) (xs : List ℕ) (i x : ℕ) → i < length xs
      → GrowsByFacts H H' (facts_to (take i xs) us)
      → GrowsByFacts H' H'' (facts_at (var (get_or xs i x)) (in_part (word 0) us))
      → GrowsByFacts H H'' (facts_to (take (i + 1) xs) us)
  targets_next us xs i x lt g k =
      subst (GrowsByFacts H H'')
      (flat_taken (λ x. facts_at (var x) (in_part (word 0) us)) xs i x lt)
      (grows_more H H' H'' (facts_to (take i xs) us)
      (facts_at (var (get_or xs i x)) (in_part (word 0) us)) g k)

in_facts_to : (xs : List ℕ) (us : List AbstractWord) (f : Fact) → In f (facts_to xs us) → (x : ℕ)
    × (u : AbstractWord) × In x xs × In u us × (f ≡ fact (var x) (item (word 0) u))
in_facts_to xs us f h =
    let r = flat_in (λ x. facts_at (var x) (in_part (word 0) us)) xs h in
    let i = map_in (fact (var r.0)) (in_part (word 0) us) r.2 in
    let w = map_in (item (word 0)) us i.1 in
    (r.0, w.0, r.1, w.1, i.2 ∙ ap (fact (var r.0)) w.2)

module _ (p : Tables) (cs : List Inclusion) where
  abbrev vs : List (Option Val)
  vs = values_in cs

  pub nothing_copied : (c : Copies) → c.fetches.items ≡ [] → c.links.items ≡ [] → IsCopied p cs c
  nothing_copied c e q = record {
    fetches = λ g d is. none_is_some (sym (ap (λ l. slice_get l g) e) ∙ is);
    within = λ x g h. none_in (subst (λ l. In g (or_empty (slice_get l x))) q h);
    links = λ x g d h. none_in (subst (λ l. In g (or_empty (slice_get l x))) q h);
  }

  -- one fetch more
  pub one_more : (c c' : Copies) (d : Fetched) → c'.links ≡ c.links
      → c'.fetches.items ≡ c.fetches.items ++ d ∷ [] → words_in d.words ≡ [] → d.targets ≡ []
      → IsCopied p cs c → IsCopied p cs c'
  one_more c c' d e q none nowhere x = record {
    fetches = λ g d' is. ⊎_elim
        (λ a. x.fetches g d' a)
        (λ b. subst (IsFetched p cs) (sym b.1) (record {
          words = λ B m u h. none_in (subst (In u) none h);
          targets = λ y h. none_in (subst (In y) nowhere h);
        }))
        (at_pushed c.fetches.items d d' g (sym (ap (λ l. slice_get l g) q) ∙ is));
    within = λ y g h. let lt : g < length c.fetches.items = x.within y g (old y g h) in let many
        : length c'.fetches.items ≡ suc (length c.fetches.items)
        = ap length q ∙ length_pushed c.fetches.items d in omega (arith, lt, many);
    links = λ y g d' h is. ⊎_elim
        (λ a. x.links y g d' (old y g h) a)
        (λ b. absurd
        (let lt : g < length c.fetches.items = x.within y g (old y g h) in let same
        : g ≡ length c.fetches.items = b.0 in omega (arith, lt, same)))
        (at_pushed c.fetches.items d d' g (sym (ap (λ l. slice_get l g) q) ∙ is));
  }
    where
      old : (y g : ℕ) → In g (links_at c' y) → In g (links_at c y)
      old y g h = subst (λ l. In g (or_empty (slice_get l.items y))) e h

  -- a fetch of which more is known
  pub one_changed : (c c' : Copies) (g : ℕ) (d d' : Fetched) → c'.links ≡ c.links
      → c'.fetches.items ≡ slice_set c.fetches.items g d' → slice_get c.fetches.items g ≡ Some d
      → d'.fetch ≡ d.fetch
      → (IsFetched p cs d → IsFetched p cs d') → IsCopied p cs c → IsCopied p cs c'
  one_changed c c' g d d' e q at same more x = record {
    fetches = λ h b is. ⊎_elim
        (λ z. subst (IsFetched p cs) (its h b z is) (more (x.fetches g d at)))
        (λ z. x.fetches h b (other h b z is))
        (same_or_not h g);
    within = λ y h i. subst (λ n. h < n) (sym (ap length q ∙ length_set c.fetches.items g d'))
        (x.within y h (old y h i));
    links = λ y h b i is. ⊎_elim
        (λ z. subst (λ f. HoldsFetched p cs f y) (sym same ∙ ap (λ d. d.fetch) (its h b z is))
        (x.links y g d (subst (λ n. In n (links_at c y)) z (old y h i)) at))
        (λ z. x.links y h b (old y h i) (other h b z is))
        (same_or_not h g);
  }
    where
      old : (y h : ℕ) → In h (links_at c' y) → In h (links_at c y)
      old y h i = subst (λ l. In h (or_empty (slice_get l.items y))) e i

      its : (h : ℕ) (b : Fetched) → h ≡ g → slice_get c'.fetches.items h ≡ Some b → d' ≡ b
      its h b z is = some_is
          (sym (get_set c.fetches.items g d' (get_within c.fetches.items g d at)) ∙ sym
          (ap (λ l. slice_get l g) q) ∙ ap (slice_get c'.fetches.items) (sym z) ∙ is)

      other : (h : ℕ) (b : Fetched) → (h ≡ g → ⊥) → slice_get c'.fetches.items h ≡ Some b
          → slice_get c.fetches.items h ≡ Some b
      other h b z is = sym (set_elsewhere c.fetches.items g h d' z) ∙ sym
          (ap (λ l. slice_get l h) q) ∙ is

  -- a variable is linked
  pub one_linked : (c c' : Copies) (x g : ℕ) (f : Fetch) → c'.fetches ≡ c.fetches
      → ((y h : ℕ) → In h (links_at c' y) → In h (links_at c y) ⊎ ((y ≡ x) × (h ≡ g)))
      → fetch_at c g ≡ Some f
      → HoldsFetched p cs f x → IsCopied p cs c → IsCopied p cs c'
  one_linked c c' x g f e put at holds k = record {
    fetches = λ h d is. k.fetches h d (same h d is);
    within = λ y h i. subst (λ v. h < length v.items) (sym e)
        (⊎_elim (λ a. k.within y h a)
        (λ b. subst (λ h. h < length c.fetches.items) (sym b.1)
        (within (slice_get c.fetches.items g) refl at)) (put y h i));
    links = λ y h d i is. ⊎_elim
        (λ a. k.links y h d a (same h d is))
        (λ b. subst (λ y. HoldsFetched p cs d.fetch y) (sym b.0)
        (subst (λ f. HoldsFetched p cs f x)
        (some_is (sym at ∙ ap (fetch_at c) (sym b.1) ∙ ap fetch_of (same h d is))) holds))
        (put y h i);
  }
    where
      same : (h : ℕ) (d : Fetched) → slice_get c'.fetches.items h ≡ Some d
          → slice_get c.fetches.items h ≡ Some d
      same h d is = sym (ap (λ v. slice_get v.items h) e) ∙ is

      within : (o : Option Fetched) → slice_get c.fetches.items g ≡ o → fetch_of o ≡ Some f
          → g < length c.fetches.items
      within None is q = none_is_some q
      within (Some d) is q = get_within c.fetches.items g d is

  -- words and targets of a fetch
  pub words_more : (d d' : Fetched) (us : List AbstractWord) → d'.fetch ≡ d.fetch
      → d'.targets ≡ d.targets → GainsMembers (words_in d.words) (words_in d'.words) us
      → AreFetched p cs d.fetch us → IsFetched p cs d → IsFetched p cs d'
  words_more d d' us e q g are x = record {
    words = λ B m u h. subst (λ f. FetchGives p B f.cells f.word u) (sym e)
        (⊎_elim (λ a. x.words B m u a) (λ b. are B m u b) (g.only u h));
    targets = λ y h. subst (λ f. GoesTo p cs f y) (sym e) (x.targets y (subst (In y) q h));
  }

  pub target_more : (d d' : Fetched) (f : Fetch) (x : ℕ) → d'.fetch ≡ d.fetch → d'.words ≡ d.words
      → d'.targets ≡ d.targets ++ x ∷ [] → d.fetch ≡ f → GoesTo p cs f x → IsFetched p cs d
      → IsFetched p cs d'
  target_more d d' f x e q r s goes k = record {
    words = λ B m u h. subst (λ f. FetchGives p B f.cells f.word u) (sym e)
        (k.words B m u (subst (λ b. In u (words_in b)) q h));
    targets = λ y h. subst (λ f. GoesTo p cs f y) (sym e)
        (⊎_elim (λ a. k.targets y a)
        (λ b. subst (λ y. GoesTo p cs d.fetch y) (sym (one_in x b))
        (subst (λ f. GoesTo p cs f x) (sym s) goes))
        (in_split d.targets (x ∷ []) (subst (In y) r h)));
  }

  -- an inclusion is a fetch
  pub inclusion_goes : (i : ℕ) (c : Inclusion) (f : Fetch) (x : VarId) → slice_get cs i ≡ Some c
      → c ≡ flows (word_at f.cells f.word) (to (One x)) → GoesTo p cs f x.0
  inclusion_goes i c f x at is B m u g = in_every p cs B B m (λ q part u y. y) i
      (flows (word_at f.cells f.word) (to (One x))) (at ∙ ap Some is) (var x.0) (word 0) u
      (by_flow (of_variable (one_word g)))

  -- the words of a linked variable are fetched
  pub linked_words : (c : Copies) (x g : ℕ) (f : Fetch) (us : List AbstractWord) → IsCopied p cs c
      → In g (links_at c x) → fetch_at c g ≡ Some f → AreAt p cs x us → AreFetched p cs f us
  linked_words c x g f us k h at are = go (slice_get c.fetches.items g) refl at
    where
      go : (o : Option Fetched) → slice_get c.fetches.items g ≡ o → fetch_of o ≡ Some f
          → AreFetched p cs f us
      go None is q = none_is_some q
      go (Some d) is q = λ B m u i. subst (λ f. FetchGives p B f.cells f.word u) (some_is q)
          (k.links x g d h is B m u (are B m u i))

  pub held_words : (f : Fetch) (x : ℕ) (us : List AbstractWord) → HoldsFetched p cs f x
      → AreAt p cs x us → AreFetched p cs f us
  held_words f x us holds are B m u h = holds B m u (are B m u h)

  -- what is known of a variable
  pub known_words : (k : Kept) (x : ℕ) (us : List AbstractWord) → IsSound p cs k
      → us ≡ words_in_part (word 0) (held k.facts (var x)) → AreAt p cs x us
  known_words k x us sound e B m u h = sound.facts.by B m (var x) (word 0) u
      (picked_in (word 0) (held k.facts (var x)) (subst (In u) e h))

  -- what is fetched goes to its targets
  pub delivered_sound : (k k' : Kept) (c : Copies) (g : ℕ) (us : List AbstractWord)
      → k'.stored ≡ k.stored → GrowsByFacts (held k.facts) (held k'.facts)
      (facts_to (targets_at c g) us)
      → ((u : AbstractWord) → In u us → In u (words_at c g)) → IsCopied p cs c → IsSound p cs k
      → IsSound p cs k'
  delivered_sound k k' c g us e grows within copied
      = facts_sound p cs k k' (facts_to (targets_at c g) us) e grows
      (λ B m f h. let r = in_facts_to (targets_at c g) us f h in
      subst (λ f. At B f.place f.item.part f.item.word) (sym r.4)
      (go B m (slice_get c.fetches.items g) refl r.0 r.1 r.2 (within r.1 r.3)))
      (λ f h. let r = in_facts_to (targets_at c g) us f h in ap (λ f. is_not_site f.place) r.4)
    where
      go : (B : Solution) → Solves p cs B → (o : Option Fetched) → slice_get c.fetches.items g ≡ o
          → (x : ℕ) (u : AbstractWord) → In x (targets_at c g) → In u (words_at c g)
          → At B (var x) (word 0) u
      go B m None is x u h i = none_in (subst (λ o. In x (targets_of o)) is h)
      go B m (Some d) is x u h i =
          let f = copied.fetches g d is in
          f.targets x (subst (λ o. In x (targets_of o)) is h) B m u
          (f.words B m u (subst (λ o. In u (words_of o)) is i))

  -- a linked variable, whose words are fetched with what is known of it
  pub link_fetched : (k : Kept) (c c' : Copies) (x g : ℕ) (f f' : Fetch) (us : List AbstractWord)
      → c'.fetches ≡ c.fetches → fetch_at c g ≡ Some f → fetch_at c' g ≡ Some f'
      → HoldsFetched p cs f x
      → us ≡ words_in_part (word 0) (held k.facts (var x)) → IsSound p cs k → AreFetched p cs f' us
  link_fetched k c c' x g f f' us e at at' holds q sound =
      subst (λ f. AreFetched p cs f us)
      (some_is (sym at ∙ sym (ap (λ v. fetch_of (slice_get v.items g)) e) ∙ at'))
      (held_words f x us holds (known_words k x us sound q))

  -- the words of a value that reaches the cells
  pub given_fetched : (k : Kept) (c : Copies) (g n : ℕ) (f f' : Fetch) (us : List AbstractWord)
      → fetch_at c g ≡ Some f → fetch_at c g ≡ Some f' → In n (met_by p k f.cells)
      → us ≡ stored_words p (held k.facts) f.word (value_at vs n) → IsSound p cs k
      → AreFetched p cs f' us
  given_fetched k c g n f f' us at at' met e sound =
      subst (λ f. AreFetched p cs f us) (some_is (sym at ∙ at'))
      (λ B m u h. value_gives p cs k sound B m f.cells f.word n met u (subst (In u) e h))

  -- a field of a value that reaches the cells
  module _ (k : Kept) (sound : IsSound p cs k) (B : Solution) (m : Solves p cs B) where
    only : (q : Place) (part : Part) (u : AbstractWord) → In (item part u) (held k.facts q)
        → At B q part u
    only q part u h = sound.facts.by B m q part u h

    among : (ws : List W.Word) (j : ℕ) (w : W.Word) (u : AbstractWord) → slice_get ws j ≡ Some w
        → StandsFor p B w u → WordAmong p B ws j u
    among [] j w u e st = none_is_some e
    among (v ∷ ws) zero w u e st = first (subst (λ w. StandsFor p B w u) (sym (some_is e)) st)
    among (v ∷ ws) (suc j) w u e st = later (among ws j w u e st)

    head_among : (ws : List W.Word) (u : AbstractWord)
        → In u (elements_of p (held k.facts) (slice_get ws 0)) → WordAmong p B ws 0 u
    head_among [] u h = none_in h
    head_among (w ∷ ws) u h = first (elements_mean p (held k.facts) B only w u h)

    module _ (t l j : ℕ) (is : fields_of p t ≡ Some l) (lt : j < l) where
      its_tag : (v : Val) (w : W.Word) → IsField p (held k.facts) t l j v w
          → AsNodes p (width (value v)) (ValueGives p B v) tags (tag t)
      its_tag (NodeVar x) w h = absurd h
      its_tag (NodeVal v ws) w h = subst
          (λ t. AsNodes p (width (value (NodeVal v ws))) (ValueGives p B (NodeVal v ws)) tags
          (tag t)) h.0 (node_tag of_node)
      its_tag (VectorVal ws) w h = words_tag (of_words (head_among ws (tag t) h.1)) is h.0
      its_tag (OneVal v) w h = absurd h

      its_word : (v : Val) (w : W.Word) (u : AbstractWord) → IsField p (held k.facts) t l j v w
          → StandsFor p B w u → AsNodes p (width (value v)) (ValueGives p B v) (field t j) u
      its_word (NodeVar x) w u h st = absurd h
      its_word (NodeVal v ws) w u h st = subst
          (λ t. AsNodes p (width (value (NodeVal v ws))) (ValueGives p B (NodeVal v ws)) (field t j)
          u) h.0 (node_field (of_field (among ws j w u h.1 st)))
      its_word (VectorVal ws) w u h st = words_field (of_words (head_among ws (tag t) h.1)) is h.0
          lt (of_words (among ws (suc j) w u h.2 st))
      its_word (OneVal v) w u h st = absurd h

      field_given : (f : Fetch) (n : ℕ) (v : Val) (w : W.Word) (u : AbstractWord) → f.word ≡ suc j
          → In n (met_by p k f.cells) → value_at vs n ≡ Some v → IsField p (held k.facts) t l j v w
          → StandsFor p B w u → FetchGives p B f.cells f.word u
      field_given f n v w u next met is_v h st = let r
          = flat_in (cell_stored k.stored) (elements p (held k.facts) f.cells) met in at r.0 r.1 r.2
        where
          at : (x : AbstractWord) → In x (elements p (held k.facts) f.cells)
              → In n (cell_stored k.stored x) → FetchGives p B f.cells f.word u
          at (tag s) a b = none_in b
          at num a b = none_in b
          at (cell_of s) a b =
              let nodes = sound.stored B m s n v b is_v in
              subst (λ i. FetchGives p B f.cells i u) (sym next)
              (its_field (elements_mean p (held k.facts) B only f.cells (cell_of s) a)
              (nodes tags (tag t) (its_tag v w h)) is lt
              (nodes (field t j) u (its_word v w u h st)))

  pub field_holds : (k : Kept) (f : Fetch) (n t l j : ℕ) (c : Inclusion) (v : Val) (w : W.Word)
      (x : VarId) → fields_of p t ≡ Some l → j < l → f.word ≡ suc j → In n (met_by p k f.cells)
      → slice_get cs n ≡ Some c → value_in c ≡ Some v → IsField p (held k.facts) t l j v w
      → w ≡ var_word x → IsSound p cs k → HoldsFetched p cs f x.0
  field_holds k f n t l j c v w x is lt next met at e h q sound B m u a =
      field_given k sound B m t l j is lt f n v w u next met (value_at_of cs n c at ∙ e) h
      (subst (λ w. StandsFor p B w u) (sym q) (variable a))
