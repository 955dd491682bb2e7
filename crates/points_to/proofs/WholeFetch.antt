-- Words that are fetched from values in cells, and rounds of a system that reads cells by words.
use Rattle.std.proofs.Common.{◌≡◌, ◌+◌, ◌<◌, ◌≤◌, ℕ, zero, suc, Bool, true, false, ◌||◌, List, [], ◌∷◌, length, Option, Some, None, slice_get, refl, sym, ap, ◌∙◌, subst, inl, inr, ⊎_elim, arith}
use Rattle.std.specs.Prelude.{◌⊎◌}
use Rattle.grin_syntax.specs.declared.program.Word.{Word}
use Rattle.grin_syntax.specs.declared.program.Word.TheVariants.{Lit, Var, Global, TagWord}
use Rattle.grin_syntax.specs.declared.program.Val.{Val}
use Rattle.grin_syntax.specs.declared.program.VarId.{VarId}
use Rattle.grin_syntax.specs.declared.program.Target.TheVariants.{One as OneTarget}
use Rattle.flow_system.specs.declared.fact.Element.{Element as AbstractWord}
use Rattle.flow_system.specs.declared.fact.Element.TheVariants.{Cell as cell_of, Tag as tag, Number as num}
use Rattle.flow_system.specs.declared.fact.Place.{Place}
use Rattle.flow_system.specs.declared.fact.Place.TheVariants.{Site as site, Var as var}
use Rattle.flow_system.specs.declared.fact.Part.{Part}
use Rattle.flow_system.specs.declared.fact.Part.TheVariants.{Tags as tags, Field as field, Word as word}
use Rattle.flow_system.specs.Inclusions.{word_at, FlowSink, to, into_site, into_result, cells_at, Inclusion, flows}
use Rattle.flow_system.specs.Tables.{Tables}
use Rattle.flow_system.specs.Solution.{Solution, At, one_word, StandsFor, FetchGives, its_tag, its_field, its_zero, Gives, Solves}
use Rattle.flow_system.specs.Demands.{by_flow, Content}
use Rattle.flow_system.proofs.Least.{in_every}
use Rattle.points_to.specs.declared.facts.Item.{Item}
use Rattle.points_to.specs.declared.facts.Fact.{Fact}
use Rattle.points_to.specs.declared.kept.Kept.{Kept}
use Rattle.points_to.specs.declared.noted.NotedSets.{NotedSets}
use Rattle.points_to.specs.declared.vectors.RoundCaches.{RoundCaches}
use Rattle.points_to.specs.Held.{In, item, in_part, words_in_part, elements, fetched}
use Rattle.points_to.specs.Asked.{fact, asked}
use Rattle.points_to.specs.Known.{held, solution_of, GrowsByFacts}
use Rattle.points_to.specs.Rows.{SameMembers}
use Rattle.points_to.specs.Stored.{stored_at, cell_stored, values_in, value_at, value_nodes, nodes_of, whole}
use Rattle.points_to.specs.ValueWords.{stored_words, words_of_values}
use Rattle.points_to.specs.Kept.{is_not_cell_sink, met_by, MetSound, MetExact, NotedExact, KeepsAllFacts, IsSound, solution, Steps, MetAtEnd, AllMet}
use Rattle.points_to.proofs.GivenItems.{by_item, picked_in, in_picked, Fetched, the_tag, a_field, a_zero, fetched_means, in_fetched, elements_mean, in_elements}
use Rattle.points_to.proofs.Exact.{asked_means, in_asked}
use Rattle.points_to.proofs.Solved.{known_at, at_known}
use Rattle.points_to.proofs.Whole.{asks_elsewhere, known_whole, elements_whole, nodes_within, facts_sound, facts_grew}
use Rattle.points_to.proofs.ValueWords.{words_same, has_tag}
use Rattle.seq.proofs.Member.{none_in, in_split, in_flat, flat_in, in_map, map_in}
use Rattle.seq.proofs.Order.{lt_or_le}
use Rattle.seq.proofs.Truth.{neither_left, neither_right, false_not_true}

module _ (p : Tables) (cs : List Inclusion) where
  abbrev vs : List (Option Val)
  vs = values_in cs

  abbrev W : Kept → Place → List Item
  W k = whole p vs k.facts k.stored

  -- the words of a value in a cell are fetched, in every solution
  pub value_gives : (k : Kept) → IsSound p cs k → (B : Solution) → Solves p cs B
      → (w : Word) (i n : ℕ) → In n (met_by p k w) → (u : AbstractWord)
      → In u (stored_words p (held k.facts) i (value_at vs n)) → FetchGives p B w i u
  value_gives k sound B m w i n h u y = let r = flat_in (cell_stored k.stored)
      (elements p (held k.facts) w) h in at r.0 r.1 r.2
    where
      only : (q : Place) (part : Part) (u : AbstractWord) → In (item part u) (held k.facts q)
          → At B q part u
      only q part u a = sound.facts.by B m q part u a

      of : (s j : ℕ) (u : AbstractWord) → StandsFor p B w (cell_of s)
          → Fetched p (At B (site s)) j u → FetchGives p B w j u
      of s j u st (the_tag x) = its_tag st x
      of s j u st (a_field x e lt z) = its_field st x e lt z
      of s j u st (a_zero x e le) = its_zero st x e le

      at : (x : AbstractWord) → In x (elements p (held k.facts) w) → In n (cell_stored k.stored x)
          → FetchGives p B w i u
      at (tag t) a b = none_in b
      at num a b = none_in b
      at (cell_of s) a b = go (value_at vs n) refl y
        where
          go : (o : Option Val) → value_at vs n ≡ o → In u (stored_words p (held k.facts) i o)
              → FetchGives p B w i u
          go None e z = none_in z
          go (Some v) e z = of s i u (elements_mean p (held k.facts) B only w (cell_of s) a)
              (fetched_means p (value_nodes p (held k.facts) v) (At B (site s))
              (λ q x c. nodes_within p cs k sound B m s n b q x
              (subst (λ o. In (item q x) (nodes_of p (held k.facts) o)) (sym e) c))
              i u ((words_same p (held k.facts) v i).into u z))

  words_give : (k : Kept) → IsSound p cs k → (B : Solution) → Solves p cs B
      → (w : Word) (i : ℕ) (ns : List ℕ) → ((n : ℕ) → In n ns → In n (met_by p k w))
      → (u : AbstractWord)
      → In u (words_of_values p vs (held k.facts) i ns) → FetchGives p B w i u
  words_give k sound B m w i ns met u h = let r = flat_in
      (λ n. stored_words p (held k.facts) i (value_at vs n)) ns h
      in value_gives k sound B m w i r.0 (met r.0 r.1) u r.2

  -- a value in a cell of the site has the item
  abbrev IsStored : Kept → ℕ → Part → AbstractWord → Type 0
  IsStored k s part u = (n : ℕ) × (v : Val) × In n (stored_at k.stored s) × (value_at vs n ≡ Some v)
      × In (item part u) (value_nodes p (held k.facts) v)

  -- what is fetched in the solution that is known is a word of a value in a cell
  pub gives_words : (k : Kept) → IsSound p cs k → (w : Word) (i : ℕ) (u : AbstractWord)
      → FetchGives p (solution p cs k) w i u → In u
      (words_of_values p vs (held k.facts) i (met_by p k w))
  gives_words k sound w i u g = of i u g
    where
      cell : (s : ℕ) → StandsFor p (solution p cs k) w (cell_of s)
          → In (cell_of s) (elements p (held k.facts) w)
      cell s st = subst (In (cell_of s)) (elements_whole p cs k w)
          (in_elements p (W k) (solution p cs k) (λ q part u x. at_known (W k) q part u x) w
          (cell_of s) st)

      stored : (s : ℕ) (part : Part) (u : AbstractWord) → At (solution p cs k) (site s) part u
          → IsStored k s part u
      stored s part u a = ⊎_elim
          (λ b. none_in (subst (In (item part u)) (sound.no_facts s) b))
          (λ b. let r = flat_in (λ n. nodes_of p (held k.facts) (value_at vs n))
          (stored_at k.stored s) b in go r.0 r.1 (value_at vs r.0) refl r.2)
          (in_split (held k.facts (site s)) _ (at_known (W k) (site s) part u a))
        where
          go : (n : ℕ) → In n (stored_at k.stored s) → (o : Option Val) → value_at vs n ≡ o
              → In (item part u) (nodes_of p (held k.facts) o) → IsStored k s part u
          go n h None e z = none_in z
          go n h (Some v) e z = (n, v, h, e, z)

      put : (s n j : ℕ) (v : Val) (x : AbstractWord) → In (cell_of s) (elements p (held k.facts) w)
          → In n (stored_at k.stored s) → value_at vs n ≡ Some v
          → In x (fetched p j (value_nodes p (held k.facts) v))
          → In x (words_of_values p vs (held k.facts) j (met_by p k w))
      put s n j v x c h e z = in_flat (λ n. stored_words p (held k.facts) j (value_at vs n))
          (met_by p k w) (in_flat (cell_stored k.stored) (elements p (held k.facts) w) c h)
          (subst (λ o. In x (stored_words p (held k.facts) j o)) (sym e)
          ((words_same p (held k.facts) v j).back x z))

      in_it : (v : Val) (j : ℕ) (x : AbstractWord) → Fetched p
          (λ q y. In (item q y) (value_nodes p (held k.facts) v)) j x
          → In x (fetched p j (value_nodes p (held k.facts) v))
      in_it v j x f = in_fetched p (value_nodes p (held k.facts) v)
          (λ q y. In (item q y) (value_nodes p (held k.facts) v)) (λ q y h. h) j x f

      of : (j : ℕ) (x : AbstractWord) → FetchGives p (solution p cs k) w j x
          → In x (words_of_values p vs (held k.facts) j (met_by p k w))
      of j x (its_tag {s = s} st a) =
          let r = stored s tags x a in
          put s r.0 0 r.1 x (cell s st) r.2 r.3 (in_it r.1 0 x (the_tag r.4))
      of j x (its_field {s = s} {t = t} {m = m} {i = l} st a e lt b) =
          let r = stored s (field t l) x b in
          put s r.0 (suc l) r.1 x (cell s st) r.2 r.3
          (in_it r.1 (suc l) x
          (a_field (has_tag p (held k.facts) r.1 (sound.of_words s r.0 r.1 r.2 r.3) t l x r.4) e
          lt r.4))
      of j x (its_zero {s = s} {t = t} {m = m} {i = l} st a e le) =
          let r = stored s tags (tag t) a in
          put s r.0 (suc l) r.1 num (cell s st) r.2 r.3 (in_it r.1 (suc l) num (a_zero r.4 e le))

  words_alike : (H : Place → List Item) (i : ℕ) (ns ms : List ℕ) → ((n : ℕ) → In n ms → In n ns)
      → (u : AbstractWord) → In u (words_of_values p vs H i ms) → In u (words_of_values p vs H i ns)
  words_alike H i ns ms back u h = let r = flat_in (λ n. stored_words p H i (value_at vs n)) ms h
      in in_flat (λ n. stored_words p H i (value_at vs n)) ns (back r.0 r.1) r.2

  asked_same : (H H' : Place → List Item) (m : Option ℕ) (X : List Item) (t : FlowSink)
      → is_not_cell_sink t ≡ true → asked p H m X t ≡ asked p H' m X t
  asked_same H H' m X (to t) e = refl
  asked_same H H' m X (into_site s) e = refl
  asked_same H H' m X (into_result f) e = refl
  asked_same H H' m X (cells_at w) e = false_not_true e

  pub fetch_steps : (k k' : Kept) (n : ℕ) (w : Word) (i : ℕ) (t : FlowSink) (ns : List ℕ)
      (X : List Item) (added : Bool) → slice_get cs n ≡ Some (flows (word_at w i) t)
      → is_not_cell_sink t ≡ true
      → ((n : ℕ) → In n ns → In n (met_by p k w)) → SameMembers X
      (in_part (word 0) (words_of_values p vs (held k.facts) i ns)) → k'.stored ≡ k.stored
      → GrowsByFacts (held k.facts) (held k'.facts) (asked p (held k.facts) (Some 1) X t)
      → (added ≡ false → k' ≡ k) → Steps p cs k k' added
  fetch_steps k k' n w i t ns X added at away met x e g same = record {
    sound = λ sound. facts_sound p cs k k' (asked p (held k.facts) (Some 1) X t) e g
        (λ B m f h. in_every p cs B B m (λ q part u a. a) n (flows (word_at w i) t) at f.place
        f.item.part f.item.word
        (by_flow (asked_means p (held k.facts) B (λ q part u a. sound.facts.by B m q part u a)
        (Some 1) X (Gives p B (word_at w i)) (gives sound B m) t f h)))
        (λ f h. asks_elsewhere t away
        (asked_means p (held k.facts) (solution_of (held k.facts))
        (λ q part u a. known_at (held k.facts) q part u a) (Some 1) X (λ q u. In (item q u) X)
        (λ q u a. a) t f h))
        sound;
    grew = facts_grew p cs k k' (asked p (held k.facts) (Some 1) X t) e g;
    same = same;
  }
    where
      gives : IsSound p cs k → (B : Solution) → Solves p cs B → (q : Part) (u : AbstractWord)
          → In (item q u) X → Gives p B (word_at w i) q u
      gives sound B m q u h =
          let r = map_in (item (word 0)) (words_of_values p vs (held k.facts) i ns)
          (x.into (item q u) h) in
          by_item (Gives p B (word_at w i)) r.2
          (one_word (words_give k sound B m w i ns met r.0 r.1))

  pub fetch_met : (k k' : Kept) (w : Word) (i : ℕ) (t : FlowSink) (ns : List ℕ) (X : List Item)
      (added : Bool) → is_not_cell_sink t ≡ true
      → SameMembers ns (met_by p k w) → SameMembers X
      (in_part (word 0) (words_of_values p vs (held k.facts) i ns))
      → GrowsByFacts (held k.facts) (held k'.facts) (asked p (held k.facts) (Some 1) X t)
      → (added ≡ false → k' ≡ k) → MetAtEnd p cs k (flows (word_at w i) t) added
  fetch_met k k' w i t ns X added away exact x g same sound e q part u (by_flow d)
      = known_at (W k) q part u (known_whole p cs k q (item part u)
      (subst (λ y. In (item part u) (held y.facts q)) (same e)
      (g.put (fact q (item part u))
      (subst (In (fact q (item part u))) (asked_same (W k) (held k.facts) (Some 1) X t away)
      (in_asked p (W k) (solution p cs k) (λ q part u a. at_known (W k) q part u a) (Some 1) X
      (Gives p (solution p cs k) (word_at w i)) all t q part u d)))))
    where
      all : (q : Part) (u : AbstractWord) → Gives p (solution p cs k) (word_at w i) q u
          → In (item q u) X
      all q u (one_word y) = x.back (item (word 0) u)
          (in_map (item (word 0)) (words_of_values p vs (held k.facts) i ns)
          (words_alike (held k.facts) i ns (met_by p k w) exact.back u
          (gives_words k sound w i u y)))

  -- words that are known at the variable are all that is asked
  pub known_at_variable : (H : Place → List Item) (x : VarId) (us : List AbstractWord)
      → ((u : AbstractWord) → In u us → In u (words_in_part (word 0) (H (var x.0)))) → (f : Fact)
      → In f (asked p H (Some 1) (in_part (word 0) us) (to (OneTarget x))) → In f.item (H f.place)
  known_at_variable H x us known f h =
      let a = map_in (fact (var x.0))
      (in_part (word 0) (words_in_part (word 0) (in_part (word 0) us))) h in
      let b = map_in (item (word 0)) (words_in_part (word 0) (in_part (word 0) us)) a.1 in
      let c = map_in (item (word 0)) us (picked_in (word 0) (in_part (word 0) us) b.1) in
      subst (λ g. In g.item (H g.place)) (sym a.2)
      (subst (λ j. In j (H (var x.0))) (sym (b.2 ∙ c.2))
      (picked_in (word 0) (H (var x.0)) (known c.0 c.1)))

  -- where all that is asked is known, the fetch is met
  pub known_met : (k : Kept) (w : Word) (i : ℕ) (t : FlowSink) (ns : List ℕ)
      → is_not_cell_sink t ≡ true
      → ((f : Fact) → In f
      (asked p (held k.facts) (Some 1)
      (in_part (word 0) (words_of_values p vs (held k.facts) i ns)) t)
      → In f.item (held k.facts f.place))
      → SameMembers ns (met_by p k w) → MetAtEnd p cs k (flows (word_at w i) t) false
  known_met k w i t ns away known exact =
      let us = words_of_values p vs (held k.facts) i ns in
      fetch_met k k w i t ns (in_part (word 0) us) false away exact
      (record { into = λ j h. h; back = λ j h. h })
      (record { kept = λ q j h. h; put = known; only = λ q j h. inl h })
      (λ e. refl)

  -- several steps
  pub steps_none : (k : Kept) → Steps p cs k k false
  steps_none k = record {
    sound = λ s. s;
    grew = record { facts = λ q j h. h; stored = λ s n h. h };
    same
        = λ e. refl;
  }

  pub steps_more : (k k' k'' : Kept) (a b : Bool) → Steps p cs k k' a → Steps p cs k' k'' b
      → Steps p cs k k'' (a || b)
  steps_more k k' k'' a b x y = record {
    sound = λ s. y.sound (x.sound s);
    grew = record {
      facts = λ q j h. y.grew.facts q j (x.grew.facts q j h);
      stored
          = λ s n h. y.grew.stored s n (x.grew.stored s n h);
    };
    same = λ e. y.same (neither_right a b e) ∙ x.same (neither_left a b e);
  }

  elements_grew : (k k' : Kept) → KeepsAllFacts k k' → (w : Word) (u : AbstractWord)
      → In u (elements p (held k.facts) w) → In u (elements p (held k'.facts) w)
  elements_grew k k' g (Lit i) u h = h
  elements_grew k k' g (Var x) u h = in_picked (word 0) (held k'.facts (var x.0))
      (g.facts (var x.0) (item (word 0) u) (picked_in (word 0) (held k.facts (var x.0)) h))
  elements_grew k k' g (Global i) u h = h
  elements_grew k k' g (TagWord t) u h = h

  stored_grew : (k k' : Kept) → KeepsAllFacts k k' → (x : AbstractWord) (n : ℕ)
      → In n (cell_stored k.stored x) → In n (cell_stored k'.stored x)
  stored_grew k k' g (cell_of s) n h = g.stored s n h
  stored_grew k k' g (tag t) n h = h
  stored_grew k k' g num n h = h

  pub met_grew : (k k' : Kept) → KeepsAllFacts k k' → (w : Word) (n : ℕ) → In n (met_by p k w)
      → In n (met_by p k' w)
  met_grew k k' g w n h =
      let r = flat_in (cell_stored k.stored) (elements p (held k.facts) w) h in
      in_flat (cell_stored k'.stored) (elements p (held k'.facts) w)
      (elements_grew k k' g w r.0 r.1) (stored_grew k k' g r.0 n r.2)

  pub met_sound : (k k' : Kept) (m : NotedSets) → MetExact p k m → KeepsAllFacts k k'
      → MetSound p k' m
  met_sound k k' m exact g w b n e h = met_grew k k' g w n ((exact w b e).into n h)

  -- a round, so far
  pub record RoundSoFar (k k' : Kept) (added : Bool) (n : ℕ) : Type 0 where
    pub steps : Steps p cs k k' added
    pub met : IsSound p cs k → added ≡ false → (i : ℕ) (c : Inclusion) → i < n
        → slice_get cs i ≡ Some c → Content p (solution p cs k) c

  pub round_begins : (k : Kept) → RoundSoFar k k false 0
  round_begins k = record { steps = steps_none k; met = λ s e i c lt q. absurd (omega arith) }

  pub round_on : (k k' k'' : Kept) (m : RoundCaches) (a b both : Bool) (i : ℕ) (c : Inclusion)
      → slice_get cs i ≡ Some c → both ≡ (a || b) → NotedExact p cs k m → RoundSoFar k k' a i
      → Steps p cs k' k'' b → (NotedExact p cs k' m → MetAtEnd p cs k' c b)
      → RoundSoFar k k'' both (i + 1)
  round_on k k' k'' m a b both i c at e exact x steps met
      = subst (λ t. RoundSoFar k k'' t (i + 1)) (sym e) (record {
        steps = steps_more k k' k'' a b x.steps steps;
        met = λ s q j d lt r. next s q j d lt r (lt_or_le j i);
      })
    where
      some_same : (c d : Inclusion) → Some c ≡ Some d → c ≡ d
      some_same c d e = cc

      next : IsSound p cs k → (a || b) ≡ false → (j : ℕ) (d : Inclusion) → j < i + 1
          → slice_get cs j ≡ Some d → (j < i) ⊎ (i ≤ j) → Content p (solution p cs k) d
      next s q j d lt r (inl l) = x.met s (neither_left a b q) j d l r
      next s q j d lt r (inr l) =
          let same : k' ≡ k = x.steps.same (neither_left a b q) in
          let is : j ≡ i = omega (arith, lt, l) in
          let its : c ≡ d = some_same c d (sym at ∙ ap (slice_get cs) (sym is) ∙ r) in
          let there' : Content p (solution p cs k') c
          = met (subst (λ y. NotedExact p cs y m) (sym same) exact)
          (subst (IsSound p cs) (sym same) s) (neither_right a b q) in
          subst (λ y. Content p (solution p cs k) y) its
          (subst (λ y. Content p (solution p cs y) c) same there')

  pub round_done : (k k' : Kept) (added : Bool) (n : ℕ) → length cs ≤ n → RoundSoFar k k' added n
      → IsSound p cs k → added ≡ false → AllMet p cs k'
  round_done k k' added n le x s e = subst (AllMet p cs) (sym (x.steps.same e))
      (record { by = λ i c q. x.met s e i c (within cs i c n le q) q })
    where
      within : (xs : List Inclusion) (i : ℕ) (c : Inclusion) (n : ℕ) → length xs ≤ n
          → slice_get xs i ≡ Some c → i < n
      within [] i c n le q = cc
      within (x ∷ xs) zero c n le q = omega arith
      within (x ∷ xs) (suc i) c zero le q = absurd (omega arith)
      within (x ∷ xs) (suc i) c (suc n) le q = let h : i < n = within xs i c n (omega arith) q
          in omega arith
