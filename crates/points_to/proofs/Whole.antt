-- What is known of a system that reads cells by words stays sound, and is the least solution where
-- nothing is wanting.
use Rattle.std.proofs.Common.{◌≡◌, ℕ, zero, suc, Bool, true, false, List, [], ◌∷◌, ◌++◌, Option, Some, None, slice_get, refl, sym, ap, ◌∙◌, subst, ⊎_elim}
use Rattle.std.specs.List.{flat_map}
use Rattle.grin_syntax.specs.declared.program.Word.{Word}
use Rattle.grin_syntax.specs.declared.program.Word.TheVariants.{Lit, Var, Global, TagWord}
use Rattle.grin_syntax.specs.declared.program.Val.{Val}
use Rattle.grin_syntax.specs.declared.program.Val.TheVariants.{NodeVar, Node as NodeVal, Vector as VectorVal, One as OneVal}
use Rattle.flow_system.specs.declared.fact.Element.{Element as AbstractWord}
use Rattle.flow_system.specs.declared.fact.Element.TheVariants.{Cell as cell_of}
use Rattle.flow_system.specs.declared.fact.Place.{Place}
use Rattle.flow_system.specs.declared.fact.Place.TheVariants.{Site as site, Var as var, Result as result}
use Rattle.flow_system.specs.declared.fact.Part.{Part}
use Rattle.flow_system.specs.Inclusions.{Source, value, a_cell, a_number, held as held', nodes_at, word_at, evaluated, extended, arguments, FlowSink, to, into_site, into_result, cells_at, Inclusion, flows, forces, applies}
use Rattle.flow_system.specs.Tables.{Tables}
use Rattle.flow_system.specs.Solution.{Solution, Sets, At, WordBound, AsNodes, ValueGives, width, NodesTo, Solves, IsLeast}
use Rattle.flow_system.specs.Demands.{Asks, of_node_variable, of_variable, of_vector, of_site, of_result, of_cells, Demands, by_flow}
use Rattle.flow_system.proofs.Least.{least_by_rounds, in_every}
use Rattle.points_to.specs.declared.facts.Item.{Item}
use Rattle.points_to.specs.declared.facts.Fact.{Fact}
use Rattle.points_to.specs.declared.kept.Kept.{Kept}
use Rattle.points_to.specs.Held.{In, here, item, elements, as_nodes, value_items}
use Rattle.points_to.specs.Asked.{fact, facts_demanded}
use Rattle.points_to.specs.Known.{held, solution_of, GrowsByFacts, ContainsAllFacts}
use Rattle.points_to.specs.Reads.{word_reads, value_reads, sink_reads, source_reads, reads, Agree}
use Rattle.points_to.specs.Rounds.{InEvery}
use Rattle.points_to.specs.Stored.{stored_at, value_in, values_in, value_at, nodes_of, whole, PutsAtAllSites}
use Rattle.points_to.specs.Kept.{has_no_node_variable, is_not_cell_sink, is_not_site, reads_no_cell, touches_no_cell, KeepsAllFacts, IsSound, solution, Steps, MetAtEnd, AllMet}
use Rattle.points_to.proofs.GivenItems.{nodes_mean, in_nodes, elements_mean, in_elements, value_means, in_value}
use Rattle.points_to.proofs.Exact.{demands_mean, in_demands}
use Rattle.points_to.proofs.Agree.{same_items, same_demands}
use Rattle.points_to.proofs.Solved.{known_at, at_known}
use Rattle.seq.proofs.Member.{none_in, one_in, in_left, in_right, in_split, in_flat, flat_in}
use Rattle.seq.proofs.Truth.{and_left, and_right, false_not_true}

some_is : {X : Type 0} (x y : X) → Some x ≡ Some y → x ≡ y
some_is x y e = cc

nothing_in : {X : Type 0} (xs : List X) → ((x : X) → In x xs → false ≡ true) → xs ≡ []
nothing_in [] n = refl
nothing_in (x ∷ xs) n = false_not_true (n x here)

-- places that are no sites
abbrev NoSites : List Place → Type 0
NoSites qs = (q : Place) → In q qs → is_not_site q ≡ true

none_no : NoSites []
none_no q h = none_in h

both_no : (qs rs : List Place) → NoSites qs → NoSites rs → NoSites (qs ++ rs)
both_no qs rs a b q h = ⊎_elim (a q) (b q) (in_split qs rs h)

one_no : (r : Place) → is_not_site r ≡ true → NoSites (r ∷ [])
one_no r e q h = subst (λ s. is_not_site s ≡ true) (sym (one_in r h)) e

word_no : (w : Word) → NoSites (word_reads w)
word_no (Lit k) = none_no
word_no (Var x) = one_no (var x.0) refl
word_no (Global i) = none_no
word_no (TagWord t) = none_no

words_no : (ws : List Word) → NoSites (flat_map word_reads ws)
words_no [] = none_no
words_no (w ∷ ws) = both_no (word_reads w) (flat_map word_reads ws) (word_no w) (words_no ws)

value_no : (v : Val) → NoSites (value_reads v)
value_no (NodeVar x) = one_no (var x.0) refl
value_no (NodeVal t ws) = words_no ws
value_no (VectorVal ws) = words_no ws
value_no (OneVal w) = word_no w

sink_no : (k : FlowSink) → is_not_cell_sink k ≡ true → NoSites (sink_reads k)
sink_no (to t) e = none_no
sink_no (into_site s) e = none_no
sink_no (into_result f) e = none_no
sink_no (cells_at w) e = false_not_true e

pub asks_elsewhere : {p : Tables} {A : Solution} {m : WordBound} {X : Sets} {q : Place}
    {part : Part} {u : AbstractWord} (k : FlowSink) → is_not_cell_sink k ≡ true
    → Asks p A m X k q part u → is_not_site q ≡ true
asks_elsewhere k e (of_node_variable y) = refl
asks_elsewhere k e (of_variable y) = refl
asks_elsewhere k e (of_vector y z) = refl
asks_elsewhere k e (of_site y) = false_not_true e
asks_elsewhere k e (of_result y) = refl
asks_elsewhere k e (of_cells y z) = false_not_true e

pub value_at_of : (cs : List Inclusion) (n : ℕ) (c : Inclusion) → slice_get cs n ≡ Some c
    → value_at (values_in cs) n ≡ value_in c
value_at_of [] n c e = cc
value_at_of (d ∷ cs) zero c e = ap value_in (some_is d c e)
value_at_of (d ∷ cs) (suc n) c e = value_at_of cs n c e

module _ (p : Tables) where
  source_no : (H : Place → List Item) (s : Source) → reads_no_cell s ≡ true
      → NoSites (source_reads p H s)
  source_no H (value v) e = value_no v
  source_no H (a_cell s) e = none_no
  source_no H a_number e = none_no
  source_no H (held' q) e = one_no q e
  source_no H (nodes_at w) e = false_not_true e
  source_no H (word_at w i) e = false_not_true e
  source_no H (evaluated s) e = false_not_true e
  source_no H (extended v a) e = false_not_true e
  source_no H (arguments s t ws) e = both_no (source_reads p H s) (flat_map word_reads ws)
      (source_no H s e) (words_no ws)

  reads_no : (H : Place → List Item) (c : Inclusion) → touches_no_cell c ≡ true
      → NoSites (reads p H c)
  reads_no H (flows s k) e = both_no (source_reads p H s) (sink_reads k)
      (source_no H s (and_left _ _ e)) (sink_no k (and_right (reads_no_cell s) _ e))
  reads_no H (forces s) e = false_not_true e
  reads_no H (applies v a k) e = false_not_true e

  demands_elsewhere : {A : Solution} {q : Place} {part : Part} {u : AbstractWord} (c : Inclusion)
      → touches_no_cell c ≡ true → Demands p A c q part u → is_not_site q ≡ true
  demands_elsewhere (flows s k) e (by_flow x) = asks_elsewhere k (and_right (reads_no_cell s) _ e) x
  demands_elsewhere (forces s) e d = false_not_true e
  demands_elsewhere (applies v a k) e d = false_not_true e

  module _ (cs : List Inclusion) where
    abbrev vs : List (Option Val)
    vs = values_in cs

    abbrev W : Kept → Place → List Item
    W k = whole p vs k.facts k.stored

    pub known_whole : (k : Kept) (q : Place) (j : Item) → In j (held k.facts q) → In j (W k q)
    known_whole k (site n) j h = in_left (held k.facts (site n)) _ h
    known_whole k (var n) j h = h
    known_whole k (result n) j h = h

    no_site_same : (k : Kept) (q : Place) → is_not_site q ≡ true → W k q ≡ held k.facts q
    no_site_same k (site n) e = false_not_true e
    no_site_same k (var n) e = refl
    no_site_same k (result n) e = refl

    agrees : (k : Kept) (qs : List Place) → NoSites qs → Agree (held k.facts) (W k) qs
    agrees k qs n = record { at = λ q h. no_site_same k q (n q h) }

    pub elements_whole : (k : Kept) (w : Word) → elements p (W k) w ≡ elements p (held k.facts) w
    elements_whole k (Lit i) = refl
    elements_whole k (Var x) = refl
    elements_whole k (Global i) = refl
    elements_whole k (TagWord t) = refl

    value_whole : (k : Kept) (v : Val) → value_items p (W k) v ≡ value_items p (held k.facts) v
    value_whole k v = same_items p (held k.facts) (W k) (value v)
        (agrees k (value_reads v) (value_no v))

    demands_whole : (k : Kept) (c : Inclusion) → touches_no_cell c ≡ true
        → facts_demanded p (W k) c ≡ facts_demanded p (held k.facts) c
    demands_whole k c e = same_demands p (held k.facts) (W k) c
        (agrees k (reads p (held k.facts) c) (reads_no (held k.facts) c e))

    -- a solution has the nodes of the values that reach cells
    pub nodes_within : (k : Kept) → IsSound p cs k → (B : Solution) → Solves p cs B → (s n : ℕ)
        → In n (stored_at k.stored s) → (part : Part) (u : AbstractWord)
        → In (item part u) (nodes_of p (held k.facts) (value_at vs n)) → At B (site s) part u
    nodes_within k sound B m s n st part u h = go (value_at vs n) refl h
      where
        go : (o : Option Val) → value_at vs n ≡ o → In (item part u) (nodes_of p (held k.facts) o)
            → At B (site s) part u
        go None e h = none_in h
        go (Some v) e h = sound.stored B m s n v st e part u
            (nodes_mean p (value_items p (held k.facts) v) (ValueGives p B v)
            (value_means p (held k.facts) B (λ q part u i. sound.facts.by B m q part u i) v)
            (width (value v)) part u h)

    whole_within : (k : Kept) → IsSound p cs k → (B : Solution) → Solves p cs B
        → ContainsAllFacts (W k) B
    whole_within k sound B m (site s) part u h = ⊎_elim
        (λ a. sound.facts.by B m (site s) part u a)
        (λ b. let r = flat_in (λ n. nodes_of p (held k.facts) (value_at vs n))
        (stored_at k.stored s) b in nodes_within k sound B m s r.0 r.1 part u r.2)
        (in_split (held k.facts (site s)) _ h)
    whole_within k sound B m (var n) part u h = sound.facts.by B m (var n) part u h
    whole_within k sound B m (result n) part u h = sound.facts.by B m (result n) part u h

    pub least_of_kept : (k : Kept) → IsSound p cs k → AllMet p cs k → IsLeast p cs (solution p cs k)
    least_of_kept k sound all = least_by_rounds p cs (solution p cs k) all.by
        (λ B m q part u a. whole_within k sound B m q part u (at_known (W k) q part u a))

    -- where facts are added that every solution has, none of them at a site
    pub facts_sound : (k k' : Kept) (fs : List Fact) → k'.stored ≡ k.stored
        → GrowsByFacts (held k.facts) (held k'.facts) fs
        → ((B : Solution) → Solves p cs B → (f : Fact) → In f fs
        → At B f.place f.item.part f.item.word)
        → ((f : Fact) → In f fs → is_not_site f.place ≡ true) → IsSound p cs k → IsSound p cs k'
    facts_sound k k' fs e g every away sound = record {
      facts = record {
        by = λ B m q part u h. ⊎_elim (λ a. sound.facts.by B m q part u a)
            (λ b. every B m (fact q (item part u)) b) (g.only q (item part u) h);
      };
      stored = λ B m s n v h. sound.stored B m s n v (subst (λ t. In n (stored_at t s)) e h);
      no_facts = λ s. nothing_in (held k'.facts (site s))
          (λ j h. ⊎_elim (λ a. none_in (subst (In j) (sound.no_facts s) a))
          (λ b. away (fact (site s) j) b) (g.only (site s) j h));
      of_words = λ s n v h. sound.of_words s n v (subst (λ t. In n (stored_at t s)) e h);
    }

    pub facts_grew : (k k' : Kept) (fs : List Fact) → k'.stored ≡ k.stored
        → GrowsByFacts (held k.facts) (held k'.facts) fs → KeepsAllFacts k k'
    facts_grew k k' fs e g = record
        { facts = g.kept; stored = λ s n h. subst (λ t. In n (stored_at t s)) (sym e) h }

    -- an inclusion that has nothing to do with cells
    pub plain_steps : (k k' : Kept) (n : ℕ) (c : Inclusion) (added : Bool) → slice_get cs n ≡ Some c
        → touches_no_cell c ≡ true → k'.stored ≡ k.stored
        → GrowsByFacts (held k.facts) (held k'.facts) (facts_demanded p (held k.facts) c)
        → (added ≡ false → k' ≡ k) → Steps p cs k k' added
    plain_steps k k' n c added at plain e g same = record {
      sound = λ sound. facts_sound k k' (facts_demanded p (held k.facts) c) e g
          (λ B m f h. in_every p cs (solution_of (held k.facts)) B m
          (λ q part u a. sound.facts.by B m q part u (at_known (held k.facts) q part u a)) n c
          at f.place f.item.part f.item.word (means f h))
          (λ f h. demands_elsewhere {A = solution_of (held k.facts)} c plain (means f h))
          sound;
      grew = facts_grew k k' (facts_demanded p (held k.facts) c) e g;
      same = same;
    }
      where
        means : (f : Fact) → In f (facts_demanded p (held k.facts) c)
            → Demands p (solution_of (held k.facts)) c f.place f.item.part f.item.word
        means f h = demands_mean p (held k.facts) (solution_of (held k.facts))
            (λ q part u a. known_at (held k.facts) q part u a) c f h

    pub plain_met : (k k' : Kept) (c : Inclusion) (added : Bool) → touches_no_cell c ≡ true
        → GrowsByFacts (held k.facts) (held k'.facts) (facts_demanded p (held k.facts) c)
        → (added ≡ false → k' ≡ k) → MetAtEnd p cs k c added
    plain_met k k' c added plain g same sound e q part u d
        = known_at (W k) q part u (known_whole k q (item part u)
        (subst (λ x. In (item part u) (held x.facts q)) (same e)
        (g.put (fact q (item part u))
        (subst (In (fact q (item part u))) (demands_whole k c plain)
        (in_demands p (W k) (solution p cs k) (λ q part u a. at_known (W k) q part u a) c q part
        u d)))))

    -- a value that is put into cells
    pub stores_steps : (k k' : Kept) (n : ℕ) (v : Val) (t : FlowSink) (cells : List AbstractWord)
        (added : Bool) → slice_get cs n ≡ Some (flows (value v) t) → has_no_node_variable v ≡ true
        → k'.facts ≡ k.facts
        → PutsAtAllSites (stored_at k.stored) (stored_at k'.stored) cells n
        → (IsSound p cs k → (B : Solution) → Solves p cs B → (s : ℕ) → In (cell_of s) cells
        → NodesTo p B (width (value v)) (ValueGives p B v) (site s))
        → (added ≡ false → k' ≡ k) → Steps p cs k k' added
    stores_steps k k' n v t cells added at words e st goes same = record {
      sound = λ sound. record {
        facts = subst (λ f. InEvery p cs (held f)) (sym e) sound.facts;
        stored = λ B m s n' v' h is. ⊎_elim
            (λ a. sound.stored B m s n' v' a is)
            (λ b. subst (λ x. NodesTo p B (width (value x)) (ValueGives p B x) (site s))
            (sym (its n' v' b.1 is)) (goes sound B m s b.0))
            (st.only s n' h);
        no_facts = λ s. ap (λ f. held f (site s)) e ∙ sound.no_facts s;
        of_words = λ s n' v' h is. ⊎_elim
            (λ a. sound.of_words s n' v' a is)
            (λ b. subst (λ x. has_no_node_variable x ≡ true) (sym (its n' v' b.1 is)) words)
            (st.only s n' h);
      };
      grew = record { facts = λ q j h. subst (λ f. In j (held f q)) (sym e) h; stored = st.kept };
      same = same;
    }
      where
        its : (n' : ℕ) (v' : Val) → n' ≡ n → value_at vs n' ≡ Some v' → v' ≡ v
        its n' v' e is = some_is v' v
            (sym is ∙ ap (value_at vs) e ∙ value_at_of cs n (flows (value v) t) at)

    -- what a value asks for at a site where it is stored
    value_there : (k : Kept) (n : ℕ) (v : Val) (t : FlowSink) (s : ℕ)
        → slice_get cs n ≡ Some (flows (value v) t) → In n (stored_at k.stored s)
        → (part : Part) (u : AbstractWord)
        → AsNodes p (width (value v)) (ValueGives p (solution p cs k) v) part u
        → At (solution p cs k) (site s) part u
    value_there k n v t s at h part u a = known_at (W k) (site s) part u
        (in_right (held k.facts (site s)) _
        (in_flat (λ i. nodes_of p (held k.facts) (value_at vs i)) (stored_at k.stored s) h
        (subst (λ o. In (item part u) (nodes_of p (held k.facts) o))
        (sym (value_at_of cs n (flows (value v) t) at))
        (subst (λ X. In (item part u) (as_nodes p (width (value v)) X)) (value_whole k v)
        (in_nodes p (value_items p (W k) v) (ValueGives p (solution p cs k) v)
        (in_value p (W k) (solution p cs k) (λ q part u x. at_known (W k) q part u x) v)
        (width (value v)) part u a)))))

    pub update_steps : (k k' : Kept) (n : ℕ) (v : Val) (w : Word) (added : Bool)
        → slice_get cs n ≡ Some (flows (value v) (cells_at w)) → has_no_node_variable v ≡ true
        → k'.facts ≡ k.facts
        → PutsAtAllSites (stored_at k.stored) (stored_at k'.stored) (elements p (held k.facts) w) n
        → (added ≡ false → k' ≡ k) → Steps p cs k k' added
    update_steps k k' n v w added at words e st same
        = stores_steps k k' n v (cells_at w) (elements p (held k.facts) w) added at words e st
        (λ sound B m s h part u a. in_every p cs B B m (λ q part u x. x) n
        (flows (value v) (cells_at w)) at (site s) part u
        (by_flow (of_cells
        (elements_mean p (held k.facts) B (λ q part u i. sound.facts.by B m q part u i) w
        (cell_of s) h) a)))
        same

    pub update_met : (k k' : Kept) (n : ℕ) (v : Val) (w : Word) (added : Bool)
        → slice_get cs n ≡ Some (flows (value v) (cells_at w))
        → PutsAtAllSites (stored_at k.stored) (stored_at k'.stored) (elements p (held k.facts) w) n
        → (added ≡ false → k' ≡ k) → MetAtEnd p cs k (flows (value v) (cells_at w)) added
    update_met k k' n v w added at st same sound e q part u (by_flow (of_cells {s = s} x a))
        = value_there k n v (cells_at w) s at
        (subst (λ y. In n (stored_at y.stored s)) (same e)
        (st.put s
        (subst (In (cell_of s)) (elements_whole k w)
        (in_elements p (W k) (solution p cs k) (λ q part u x. at_known (W k) q part u x) w
        (cell_of s) x))))
        part u a

    pub store_steps : (k k' : Kept) (n : ℕ) (v : Val) (s : ℕ) (added : Bool)
        → slice_get cs n ≡ Some (flows (value v) (into_site s)) → has_no_node_variable v ≡ true
        → k'.facts ≡ k.facts
        → PutsAtAllSites (stored_at k.stored) (stored_at k'.stored) (cell_of s ∷ []) n
        → (added ≡ false → k' ≡ k) → Steps p cs k k' added
    store_steps k k' n v s added at words e st same
        = stores_steps k k' n v (into_site s) (cell_of s ∷ []) added at words e st
        (λ sound B m r h part u a. subst (λ x. At B (site x) part u)
        (sym (one_cell r s (one_in (cell_of s) h)))
        (in_every p cs B B m (λ q part u x. x) n (flows (value v) (into_site s)) at (site s)
        part u (by_flow (of_site a))))
        same
      where
        one_cell : (r s : ℕ) → cell_of r ≡ cell_of s → r ≡ s
        one_cell r s e = cc

    pub store_met : (k k' : Kept) (n : ℕ) (v : Val) (s : ℕ) (added : Bool)
        → slice_get cs n ≡ Some (flows (value v) (into_site s))
        → PutsAtAllSites (stored_at k.stored) (stored_at k'.stored) (cell_of s ∷ []) n
        → (added ≡ false → k' ≡ k) → MetAtEnd p cs k (flows (value v) (into_site s)) added
    store_met k k' n v s added at st same sound e q part u (by_flow (of_site a))
        = value_there k n v (into_site s) s at
        (subst (λ y. In n (stored_at y.stored s)) (same e) (st.put s here)) part u a
