-- What an inclusion asks for, as a list, is what it demands.
--
-- What is known grows only by what an inclusion asks for. So it is contained in every solution.
-- When no inclusion asks for more, it is a solution. The order in which inclusions are looked at
-- is a hint; rounds over all of them at the end find what a wrong hint has missed.
use Rattle.std.proofs.Common.{◌≡◌, ◌+◌, ℕ, zero, suc, List, [], ◌∷◌, Option, Some, None, slice_get, refl, sym, ap, ◌∙◌, subst, ⊎_elim, arith}
use Rattle.grin_syntax.specs.declared.program.VarId.{VarId}
use Rattle.grin_syntax.specs.declared.program.Target.{Target}
use Rattle.grin_syntax.specs.declared.program.Target.TheVariants.{Nothing, Node as NodeTarget, One as OneTarget, Vector as VectorTarget}
use Rattle.flow_system.specs.declared.fact.Element.{Element as AbstractWord}
use Rattle.flow_system.specs.declared.fact.Element.TheVariants.{Cell as cell_of, Tag as tag, Number as num}
use Rattle.flow_system.specs.declared.fact.Place.{Place}
use Rattle.flow_system.specs.declared.fact.Place.TheVariants.{Site as site, Var as var, Result as result}
use Rattle.flow_system.specs.declared.fact.Part.{Part}
use Rattle.flow_system.specs.declared.fact.Part.TheVariants.{Tags as tags, Word as word}
use Rattle.flow_system.specs.Inclusions.{Source, value, held, evaluated, arguments, FlowSink, to, into_site, into_result, cells_at, Inclusion, flows, forces, applies}
use Rattle.flow_system.specs.Tables.{Tables, params_of}
use Rattle.flow_system.specs.Solution.{Solution, Sets, At, AsNodes, StandsFor, ValueGives, width, Gives}
use Rattle.flow_system.specs.Demands.{Asks, of_node_variable, of_variable, of_vector, of_site, of_result, of_cells, AsksFlow, Demands, by_flow, by_delayed, by_evaluated, by_argument, by_applied}
use Rattle.points_to.specs.declared.facts.Item.{Item}
use Rattle.points_to.specs.declared.facts.Fact.{Fact}
use Rattle.points_to.specs.Held.{In, item, in_part, words_in_part, elements, value_items, as_word, as_nodes, items, delayed, called}
use Rattle.points_to.specs.Asked.{fact, facts_at, vector_facts, target_facts, cell_facts, asked, flow_facts, delayed_facts, forced, called_facts, applied, facts_demanded}
use Rattle.seq.proofs.Member.{none_in, in_left, in_right, in_split, in_flat, flat_in, in_map, map_in}
use Rattle.points_to.proofs.GivenItems.{picked_in, in_picked, Only, All, as_word_means, in_as_word, nodes_mean, in_nodes, elements_mean, in_elements, value_means, in_value, items_mean, in_items, delayed_is, is_delayed, called_is, is_called}

-- facts as a relation
abbrev Facts : Type 1
Facts = Place → Part → AbstractWord → Type 0

by_fact : {f g : Fact} (R : Facts) → f ≡ g → R g.place g.item.part g.item.word
    → R f.place f.item.part f.item.word
by_fact R e r = subst (λ f. R f.place f.item.part f.item.word) (sym e) r

module _ (p : Tables) (H : Place → List Item) (A : Solution) where
  module _ (only : (q : Place) → Only p (H q) (At A q)) where
    module _ (k : Option ℕ) (X : List Item) (S : Sets) (o : Only p X S) where
      at_mean : (q : Place) (Y : List Item) (R : Facts)
          → ((part : Part) (u : AbstractWord) → In (item part u) Y → R q part u) → (f : Fact)
          → In f (facts_at q Y) → R f.place f.item.part f.item.word
      at_mean q Y R g f h = let r = map_in (fact q) Y h in by_fact R r.2 (g r.0.part r.0.word r.1)

      words_mean : (x : VarId) (Y : List AbstractWord) (R : Facts)
          → ((u : AbstractWord) → In u Y → R (var x.0) (word 0) u) → (f : Fact)
          → In f (facts_at (var x.0) (in_part (word 0) Y)) → R f.place f.item.part f.item.word
      words_mean x Y R g f h =
          let r = map_in (fact (var x.0)) (in_part (word 0) Y) h in
          let w = map_in (item (word 0)) Y r.1 in
          by_fact R (r.2 ∙ ap (fact (var x.0)) w.2) (g w.0 w.1)

      vector_means : (all : List VarId) (j : ℕ) (xs : List VarId)
          → ((i : ℕ) (x : VarId) → slice_get xs i ≡ Some x → slice_get all (j + i) ≡ Some x)
          → (f : Fact) → In f (vector_facts p X j xs)
          → Asks p A k S (to (VectorTarget all)) f.place f.item.part f.item.word
      vector_means all j [] g f h = none_in h
      vector_means all j (x ∷ xs) g f h = ⊎_elim
          (λ a. words_mean x (as_word p j X) (Asks p A k S (to (VectorTarget all)))
          (λ u y. of_vector {j = j}
          (subst (λ i. slice_get all i ≡ Some x) (omega arith) (g 0 x refl))
          (as_word_means p X S o j u y)) f a)
          (λ b. vector_means all (suc j) xs
          (λ i z e. subst (λ n. slice_get all n ≡ Some z) (omega arith) (g (suc i) z e)) f b)
          (in_split (facts_at (var x.0) (in_part (word 0) (as_word p j X)))
          (vector_facts p X (suc j) xs) h)

      target_means : (t : Target) (f : Fact) → In f (target_facts p k X t)
          → Asks p A k S (to t) f.place f.item.part f.item.word
      target_means Nothing f h = none_in h
      target_means (NodeTarget x) f h = at_mean (var x.0) (as_nodes p k X)
          (Asks p A k S (to (NodeTarget x)))
          (λ part u y. of_node_variable (nodes_mean p X S o k part u y)) f h
      target_means (OneTarget x) f h = words_mean x (words_in_part (word 0) X)
          (Asks p A k S (to (OneTarget x)))
          (λ u y. of_variable (o (word 0) u (picked_in (word 0) X y))) f h
      target_means (VectorTarget xs) f h = vector_means xs 0 xs
          (λ i x e. subst (λ n. slice_get xs n ≡ Some x) (omega arith) e) f h

      pub asked_means : (s : FlowSink) (f : Fact) → In f (asked p H k X s)
          → Asks p A k S s f.place f.item.part f.item.word
      asked_means (to t) f h = target_means t f h
      asked_means (into_site s) f h = at_mean (site s) (as_nodes p k X) (Asks p A k S (into_site s))
          (λ part u y. of_site (nodes_mean p X S o k part u y)) f h
      asked_means (into_result g) f h = at_mean (result g) X (Asks p A k S (into_result g))
          (λ part u y. of_result (o part u y)) f h
      asked_means (cells_at w) f h = let r = flat_in (cell_facts (as_nodes p k X)) (elements p H w)
          h in by r.0 (elements_mean p H A only w r.0 r.1) r.2
        where
          by : (x : AbstractWord) → StandsFor p A w x → In f (cell_facts (as_nodes p k X) x)
              → Asks p A k S (cells_at w) f.place f.item.part f.item.word
          by (cell_of s) st y = at_mean (site s) (as_nodes p k X) (Asks p A k S (cells_at w))
              (λ part u z. of_cells st (nodes_mean p X S o k part u z)) f y
          by (tag t) st y = none_in y
          by num st y = none_in y

    flow_means : (s : Source) (k : FlowSink) (f : Fact) → In f (flow_facts p H s k)
        → AsksFlow p A s k f.place f.item.part f.item.word
    flow_means s k f h = asked_means (width s) (items p H s) (Gives p A s) (items_mean p H A only s)
        k f h

    pub demands_mean : (c : Inclusion) (f : Fact) → In f (facts_demanded p H c)
        → Demands p A c f.place f.item.part f.item.word
    demands_mean (flows s k) f h = by_flow (flow_means s k f h)
    demands_mean (forces s) f h = let r = flat_in (forced p H s) (words_in_part tags (H (site s))) h
        in by r.0 (only (site s) tags r.0 (picked_in tags (H (site s)) r.1)) r.2
      where
        by : (x : AbstractWord) → At A (site s) tags x → In f (forced p H s x)
            → Demands p A (forces s) f.place f.item.part f.item.word
        by (cell_of s') x y = none_in y
        by num x y = none_in y
        by (tag t) x y = go (delayed p t) refl y
          where
            go : (d : Option ℕ) → delayed p t ≡ d → In f (delayed_facts p H s t d)
                → Demands p A (forces s) f.place f.item.part f.item.word
            go None e y = none_in y
            go (Some g) e y = ⊎_elim
                (λ z. by_delayed x (delayed_is p t g e)
                (flow_means (arguments (held (site s)) t []) (to (params_of p g)) f z))
                (λ z. by_evaluated x (delayed_is p t g e)
                (flow_means (evaluated (held (result g))) (into_site s) f z))
                (in_split (flow_facts p H (arguments (held (site s)) t []) (to (params_of p g))) _
                y)
    demands_mean (applies v a k) f h = let r = flat_in (applied p H v a k) (words_in_part tags Y) h
        in by r.0
        (nodes_mean p (value_items p H v) (ValueGives p A v) (value_means p H A only v)
        (width (value v)) tags r.0 (picked_in tags Y r.1)) r.2
      where
        Y : List Item
        Y = as_nodes p (width (value v)) (value_items p H v)

        by : (x : AbstractWord) → AsNodes p (width (value v)) (ValueGives p A v) tags x
            → In f (applied p H v a k x) → Demands p A (applies v a k) f.place f.item.part
            f.item.word
        by (cell_of s) x y = none_in y
        by num x y = none_in y
        by (tag t) x y = go (called p t) refl y
          where
            go : (d : Option ℕ) → called p t ≡ d → In f (called_facts p H v a k t d)
                → Demands p A (applies v a k) f.place f.item.part f.item.word
            go None e y = none_in y
            go (Some g) e y = ⊎_elim
                (λ z. by_argument x (called_is p t g e)
                (flow_means (arguments (value v) t (a ∷ [])) (to (params_of p g)) f z))
                (λ z. by_applied x (called_is p t g e) (flow_means (held (result g)) k f z))
                (in_split (flow_facts p H (arguments (value v) t (a ∷ [])) (to (params_of p g))) _
                y)

  module _ (all : (q : Place) → All p (H q) (At A q)) where
    module _ (k : Option ℕ) (X : List Item) (S : Sets) (o : All p X S) where
      in_at : (q : Place) (Y : List Item) (part : Part) (u : AbstractWord) → In (item part u) Y
          → In (fact q (item part u)) (facts_at q Y)
      in_at q Y part u h = in_map (fact q) Y h

      in_words : (x : VarId) (Y : List AbstractWord) (u : AbstractWord) → In u Y
          → In (fact (var x.0) (item (word 0) u)) (facts_at (var x.0) (in_part (word 0) Y))
      in_words x Y u h = in_map (fact (var x.0)) (in_part (word 0) Y) (in_map (item (word 0)) Y h)

      in_vector : (xs : List VarId) (j i n : ℕ) (x : VarId) (u : AbstractWord) → n ≡ j + i
          → slice_get xs i ≡ Some x → In u (as_word p n X)
          → In (fact (var x.0) (item (word 0) u)) (vector_facts p X j xs)
      in_vector [] j i n x u e g h = cc
      in_vector (y ∷ xs) j zero n x u e g h =
          let same : n ≡ j = omega (arith, e) in
          let is : x ≡ y = cc in
          in_left _ _
          (subst (λ z. In (fact (var z.0) (item (word 0) u))
          (facts_at (var y.0) (in_part (word 0) (as_word p j X)))) (sym is)
          (in_words y (as_word p j X) u (subst (λ m. In u (as_word p m X)) same h)))
      in_vector (y ∷ xs) j (suc i) n x u e g h = in_right
          (facts_at (var y.0) (in_part (word 0) (as_word p j X))) _
          (in_vector xs (suc j) i n x u (omega (arith, e)) g h)

      pub in_asked : (s : FlowSink) (q : Place) (part : Part) (u : AbstractWord)
          → Asks p A k S s q part u → In (fact q (item part u)) (asked p H k X s)
      in_asked s q part u (of_node_variable {x = x} y)
          = in_at (var x.0) (as_nodes p k X) part u (in_nodes p X S o k part u y)
      in_asked s q part u (of_variable {x = x} y) = in_words x (words_in_part (word 0) X) u
          (in_picked (word 0) X (o (word 0) u y))
      in_asked s q part u (of_vector {xs = xs} {x = x} {j = j} e y)
          = in_vector xs 0 j j x u (omega arith) e (in_as_word p X S o j u y)
      in_asked s q part u (of_site {s = s'} y) = in_at (site s') (as_nodes p k X) part u
          (in_nodes p X S o k part u y)
      in_asked s q part u (of_result {f = g} y) = in_at (result g) X part u (o part u y)
      in_asked s q part u (of_cells {a = w} {s = s'} st y)
          = in_flat (cell_facts (as_nodes p k X)) (elements p H w)
          (in_elements p H A all w (cell_of s') st)
          (in_at (site s') (as_nodes p k X) part u (in_nodes p X S o k part u y))

    in_flow : (s : Source) (k : FlowSink) (q : Place) (part : Part) (u : AbstractWord)
        → AsksFlow p A s k q part u → In (fact q (item part u)) (flow_facts p H s k)
    in_flow s k q part u x = in_asked (width s) (items p H s) (Gives p A s) (in_items p H A all s) k
        q part u x

    pub in_demands : (c : Inclusion) (q : Place) (part : Part) (u : AbstractWord)
        → Demands p A c q part u → In (fact q (item part u)) (facts_demanded p H c)
    in_demands c q part u (by_flow {s = s} {k = k} x) = in_flow s k q part u x
    in_demands c q part u (by_delayed {s = s} {t = t} {f = g} x d y)
        = in_flat (forced p H s) (words_in_part tags (H (site s)))
        (in_picked tags (H (site s)) (all (site s) tags (tag t) x))
        (subst (λ o. In (fact q (item part u)) (delayed_facts p H s t o)) (sym (is_delayed p t g d))
        (in_left _ _
        (in_flow (arguments (held (site s)) t []) (to (params_of p g)) q part u y)))
    in_demands c q part u (by_evaluated {s = s} {t = t} {f = g} x d y)
        = in_flat (forced p H s) (words_in_part tags (H (site s)))
        (in_picked tags (H (site s)) (all (site s) tags (tag t) x))
        (subst (λ o. In (fact q (item part u)) (delayed_facts p H s t o)) (sym (is_delayed p t g d))
        (in_right (flow_facts p H (arguments (held (site s)) t []) (to (params_of p g))) _
        (in_flow (evaluated (held (result g))) (into_site s) q part u y)))
    in_demands c q part u (by_argument {v = v} {a = a} {k = k} {t = t} {f = g} x d y)
        = in_flat (applied p H v a k)
        (words_in_part tags (as_nodes p (width (value v)) (value_items p H v)))
        (in_picked tags (as_nodes p (width (value v)) (value_items p H v))
        (in_nodes p (value_items p H v) (ValueGives p A v) (in_value p H A all v)
        (width (value v)) tags (tag t) x))
        (subst (λ o. In (fact q (item part u)) (called_facts p H v a k t o))
        (sym (is_called p t g d))
        (in_left _ _
        (in_flow (arguments (value v) t (a ∷ [])) (to (params_of p g)) q part u y)))
    in_demands c q part u (by_applied {v = v} {a = a} {k = k} {t = t} {f = g} x d y)
        = in_flat (applied p H v a k)
        (words_in_part tags (as_nodes p (width (value v)) (value_items p H v)))
        (in_picked tags (as_nodes p (width (value v)) (value_items p H v))
        (in_nodes p (value_items p H v) (ValueGives p A v) (in_value p H A all v)
        (width (value v)) tags (tag t) x))
        (subst (λ o. In (fact q (item part u)) (called_facts p H v a k t o))
        (sym (is_called p t g d))
        (in_right (flow_facts p H (arguments (value v) t (a ∷ [])) (to (params_of p g))) _
        (in_flow (held (result g)) k q part u y)))
