-- What is demanded of a part of a solution is in the solution, and what has all that is demanded of
-- it is one.
use Rattle.std.proofs.Common.{◌≡◌, ◌+◌, ℕ, zero, suc, List, [], ◌∷◌, Option, Some, slice_get, refl, subst, arith}
use Rattle.grin_syntax.specs.declared.program.VarId.{VarId}
use Rattle.grin_syntax.specs.declared.program.Word.{Word}
use Rattle.grin_syntax.specs.declared.program.Val.{Val}
use Rattle.grin_syntax.specs.declared.program.Target.TheVariants.{Nothing, Node as NodeTarget, One as OneTarget, Vector as VectorTarget}
use Rattle.flow_system.specs.Inclusions.{AbstractWord, Place, site, var, result, Part, tags, word, Source, value, a_cell, a_number, held, nodes_at, word_at, evaluated, extended, arguments, FlowSink, to, into_site, into_result, cells_at, Inclusion, flows, forces, applies}
use Rattle.flow_system.specs.Tables.{Tables, params_of}
use Rattle.flow_system.specs.Solution.{Solution, Sets, At, OneWord, one_word, AsNodes, node_tag, node_field, words_tag, words_field, AsWords, word_word, tag_word, field_word, zero_word, Evaluated, evaluated_tag, evaluated_field, StandsFor, literal, variable, global, tag_itself, WordAmong, first, later, ValueGives, of_variable as value_variable, of_node, of_field, of_words, of_word, FetchGives, its_tag, its_field, its_zero, ExtendGives, extended_tag, extended_field, extended_last, ArgumentsGive, field_argument, word_argument, width, Gives, WordsTo, Reaches, FlowsTo, Meets, AllMet, Solves, IsLeast}
use Rattle.flow_system.specs.Demands.{Asks, of_node_variable, of_variable, of_vector, of_site, of_result, of_cells, AsksFlow, Demands, by_flow, by_delayed, by_evaluated, by_argument, by_applied, Content}

abbrev pub Within : Sets → Sets → Type 0
Within X Y = (part : Part) (u : AbstractWord) → X part u → Y part u

abbrev pub Below : Solution → Solution → Type 0
Below A B = (q : Place) (part : Part) (u : AbstractWord) → At A q part u → At B q part u

module _ (p : Tables) where
  as_nodes_mono : (k : Option ℕ) (X Y : Sets) → Within X Y → Within (AsNodes p k X) (AsNodes p k Y)
  as_nodes_mono k X Y w part u (node_tag x) = node_tag (w tags _ x)
  as_nodes_mono k X Y w part u (node_field x) = node_field (w _ _ x)
  as_nodes_mono k X Y w part u (words_tag x e en) = words_tag (w (word 0) _ x) e en
  as_nodes_mono k X Y w part u (words_field x e en lt y)
      = words_field (w (word 0) _ x) e en lt (w _ _ y)

  as_words_mono : (X Y : Sets) → Within X Y → (j : ℕ) (u : AbstractWord) → AsWords p X j u
      → AsWords p Y j u
  as_words_mono X Y w j u (word_word x) = word_word (w _ _ x)
  as_words_mono X Y w j u (tag_word x) = tag_word (w tags _ x)
  as_words_mono X Y w j u (field_word x e lt y) = field_word (w tags _ x) e lt (w _ _ y)
  as_words_mono X Y w j u (zero_word x e le) = zero_word (w tags _ x) e le

  evaluated_mono : (X Y : Sets) → Within X Y → Within (Evaluated p X) (Evaluated p Y)
  evaluated_mono X Y w part u (evaluated_tag i x) = evaluated_tag i (w _ _ x)
  evaluated_mono X Y w part u (evaluated_field i x) = evaluated_field i (w _ _ x)

  one_mono : (S T : AbstractWord → Type 0) → ((u : AbstractWord) → S u → T u)
      → Within (OneWord S) (OneWord T)
  one_mono S T f part u (one_word x) = one_word (f u x)

  module _ (A B : Solution) (b : Below A B) where
    stands_mono : (a : Word) (u : AbstractWord) → StandsFor p A a u → StandsFor p B a u
    stands_mono a u literal = literal
    stands_mono a u (variable x) = variable (b _ _ _ x)
    stands_mono a u (global e) = global e
    stands_mono a u tag_itself = tag_itself

    among_mono : (ws : List Word) (j : ℕ) (u : AbstractWord) → WordAmong p A ws j u
        → WordAmong p B ws j u
    among_mono ws j u (first x) = first (stands_mono _ _ x)
    among_mono ws j u (later x) = later (among_mono _ _ _ x)

    value_mono : (v : Val) → Within (ValueGives p A v) (ValueGives p B v)
    value_mono v part u (value_variable x) = value_variable (b _ _ _ x)
    value_mono v part u of_node = of_node
    value_mono v part u (of_field x) = of_field (among_mono _ _ _ x)
    value_mono v part u (of_words x) = of_words (among_mono _ _ _ x)
    value_mono v part u (of_word x) = of_word (stands_mono _ _ x)

    fetch_mono : (a : Word) (i : ℕ) (u : AbstractWord) → FetchGives p A a i u → FetchGives p B a i u
    fetch_mono a i u (its_tag s x) = its_tag (stands_mono _ _ s) (b _ _ _ x)
    fetch_mono a i u (its_field s x e lt y) = its_field (stands_mono _ _ s) (b _ _ _ x) e lt
        (b _ _ _ y)
    fetch_mono a i u (its_zero s x e le) = its_zero (stands_mono _ _ s) (b _ _ _ x) e le

    extend_mono : (X Y : Sets) → Within X Y → (a : Word)
        → Within (ExtendGives p A X a) (ExtendGives p B Y a)
    extend_mono X Y w a part u (extended_tag x y e) = extended_tag (w _ _ x) y e
    extend_mono X Y w a part u (extended_field x y e z) = extended_field (w _ _ x) y e (w _ _ z)
    extend_mono X Y w a part u (extended_last x y e f z)
        = extended_last (w _ _ x) y e f (stands_mono _ _ z)

    arguments_mono : (X Y : Sets) → Within X Y → (t : ℕ) (ws : List Word)
        → Within (ArgumentsGive p A X t ws) (ArgumentsGive p B Y t ws)
    arguments_mono X Y w t ws part u (field_argument x y) = field_argument (w _ _ x) (w _ _ y)
    arguments_mono X Y w t ws part u (word_argument x e y z)
        = word_argument (w _ _ x) e (among_mono _ _ _ y) z

    pub gives_mono : (s : Source) → Within (Gives p A s) (Gives p B s)
    gives_mono (value v) = value_mono v
    gives_mono (a_cell s) = λ part u x. x
    gives_mono a_number = λ part u x. x
    gives_mono (held q) = b q
    gives_mono (nodes_at a) = λ part u x. (x.0, stands_mono a _ x.1, b _ _ _ x.2)
    gives_mono (word_at a i) = one_mono _ _ (fetch_mono a i)
    gives_mono (evaluated s) = evaluated_mono _ _ (as_nodes_mono (width s) _ _ (gives_mono s))
    gives_mono (extended v a) = extend_mono _ _ (as_nodes_mono (width (value v)) _ _ (value_mono v))
        a
    gives_mono (arguments s t ws) = arguments_mono _ _ (as_nodes_mono (width s) _ _ (gives_mono s))
        t ws

    words_have : (X Y : Sets) → Within X Y → (i : ℕ) (xs : List VarId) → WordsTo p B Y i xs
        → (x : VarId) (j : ℕ) (u : AbstractWord) → slice_get xs j ≡ Some x → AsWords p X (i + j) u
        → At B (var x.0) (word 0) u
    words_have X Y w i [] m x j u e y = cc
    words_have X Y w i (z ∷ xs) m x zero u e y = let same : z ≡ x = cc
        in subst (λ v. At B (var v.0) (word 0) u) same
        (m.0 u (subst (λ k. AsWords p Y k u) (omega arith) (as_words_mono X Y w (i + 0) u y)))
    words_have X Y w i (z ∷ xs) m x (suc j) u e y = words_have X Y w (suc i) xs m.1 x j u e
        (subst (λ k. AsWords p X k u) (omega arith) y)

    -- what A asks for is in B, where B has what it asks for itself
    asked : (k : Option ℕ) (X Y : Sets) → Within X Y
        → (s : FlowSink) (q : Place) (part : Part) (u : AbstractWord) → Reaches p B k Y s
        → Asks p A k X s q part u → At B q part u
    asked k X Y w s q part u r (of_node_variable x) = r _ _ (as_nodes_mono k X Y w _ _ x)
    asked k X Y w s q part u r (of_variable x) = r _ (w _ _ x)
    asked k X Y w s q part u r (of_vector {xs = xs} {x = x} {j = j} e y)
        = words_have X Y w 0 xs r x j u e (subst (λ k. AsWords p X k u) (omega arith) y)
    asked k X Y w s q part u r (of_site x) = r _ _ (as_nodes_mono k X Y w _ _ x)
    asked k X Y w s q part u r (of_result x) = r _ _ (w _ _ x)
    asked k X Y w s q part u r (of_cells st x) = r _ (stands_mono _ _ st) _ _
        (as_nodes_mono k X Y w _ _ x)

    flow_asked : (s : Source) (k : FlowSink) (q : Place) (part : Part) (u : AbstractWord)
        → FlowsTo p B s k → AsksFlow p A s k q part u → At B q part u
    flow_asked s k q part u m x = asked (width s) (Gives p A s) (Gives p B s) (gives_mono s) k q
        part u m x

    pub demanded : (c : Inclusion) (q : Place) (part : Part) (u : AbstractWord) → Meets p B c
        → Demands p A c q part u → At B q part u
    demanded c q part u m (by_flow {s = s} {k = k} x) = flow_asked s k q part u m x
    demanded c q part u m (by_delayed {s = s} {t = t} {f = f} x d y)
        = flow_asked (arguments (held (site s)) t []) (to (params_of p f)) q part u
        (m t f (b _ _ _ x) d).0 y
    demanded c q part u m (by_evaluated {s = s} {t = t} {f = f} x d y)
        = flow_asked (evaluated (held (result f))) (into_site s) q part u (m t f (b _ _ _ x) d).1 y
    demanded c q part u m (by_argument {v = v} {a = a} {t = t} {f = f} x d y)
        = flow_asked (arguments (value v) t (a ∷ [])) (to (params_of p f)) q part u
        (m t f (as_nodes_mono (width (value v)) _ _ (value_mono v) _ _ x) d).0 y
    demanded c q part u m (by_applied {v = v} {k = k} {t = t} {f = f} x d y)
        = flow_asked (held (result f)) k q part u
        (m t f (as_nodes_mono (width (value v)) _ _ (value_mono v) _ _ x) d).1 y

  module _ (A : Solution) where
    words_reach : (k : Option ℕ) (X : Sets) (all : List VarId)
        → ((q : Place) (part : Part) (u : AbstractWord)
        → Asks p A k X (to (VectorTarget all)) q part u → At A q part u)
        → (j : ℕ) (xs : List VarId) →
        ((i : ℕ) (x : VarId) → slice_get xs i ≡ Some x → slice_get all (j + i) ≡ Some x)
        → WordsTo p A X j xs
    words_reach k X all c j [] f = tt
    words_reach k X all c j (x ∷ xs) f = (
      λ u y. c (var x.0) (word 0) u
          (of_vector {j = j} (subst (λ i. slice_get all i ≡ Some x) (omega arith) (f 0 x refl)) y),
      words_reach k X all c (suc j) xs
          (λ i z e. subst (λ n. slice_get all n ≡ Some z) (omega arith) (f (suc i) z e)),
    )

    reached : (k : Option ℕ) (X : Sets) (s : FlowSink)
        → ((q : Place) (part : Part) (u : AbstractWord) → Asks p A k X s q part u → At A q part u)
        → Reaches p A k X s
    reached k X (to Nothing) c = tt
    reached k X (to (NodeTarget x)) c = λ part u y. c (var x.0) part u (of_node_variable y)
    reached k X (to (OneTarget x)) c = λ u y. c (var x.0) (word 0) u (of_variable y)
    reached k X (to (VectorTarget xs)) c = words_reach k X xs c 0 xs
        (λ i x e. subst (λ n. slice_get xs n ≡ Some x) (omega arith) e)
    reached k X (into_site s) c = λ part u y. c (site s) part u (of_site y)
    reached k X (into_result f) c = λ part u y. c (result f) part u (of_result y)
    reached k X (cells_at a) c = λ s st part u y. c (site s) part u (of_cells st y)

    pub meets_from : (c : Inclusion) → Content p A c → Meets p A c
    meets_from (flows s k) c = reached (width s) (Gives p A s) k
        (λ q part u x. c q part u (by_flow x))
    meets_from (forces s) c = λ t f x d. (
      reached _ _ _ (λ q part u y. c q part u (by_delayed x d y)),
      reached _ _ _ (λ q part u y. c q part u (by_evaluated x d y)),
    )
    meets_from (applies v a k) c = λ t f x d. (
      reached _ _ _ (λ q part u y. c q part u (by_argument x d y)),
      reached _ _ _ (λ q part u y. c q part u (by_applied x d y)),
    )

  -- A has what each inclusion demands, and is below each solution
  all_met : (A : Solution) (cs : List Inclusion) →
      ((i : ℕ) (c : Inclusion) → slice_get cs i ≡ Some c → Content p A c) → AllMet p A cs
  all_met A [] f = tt
  all_met A (c ∷ cs) f = (meets_from A c (f 0 c refl), all_met A cs (λ i d e. f (suc i) d e))

  pub met_at : (B : Solution) (cs : List Inclusion) → AllMet p B cs → (i : ℕ) (c : Inclusion)
      → slice_get cs i ≡ Some c → Meets p B c
  met_at B [] m i c e = cc
  met_at B (d ∷ cs) m zero c e = let same : d ≡ c = cc in subst (Meets p B) same m.0
  met_at B (d ∷ cs) m (suc i) c e = met_at B cs m.1 i c e

  module _ (cs : List Inclusion) where
    pub least_by_rounds : (A : Solution) →
        ((i : ℕ) (c : Inclusion) → slice_get cs i ≡ Some c → Content p A c)
        → ((B : Solution) → Solves p cs B → Below A B) → IsLeast p cs A
    least_by_rounds A f b = record { solves = all_met A cs f; least = b }

    -- what an inclusion demands of what is in every solution is in every solution
    pub in_every : (A B : Solution) → Solves p cs B → Below A B → (i : ℕ) (c : Inclusion)
        → slice_get cs i ≡ Some c → (q : Place) (part : Part) (u : AbstractWord)
        → Demands p A c q part u → At B q part u
    in_every A B m b i c e q part u d = demanded A B b c q part u (met_at B cs m i c e) d
