-- The least solution of a program is that of the program with its updates as cases, too: an update
-- puts into its cells what its alternatives put there together.
use Rattle.std.proofs.Common.{◌≡◌, ◌<◌, ℕ, zero, suc, Bool, true, false, cond, nat_le, ◌||◌, List, [], ◌∷◌, ◌++◌, map, filter, length, Option, Some, None, refl, sym, ap, subst, ⊎_elim, append_assoc, arith}
use Rattle.std.specs.Prelude.{IsTrue, slice_get}
use Rattle.std.proofs.lemmas.Option.{slice_get_within}
use Rattle.grin_syntax.specs.declared.program.Cell.{Cell}
use Rattle.grin_syntax.specs.declared.program.GlobalCell.{GlobalCell}
use Rattle.grin_syntax.specs.declared.program.Tag.{Tag}
use Rattle.grin_syntax.specs.declared.program.Val.{Val}
use Rattle.grin_syntax.specs.declared.program.Val.TheVariants.{NodeVar, Node as NodeVal, Vector, One}
use Rattle.grin_syntax.specs.declared.program.VarId.{VarId}
use Rattle.grin_syntax.specs.declared.program.Word.{Word}
use Rattle.grin_syntax.specs.declared.program.Word.TheVariants.{Var, Global}
use Rattle.grin_syntax.specs.declared.program.Target.TheVariants.{One as OneTarget, Vector as VectorTarget}
use Rattle.grin_syntax.specs.Tree.{Code, end, store, bind, Act, Leaf, leaf, unit, fetch, fetch_word, update, eval, apply, call, prim, read, write, case, nested, fail, Arms, no_arm, arm, Procedure, Program}
use Rattle.flow_system.specs.declared.fact.Element.{Element as AbstractWord}
use Rattle.flow_system.specs.declared.fact.Element.TheVariants.{Tag as tag}
use Rattle.flow_system.specs.declared.fact.Place.{Place}
use Rattle.flow_system.specs.declared.fact.Place.TheVariants.{Var as var, Result as result}
use Rattle.flow_system.specs.declared.fact.Part.{Part}
use Rattle.flow_system.specs.declared.fact.Part.TheVariants.{Word as word}
use Rattle.flow_system.specs.Inclusions.{value, a_cell, held, arguments, FlowSink, to, into_site, into_result, cells_at, Inclusion, flows, forces}
use Rattle.flow_system.specs.Tables.{Tables, tables, fields_of, params_of}
use Rattle.flow_system.specs.System.{act_evals, code_evals, arms_eval, procs_eval, has_eval, shape_flows, site_flows, cells_flow, act_flows, code_flows, arms_flow, globals_flow, procs_flow, start_flows, system}
use Rattle.flow_system.specs.Solution.{Solution, Sets, At, among, WordBound, width, AsNodes, node_tag, node_field, words_tag, words_field, StandsFor, variable, tag_itself, first, later, ValueGives, of_words, of_word, Meets, AllMet, Solves, IsLeast}
use Rattle.flow_system.specs.Demands.{of_cells, Demands, by_flow}
use Rattle.flow_system.proofs.Least.{Within, Below, demanded, meets_from}
use Rattle.points_to.proofs.Solved.{among_in, in_among}
use Rattle.pass_ground.specs.OpenUpdates.{tag_variable}
use Rattle.pass_ground.proofs.OpenUpdates.{head_of}
use Rattle.grin_rewrite.specs.Rewriting.{rewrite_act, rewrite_code, rewrite_arms}
use Rattle.grin_rewrite.specs.Expanding.{alternatives, expanded}
use Rattle.grin_rewrite.proofs.Text.{procs_by}
use Rattle.update_special.specs.Updates.{may_have_tag, tags_of, with_literal_tag, max_case_tags, over_tags, by_variable, update_leaf, updated}
use Rattle.seq.specs.Lists.{In, here, there, those, AllOf, and_then}
use Rattle.seq.proofs.Member.{cons_in, none_in}
use Rattle.seq.proofs.Those.{those_have}

-- ---- what two solutions have both

kept_in : {X : Type 0} (test : X → Bool) (x : X) (xs : List X) → In x (filter test xs)
    → In x xs × (test x ≡ true)
kept_in test x [] h = none_in h
kept_in test x (y ∷ ys) h = go (test y) refl h (kept_in test x ys)
  where
    go : (b : Bool) → test y ≡ b → In x (cond b (y ∷ filter test ys) (filter test ys))
        → (In x (filter test ys) → In x ys × (test x ≡ true)) → In x (y ∷ ys) × (test x ≡ true)
    go true e h rest = ⊎_elim
        (λ s. (subst (λ z. In x (z ∷ ys)) s here, subst (λ z. test z ≡ true) (sym s) e))
        (λ t. (there (rest t).0, (rest t).1)) (cons_in y (filter test ys) h)
    go false e h rest = (there (rest h).0, (rest h).1)

in_kept : {X : Type 0} (test : X → Bool) (x : X) (xs : List X) → In x xs → test x ≡ true
    → In x (filter test xs)
in_kept test x [] h e = none_in h
in_kept test x (y ∷ ys) h e = ⊎_elim here_kept (λ t. there_kept (test y) (in_kept test x ys t e))
    (cons_in y ys h)
  where
    here_kept : x ≡ y → In x (filter test (y ∷ ys))
    here_kept s = subst (λ z. In x (filter test (z ∷ ys))) s
        (subst (λ b. In x (cond b (x ∷ filter test ys) (filter test ys))) (sym e) here)

    there_kept : (b : Bool) → In x (filter test ys)
        → In x (cond b (y ∷ filter test ys) (filter test ys))
    there_kept true t = there t
    there_kept false t = t

abbrev both : Solution → Solution → Solution
both A B q part = filter (λ u. among u (B q part)) (A q part)

module _ (A B : Solution) where
  parts : (q : Place) (part : Part) (u : AbstractWord) → At (both A B) q part u
      → In u (A q part) × (among u (B q part) ≡ true)
  parts q part u h = kept_in (λ w. among w (B q part)) u (A q part)
      (among_in u (both A B q part) h.there)

  in_first : Below (both A B) A
  in_first q part u h = record { there = in_among u (A q part) (parts q part u h).0 }

  in_second : Below (both A B) B
  in_second q part u h = record { there = (parts q part u h).1 }

  in_both : (q : Place) (part : Part) (u : AbstractWord) → At A q part u → At B q part u
      → At (both A B) q part u
  in_both q part u a b = record {
    there = in_among u (both A B q part)
        (in_kept (λ w. among w (B q part)) u (A q part) (among_in u (A q part) a.there) b.there);
  }

-- ---- an update and its alternatives

module _ (p : Tables) where
  nodes_within : (k : WordBound) (X Y : Sets) → Within X Y → Within (AsNodes p k X) (AsNodes p k Y)
  nodes_within k X Y w part u (node_tag x) = node_tag (w _ _ x)
  nodes_within k X Y w part u (node_field x) = node_field (w _ _ x)
  nodes_within k X Y w part u (words_tag x e en) = words_tag (w _ _ x) e en
  nodes_within k X Y w part u (words_field x e en lt y) = words_field (w _ _ x) e en lt (w _ _ y)

  -- with one of its tags a value gives no more
  literal_within : (A : Solution) (x : VarId) (v : Val) (t : ℕ) → tag_variable v ≡ Some x
      → StandsFor p A (Var x) (tag t)
      → Within (ValueGives p A (with_literal_tag t v)) (ValueGives p A v)
  literal_within A x (Vector (a ∷ ws)) t e h part u (of_words (first tag_itself)) =
      of_words (first (subst (λ w. StandsFor p A w (tag t)) (sym (head_of a x e)) h))
  literal_within A x (Vector (a ∷ ws)) t e h part u (of_words (later y)) = of_words (later y)
  literal_within A x (One a) t e h part u (of_word tag_itself) =
      of_word (subst (λ w. StandsFor p A w (tag t)) (sym (head_of a x e)) h)
  literal_within A x _ t e h part u g = cc

  first_word : (A : Solution) (a : Word) (ws : List Word) (u : AbstractWord)
      → ValueGives p A (Vector (a ∷ ws)) (word 0) u → StandsFor p A a u
  first_word A a ws u (of_words (first s)) = s

  later_word : (A : Solution) (a b : Word) (ws : List Word) (i : ℕ) (u : AbstractWord)
      → ValueGives p A (Vector (a ∷ ws)) (word (suc i)) u
      → ValueGives p A (Vector (b ∷ ws)) (word (suc i)) u
  later_word A a b ws i u (of_words (later y)) = of_words (later y)

  only_word : (A : Solution) (a : Word) (u : AbstractWord) → ValueGives p A (One a) (word 0) u
      → StandsFor p A a u
  only_word A a u (of_word s) = s

  -- what a variable stands for is in its set
  in_set : (A : Solution) (a : Word) (x : VarId) (u : AbstractWord) → a ≡ Var x → StandsFor p A a u
      → At A (var x.0) (word 0) u
  in_set A a x u e s = go x (subst (λ w. StandsFor p A w u) e s)
    where
      go : (x : VarId) → StandsFor p A (Var x) u → At A (var x.0) (word 0) u
      go x (variable h) = h

  -- what a value stands for as nodes it stands for with one of its tags
  record WithOneTag (A : Solution) (x : VarId) (v : Val) (part : Part) (u : AbstractWord) : Type 0
    where
      t : ℕ
      there : At A (var x.0) (word 0) (tag t)
      fields : ℕ
      known : fields_of p t ≡ Some fields
      nodes : AsNodes p (width (value (with_literal_tag t v)))
          (ValueGives p A (with_literal_tag t v))
          part u

  with_one_tag : (A : Solution) (x : VarId) (v : Val) (part : Part) (u : AbstractWord)
      → tag_variable v ≡ Some x → AsNodes p (width (value v)) (ValueGives p A v) part u
      → WithOneTag A x v part u
  with_one_tag A x (Vector (a ∷ ws)) part u e (node_tag g) = elim g [ ]
  with_one_tag A x (Vector (a ∷ ws)) part u e (node_field g) = elim g [ ]
  with_one_tag A x (Vector (a ∷ ws)) part u e (words_tag {t = t} {m = m} g f en) = record {
    t = t;
    there = in_set A a x (tag t) (head_of a x e) (first_word A a ws (tag t) g);
    fields = m;
    known = f;
    nodes = words_tag (of_words (first tag_itself)) f en;
  }
  with_one_tag A x (Vector (a ∷ ws)) part u e (words_field {t = t} {m = m} {i = i} g f en lt y) =
      record {
        t = t;
        there = in_set A a x (tag t) (head_of a x e) (first_word A a ws (tag t) g);
        fields = m;
        known = f;
        nodes = words_field (of_words (first tag_itself)) f en lt (later_word A a _ ws i u y);
      }
  with_one_tag A x (One a) part u e (node_tag g) = elim g [ ]
  with_one_tag A x (One a) part u e (node_field g) = elim g [ ]
  with_one_tag A x (One a) part u e (words_tag {t = t} {m = m} g f en) = record {
    t = t;
    there = in_set A a x (tag t) (head_of a x e) (only_word A a (tag t) g);
    fields = m;
    known = f;
    nodes = words_tag (of_word tag_itself) f en;
  }
  with_one_tag A x (One a) part u e (words_field g f en lt y) = elim y [ ]
  with_one_tag A x _ part u e n = cc

-- what an update asks of a solution as a case over these tags
abbrev alternatives_flow : Word → Val → List ℕ → List Inclusion
alternatives_flow a v [] = []
alternatives_flow a v (t ∷ ts) =
    flows (arguments (value v) t []) (to (VectorTarget []))
    ∷ flows (value (with_literal_tag t v)) (cells_at a) ∷ alternatives_flow a v ts

-- ---- inclusions of both programs, by the tags of each variable

data Alike (T : ℕ → List ℕ) : List Inclusion → List Inclusion → Type 0 where
  none : Alike T [] []
  same : {c : Inclusion} {xs ys : List Inclusion} → Alike T xs ys → Alike T (c ∷ xs) (c ∷ ys)
  over : {a : Word} {v : Val} {x : VarId} {xs ys : List Inclusion} → tag_variable v ≡ Some x
      → Alike T xs ys
      → Alike T (flows (value v) (cells_at a) ∷ xs) (alternatives_flow a v (T x.0) ++ ys)

module _ (T : ℕ → List ℕ) where
  all_same : (xs : List Inclusion) → Alike T xs xs
  all_same [] = none
  all_same (x ∷ xs) = same (all_same xs)

  joined : {xs ys xs' ys' : List Inclusion} → Alike T xs ys → Alike T xs' ys'
      → Alike T (xs ++ xs') (ys ++ ys')
  joined none r = r
  joined (same l) r = same (joined l r)
  joined {ys' = ys'} (over {a = a} {v = v} {x = x} {xs = xs} {ys = ys} e l) r =
      subst (Alike T (flows (value v) (cells_at a) ∷ xs ++ _))
      (sym (append_assoc (alternatives_flow a v (T x.0)) ys ys')) (over e (joined l r))

module _ (p : Tables) where
  both_met : (A : Solution) (xs ys : List Inclusion) → AllMet p A xs → AllMet p A ys
      → AllMet p A (xs ++ ys)
  both_met A [] ys m n = n
  both_met A (x ∷ xs) ys m n = (m.0, both_met A xs ys m.1 n)

  front_met : (A : Solution) (xs ys : List Inclusion) → AllMet p A (xs ++ ys) → AllMet p A xs
  front_met A [] ys m = tt
  front_met A (x ∷ xs) ys m = (m.0, front_met A xs ys m.1)

  back_met : (A : Solution) (xs ys : List Inclusion) → AllMet p A (xs ++ ys) → AllMet p A ys
  back_met A [] ys m = m
  back_met A (x ∷ xs) ys m = back_met A xs ys m.1

  literal_met : (A : Solution) (a : Word) (x : VarId) (v : Val) (t : ℕ) → tag_variable v ≡ Some x
      → At A (var x.0) (word 0) (tag t) → Meets p A (flows (value v) (cells_at a))
      → Meets p A (flows (value (with_literal_tag t v)) (cells_at a))
  literal_met A a x (Vector (b ∷ ws)) t e h m s st part u n = m s st part u
      (nodes_within p _ _ _ (literal_within p A x (Vector (b ∷ ws)) t e (variable h)) part u n)
  literal_met A a x (One b) t e h m s st part u n = m s st part u
      (nodes_within p _ _ _ (literal_within p A x (One b) t e (variable h)) part u n)
  literal_met A a x _ t e h m s st part u n = cc

  alternatives_met : (A : Solution) (a : Word) (x : VarId) (v : Val) (ts : List ℕ)
      → tag_variable v ≡ Some x → AllOf (λ t. may_have_tag A x.0 t ≡ true) ts
      → Meets p A (flows (value v) (cells_at a)) → AllMet p A (alternatives_flow a v ts)
  alternatives_met A a x v [] e h m = tt
  alternatives_met A a x v (t ∷ ts) e h m = (
    tt,
    (
      literal_met A a x v t e (record { there = h.0 }) m,
      alternatives_met A a x v ts e h.1 m,
    ),
  )

  -- each alternative is met where all are
  met_with : (B : Solution) (a : Word) (v : Val) (t : ℕ) (ts : List ℕ) → In t ts
      → AllMet p B (alternatives_flow a v ts)
      → Meets p B (flows (value (with_literal_tag t v)) (cells_at a))
  met_with B a v t [] h m = none_in h
  met_with B a v t (s ∷ ts) h m = ⊎_elim
      (λ e. subst (λ n. Meets p B (flows (value (with_literal_tag n v)) (cells_at a))) (sym e)
      m.1.0)
      (λ h. met_with B a v t ts h m.1.1) (cons_in s ts h)

those_pass : (test : ℕ → Bool) (i k : ℕ) → AllOf (λ t. test t ≡ true) (those test i k)
those_pass test i zero = tt
those_pass test i (suc k) = go (test i) refl (those_pass test (suc i) k)
  where
    go : (b : Bool) → test i ≡ b → AllOf (λ t. test t ≡ true) (those test (suc i) k)
        → AllOf (λ t. test t ≡ true) (cond b (i ∷ those test (suc i) k) (those test (suc i) k))
    go true e r = (e, r)
    go false e r = r

-- a tag that has fields is one of the program
tag_below : (tags : List Tag) (t m : ℕ) (o : Option Tag) → slice_get tags t ≡ o
    → and_then o (λ i. Some i.fields) ≡ Some m → t < length tags
tag_below tags t m None e q = cc
tag_below tags t m (Some i) e q = slice_get_within tags t i e

module _ (g : Program) (A : Solution) where
  abbrev T : ℕ → List ℕ
  T = tags_of (length g.tags) A

  abbrev p : Tables
  p = tables g

  -- a solution meets the alternatives
  alike_met : {xs ys : List Inclusion} → Alike T xs ys → AllMet p A xs → AllMet p A ys
  alike_met none m = tt
  alike_met (same l) m = (m.0, alike_met l m.1)
  alike_met (over {a = a} {v = v} {x = x} {ys = ys} e l) m =
      both_met p A (alternatives_flow a v (T x.0)) ys
      (alternatives_met p A a x v (T x.0) e (those_pass (may_have_tag A x.0) 0 (length g.tags)) m.0)
      (alike_met l m.1)

  -- what it has with a solution of the alternatives meets the updates
  module _ (B : Solution) where
    abbrev C : Solution
    C = both A B

    updated_there : (a : Word) (x : VarId) (v : Val) → tag_variable v ≡ Some x
        → AllMet p B (alternatives_flow a v (T x.0)) → (q : Place) (part : Part) (u : AbstractWord)
        → Demands p C (flows (value v) (cells_at a)) q part u → At B q part u
    updated_there a x v e m q part u (by_flow (of_cells {s = s} st n)) =
        let one : WithOneTag p C x v part u = with_one_tag p C x v part u e n in
        let has : At A (var x.0) (word 0) (tag one.t)
        = in_first A B (var x.0) (word 0) (tag one.t) one.there in
        let below : one.t < length g.tags = tag_below g.tags one.t one.fields
        (slice_get g.tags one.t) refl one.known in
        let listed : In one.t (T x.0) = those_have (may_have_tag A x.0) one.t has.there 0
        (length g.tags) (omega arith) (omega (arith, below)) in
        demanded p C B (in_second A B) (flows (value (with_literal_tag one.t v)) (cells_at a)) q
        part u (met_with p B a v one.t (T x.0) listed m) (by_flow (of_cells st one.nodes))

    common_met : {xs ys : List Inclusion} → Alike T xs ys → AllMet p A xs → AllMet p B ys
        → AllMet p C xs
    common_met none m n = tt
    common_met (same {c = c} l) m n = (
      meets_from p C c (λ q part u d. in_both A B q part u
          (demanded p C A (in_first A B) c q part u m.0 d)
          (demanded p C B (in_second A B) c q part u n.0 d)),
      common_met l m.1 n.1,
    )
    common_met (over {a = a} {v = v} {x = x} {ys = ys} e l) m n = (
      meets_from p C (flows (value v) (cells_at a)) (λ q part u d. in_both A B q part u
          (demanded p C A (in_first A B) (flows (value v) (cells_at a)) q part u m.0 d)
          (updated_there a x v e (front_met p B (alternatives_flow a v (T x.0)) ys n) q part u d)),
      common_met l m.1 (back_met p B (alternatives_flow a v (T x.0)) ys n),
    )

-- ---- the programs

module _ (T : ℕ → List ℕ) where
  abbrev rule : Leaf → Act
  rule = update_leaf T

  mutual
    unfolding act_evals

    no_evals : (f : ℕ → Leaf) (ts : List ℕ) → ((t : ℕ) → act_evals (leaf (f t)) ≡ false)
        → arms_eval (alternatives f ts) ≡ false
    no_evals f [] e = refl
    no_evals f (t ∷ ts) e = λ i. e t i || no_evals f ts e i

  mutual
    unfolding rewrite_act act_evals

    act_evals_same : (o : Act) → act_evals (rewrite_act rule o) ≡ act_evals o
    act_evals_same (case v as') = arms_eval_same as'
    act_evals_same (nested b) = code_evals_same b
    act_evals_same (leaf (update a v)) = go (tag_variable v)
      where
        few : (x : VarId) (b : Bool)
            → act_evals (expanded (update a v) (cond b (Some (over_tags a v (T x.0))) None)) ≡ false
        few x true = no_evals (over_tags a v []).each (T x.0) (λ t. refl)
        few x false = refl

        go : (o : Option VarId) → act_evals (expanded (update a v) (by_variable T a v o)) ≡ false
        go None = refl
        go (Some x) = few x (nat_le (length (T x.0)) max_case_tags)
    act_evals_same (leaf (unit v)) = refl
    act_evals_same (leaf (fetch a)) = refl
    act_evals_same (leaf (fetch_word a i)) = refl
    act_evals_same (leaf (eval a)) = refl
    act_evals_same (leaf (apply v a)) = refl
    act_evals_same (leaf (call f ws)) = refl
    act_evals_same (leaf (prim p a b)) = refl
    act_evals_same (leaf read) = refl
    act_evals_same (leaf (write a)) = refl
    act_evals_same (leaf fail) = refl

    code_evals_same : (b : Code) → code_evals (rewrite_code rule b) ≡ code_evals b
    code_evals_same (end o) = act_evals_same o
    code_evals_same (store cs b) = code_evals_same b
    code_evals_same (bind t o b) = λ i. act_evals_same o i || code_evals_same b i

    arms_eval_same : (as' : Arms) → arms_eval (rewrite_arms rule as') ≡ arms_eval as'
    arms_eval_same no_arm = refl
    arms_eval_same (arm s b as') = λ i. code_evals_same b i || arms_eval_same as' i

  procs_eval_same : (qs : List Procedure) → procs_eval (procs_by rule qs) ≡ procs_eval qs
  procs_eval_same [] = refl
  procs_eval_same (q ∷ qs) = λ i. code_evals_same q.body i || procs_eval_same qs i

  params_same : (qs : List Procedure) → map (λ q. q.params) (procs_by rule qs) ≡ map (λ q. q.params)
      qs
  params_same [] = refl
  params_same (q ∷ qs) = ap (λ l. q.params ∷ l) (params_same qs)

  -- of a program h that has the tables of g, and an eval where g has one
  module _ (g h : Program) (same_tables : tables h ≡ tables g)
      (same_evals : has_eval h ≡ has_eval g) where
    site_same : (s : ℕ) (v : Val) → site_flows g s v ≡ site_flows h s v
    site_same s v = ap (λ b. flows (value v) (into_site s) ∷ cond b (forces s ∷ []) [])
        (sym same_evals)

    cells_same : (cs : List Cell) → cells_flow g cs ≡ cells_flow h cs
    cells_same [] = refl
    cells_same (c ∷ cs) = λ i. flows (a_cell c.site.0) (to (OneTarget c.var)) ∷ site_same c.site.0
        c.val i ++ cells_same cs i

    globals_same : (cs : List GlobalCell) → globals_flow g cs ≡ globals_flow h cs
    globals_same [] = refl
    globals_same (c ∷ cs) = λ i. site_same c.site.0 (NodeVal c.tag []) i ++ globals_same cs i

    alike_same : {xs ys : List Inclusion} → xs ≡ ys → Alike T xs ys
    alike_same {xs = xs} e = subst (Alike T xs) e (all_same T xs)

    argument_alike : (f : ℕ) (ws : List Word) (xs : List Inclusion)
        → Alike T (flows (value (Vector ws)) (to (params_of (tables g) f)) ∷ xs)
        (flows (value (Vector ws)) (to (params_of (tables h) f)) ∷ xs)
    argument_alike f ws xs =
        alike_same (ap (λ t. flows (value (Vector ws)) (to (params_of t f)) ∷ xs) (sym same_tables))

    case_flows : (k : FlowSink) (a : Word) (v : Val) (ts : List ℕ)
        → arms_flow h k v (alternatives (over_tags a v []).each ts) ≡ alternatives_flow a v ts ++ []
    unfolding act_flows
    case_flows k a v [] = refl
    case_flows k a v (t ∷ ts) =
        λ i. flows (arguments (value v) t []) (to (VectorTarget []))
        ∷ flows (value (with_literal_tag t v)) (cells_at a) ∷ case_flows k a v ts i

    tags_alike : (k : FlowSink) (a : Word) (v : Val) (x : VarId) → tag_variable v ≡ Some x
        → (b : Bool) → Alike T (flows (value v) (cells_at a) ∷ [])
        (act_flows h k (expanded (update a v) (cond b (Some (over_tags a v (T x.0))) None)))
    unfolding act_flows
    tags_alike k a v x e true = subst (Alike T (flows (value v) (cells_at a) ∷ []))
        (sym (case_flows k a v (T x.0))) (over e none)
    tags_alike k a v x e false = same none

    update_alike : (k : FlowSink) (a : Word) (v : Val) (o : Option VarId) → tag_variable v ≡ o
        → Alike T (flows (value v) (cells_at a) ∷ [])
        (act_flows h k (expanded (update a v) (by_variable T a v o)))
    unfolding act_flows
    update_alike k a v None e = same none
    update_alike k a v (Some x) e =
        tags_alike k a v x e (nat_le (length (T x.0)) max_case_tags)

    mutual
      unfolding rewrite_act act_flows

      act_alike : (k : FlowSink) (o : Act)
          → Alike T (act_flows g k o) (act_flows h k (rewrite_act rule o))
      act_alike k (case v as') = arms_alike k v as'
      act_alike k (nested b) = code_alike k b
      act_alike k (leaf (update a v)) = update_alike k a v (tag_variable v) refl
      act_alike k (leaf (unit v)) = all_same T _
      act_alike k (leaf (fetch a)) = all_same T _
      act_alike k (leaf (fetch_word a i)) = all_same T _
      act_alike k (leaf (eval a)) = all_same T _
      act_alike k (leaf (apply v a)) = all_same T _
      act_alike k (leaf (call f ws)) = argument_alike f.0 ws (flows (held (result f.0)) k ∷ [])
      act_alike k (leaf (prim f a b)) = all_same T _
      act_alike k (leaf read) = all_same T _
      act_alike k (leaf (write a)) = none
      act_alike k (leaf fail) = none

      code_alike : (k : FlowSink) (b : Code)
          → Alike T (code_flows g k b) (code_flows h k (rewrite_code rule b))
      code_alike k (end o) = act_alike k o
      code_alike k (store cs b) = joined T (alike_same (cells_same cs)) (code_alike k b)
      code_alike k (bind t o b) = joined T (act_alike (to t) o) (code_alike k b)

      arms_alike : (k : FlowSink) (v : Val) (as' : Arms)
          → Alike T (arms_flow g k v as') (arms_flow h k v (rewrite_arms rule as'))
      arms_alike k v no_arm = none
      arms_alike k v (arm s b as') = joined T (all_same T (shape_flows v s))
          (joined T (code_alike k b) (arms_alike k v as'))

    procs_alike : (f : ℕ) (qs : List Procedure)
        → Alike T (procs_flow g f qs) (procs_flow h f (procs_by rule qs))
    procs_alike f [] = none
    procs_alike f (q ∷ qs) = joined T (code_alike (into_result f) q.body) (procs_alike (suc f) qs)

    start_alike : h.start ≡ g.start → (o : Option ℕ) → Alike T (start_flows g o) (start_flows h o)
    start_alike e None = none
    start_alike e (Some i) =
        subst (λ f. Alike T (start_flows g (Some i))
        (flows (value (Vector (Global i ∷ []))) (to (params_of (tables h) f.0)) ∷ [])) (sym e)
        (argument_alike g.start.0 (Global i ∷ []) [])

module _ (g : Program) (A : Solution) where
  abbrev U : ℕ → List ℕ
  U = tags_of (length g.tags) A

  abbrev after : Program
  after = updated A g

  same_tables : tables after ≡ tables g
  same_tables = ap (λ ps. record { tags = g.tags; globals = g.globals; params = ps })
      (params_same U g.procs)

  same_evals : has_eval after ≡ has_eval g
  same_evals = procs_eval_same U g.procs

  systems_alike : Alike U (system g) (system after)
  systems_alike = joined U (start_alike U g after same_tables same_evals refl g.argument)
      (joined U (alike_same U g after same_tables same_evals
      (globals_same U g after same_tables same_evals g.globals))
      (procs_alike U g after same_tables same_evals 0 g.procs))

  -- the least solution of g is that of g with its updates as cases
  pub still_least : IsLeast (tables g) (system g) A → IsLeast (tables after) (system after) A
  still_least least = subst (λ t. IsLeast t (system after) A) (sym same_tables) (record {
    solves = alike_met g A systems_alike least.solves;
    least = λ B solves q part u a. in_second A B q part u
        (least.least (both A B) (common_met g A B systems_alike least.solves solves) q part u a);
  })
