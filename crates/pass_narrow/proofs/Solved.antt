-- A solution for a program is one for the same program without words that nobody reads.
use Rattle.std.proofs.Common.{◌≡◌, ℕ, suc, ◌+◌, Bool, true, false, cond, ◌&&◌, ◌||◌, List, [], ◌∷◌, ◌++◌, map, Option, Some, None, length, refl, sym, ap, subst, arith}
use Rattle.seq.proofs.Truth.{false_not_true, and_left, and_right}
use Rattle.grin_syntax.specs.declared.program.VarId.{VarId}
use Rattle.grin_syntax.specs.declared.program.Word as W
use Rattle.grin_syntax.specs.declared.program.Word.TheVariants.{Global}
use Rattle.grin_syntax.specs.declared.program.Cell.{Cell}
use Rattle.grin_syntax.specs.declared.program.GlobalCell.{GlobalCell}
use Rattle.grin_syntax.specs.declared.program.Target.{Target}
use Rattle.grin_syntax.specs.declared.program.Target.TheVariants as to'
use Rattle.grin_syntax.specs.declared.program.Val as V
use Rattle.grin_syntax.specs.declared.program.Val.TheVariants.{NodeVar, Node, Vector, One}
use Rattle.grin_syntax.specs.Tree.{Code, end, store, bind, Act, leaf, unit, fetch, fetch_word, update, eval, apply, call, prim, read, write, case, nested, fail, Arms, no_arm, arm, Procedure, Program}
use Rattle.grin_meaning.specs.Rewritten.{rewritten_procedure}
use Rattle.flow_system.specs.declared.fact.Element.{Element as AbstractWord}
use Rattle.flow_system.specs.declared.fact.Place.TheVariants.{Var as var, Result as result}
use Rattle.flow_system.specs.declared.fact.Part.TheVariants.{Word as word}
use Rattle.flow_system.specs.Inclusions.{a_cell, a_number, held, nodes_at, word_at, evaluated, extended, value, FlowSink, to, into_result, into_site, Inclusion, flows, forces, applies}
use Rattle.flow_system.specs.Tables.{Tables, tables, params_of}
use Rattle.flow_system.specs.System.{act_evals, code_evals, arms_eval, procs_eval, has_eval, shape_flows, site_flows, cells_flow, act_flows, code_flows, arms_flow, globals_flow, procs_flow, start_flows, system}
use Rattle.flow_system.specs.Solution.{Solution, Sets, At, AsWords, word_word, tag_word, field_word, zero_word, StandsFor, WordAmong, first, later, ValueGives, of_words, WordsTo, Meets, AllMet, Solves}
use Rattle.flow_system.proofs.Heap.{met_front, met_back}
use Rattle.copy_prop.specs.Lean.{used_in_code}
use Rattle.pass_narrow.specs.Picked.{picked, stay}
use Rattle.pass_narrow.specs.Narrow.{WordSelection, picked_val, picked_target, val_fits, act_fits, code_fits, arms_fit, word_selection, narrow_act, narrow_code, narrow_arms, narrow}

-- ---- words to variables

plus_zero : (n : ℕ) → n + 0 ≡ n
plus_zero n = omega arith

zero_plus : (n : ℕ) → 0 + n ≡ n
zero_plus n = omega arith

plus_suc : (n i : ℕ) → n + suc i ≡ suc n + i
plus_suc n i = omega arith

module _ (T : Tables) (A : Solution) where
  -- each word is in the set of its variable
  abbrev Each : List W.Word → List VarId → Type 0
  Each ws [] = Unit {0}
  Each [] (x ∷ xs) = Unit {0}
  Each (w ∷ ws) (x ∷ xs) = ((u : AbstractWord) → StandsFor T A w u → At A (var x.0) (word 0) u)
      × Each ws xs

  each_of_none : (xs : List VarId) → Each [] xs
  each_of_none [] = tt
  each_of_none (x ∷ xs) = tt

  at_each : (X : Sets) (j : ℕ) (ws : List W.Word) (xs : List VarId)
      → ((i : ℕ) (u : AbstractWord) → WordAmong T A ws i u → AsWords T X (j + i) u)
      → WordsTo T A X j xs → Each ws xs
  at_each X j ws [] f m = tt
  at_each X j [] (x ∷ xs) f m = tt
  at_each X j (w ∷ ws) (x ∷ xs) f m = (
    λ u s. m.0 u (subst (λ n. AsWords T X n u) (plus_zero j) (f 0 u (first s))),
    at_each X (suc j) ws xs
        (λ i u a. subst (λ n. AsWords T X n u) (plus_suc j i) (f (suc i) u (later a))) m.1,
  )

  none_among : {P : Type 0} (i : ℕ) (u : AbstractWord) → WordAmong T A [] i u → P
  none_among i u a = elim a [ ]

  first_among : (w : W.Word) (ws : List W.Word) (u : AbstractWord) → WordAmong T A (w ∷ ws) 0 u
      → StandsFor T A w u
  first_among w ws u (first s) = s

  later_among : (w : W.Word) (ws : List W.Word) (i : ℕ) (u : AbstractWord)
      → WordAmong T A (w ∷ ws) (suc i) u → WordAmong T A ws i u
  later_among w ws i u (later a) = a

  from_each : (X : Sets) (j : ℕ) (ws : List W.Word) (xs : List VarId)
      → ((i : ℕ) (u : AbstractWord) → AsWords T X (j + i) u → WordAmong T A ws i u) → Each ws xs
      → WordsTo T A X j xs
  from_each X j ws [] f e = tt
  from_each X j [] (x ∷ xs) f e = (
    λ u a. none_among 0 u (f 0 u (subst (λ n. AsWords T X n u) (sym (plus_zero j)) a)),
    from_each X (suc j) [] xs
        (λ i u a. none_among (suc i) u
        (f (suc i) u (subst (λ n. AsWords T X n u) (sym (plus_suc j i)) a))) (each_of_none xs),
  )
  from_each X j (w ∷ ws) (x ∷ xs) f e = (
    λ u a. e.0 u (first_among w ws u (f 0 u (subst (λ n. AsWords T X n u) (sym (plus_zero j)) a))),
    from_each X (suc j) ws xs
        (λ i u a. later_among w ws i u
        (f (suc i) u (subst (λ n. AsWords T X n u) (sym (plus_suc j i)) a))) e.1,
  )

  each_picked : (bs : List Bool) (ws : List W.Word) (xs : List VarId) → Each ws xs
      → Each (picked bs ws) (picked bs xs)
  each_picked [] ws xs e = tt
  each_picked (b ∷ bs) ws [] e = tt
  each_picked (b ∷ bs) [] (x ∷ xs) e = each_of_none (picked (b ∷ bs) (x ∷ xs))
  each_picked (true ∷ bs) (w ∷ ws) (x ∷ xs) e = (e.0, each_picked bs ws xs e.1)
  each_picked (false ∷ bs) (w ∷ ws) (x ∷ xs) e = each_picked bs ws xs e.1

  in_vector : (ws : List W.Word) (j : ℕ) (u : AbstractWord)
      → AsWords T (ValueGives T A (Vector ws)) j u → WordAmong T A ws j u
  in_vector ws j u (word_word g) = given g
    where
      given : ValueGives T A (Vector ws) (word j) u → WordAmong T A ws j u
      given (of_words a) = a
  in_vector ws j u (tag_word g) = elim g [ ]
  in_vector ws j u (field_word g e l h) = elim g [ ]
  in_vector ws j u (zero_word g e l) = elim g [ ]

  -- the words that stay go to the variables that stay
  pub vector_reaches : (bs : List Bool) (ws : List W.Word) (xs : List VarId)
      → WordsTo T A (ValueGives T A (Vector ws)) 0 xs
      → WordsTo T A (ValueGives T A (Vector (picked bs ws))) 0 (picked bs xs)
  vector_reaches bs ws xs m =
      let each : Each ws xs = at_each (ValueGives T A (Vector ws)) 0 ws xs
      (λ i u a. subst (λ n. AsWords T (ValueGives T A (Vector ws)) n u) (sym (zero_plus i))
      (word_word (of_words a))) m in
      from_each (ValueGives T A (Vector (picked bs ws))) 0 (picked bs ws) (picked bs xs)
      (λ i u a. in_vector (picked bs ws) i u
      (subst (λ n. AsWords T (ValueGives T A (Vector (picked bs ws))) n u) (zero_plus i) a))
      (each_picked bs ws xs each)

-- ---- evals

module _ (count : ℕ) (A : Solution) where
  abbrev pub change : Procedure → Procedure
  change = rewritten_procedure (narrow_code count A None)

  mutual
    unfolding narrow_act act_evals

    act_evals_same : (p : WordSelection) (o : Act) → act_evals (narrow_act count A p o) ≡ act_evals
        o
    act_evals_same p (case v as') = arms_eval_same p as'
    act_evals_same p (nested b) = code_evals_same p b
    act_evals_same p (leaf (unit v)) = refl
    act_evals_same p (leaf (fetch a)) = refl
    act_evals_same p (leaf (fetch_word a i)) = refl
    act_evals_same p (leaf (update a v)) = refl
    act_evals_same p (leaf (eval a)) = refl
    act_evals_same p (leaf (apply v a)) = refl
    act_evals_same p (leaf (call f ws)) = refl
    act_evals_same p (leaf (prim f a b)) = refl
    act_evals_same p (leaf read) = refl
    act_evals_same p (leaf (write a)) = refl
    act_evals_same p (leaf fail) = refl

    code_evals_same : (p : WordSelection) (b : Code)
        → code_evals (narrow_code count A p b) ≡ code_evals b
    code_evals_same p (end o) = act_evals_same p o
    code_evals_same p (store cs b) = code_evals_same p b
    code_evals_same p (bind t o b) = λ i. act_evals_same
        (word_selection count A t o (used_in_code (narrow_code count A p b))) o i || code_evals_same
        p b i

    arms_eval_same : (p : WordSelection) (as' : Arms)
        → arms_eval (narrow_arms count A p as') ≡ arms_eval as'
    arms_eval_same p no_arm = refl
    arms_eval_same p (arm s b as') = λ i. code_evals_same p b i || arms_eval_same p as' i

  procs_eval_same : (qs : List Procedure) → procs_eval (map change qs) ≡ procs_eval qs
  procs_eval_same [] = refl
  procs_eval_same (q ∷ qs) = λ i. code_evals_same None q.body i || procs_eval_same qs i

  params_same : (qs : List Procedure) → map (λ q. q.params) (map change qs) ≡ map (λ q. q.params) qs
  params_same [] = refl
  params_same (q ∷ qs) = ap (λ l. q.params ∷ l) (params_same qs)

-- ---- inclusions

-- what goes to the first sink goes to the second without the words that don't stay
data Turned : WordSelection → FlowSink → FlowSink → Type 0 where
  whole : {k : FlowSink} → Turned None k k
  without : {bs : List Bool} {xs : List VarId} → Turned (Some bs) (to (to'.Vector xs))
      (to (to'.Vector (picked bs xs)))

-- where words go, the test says that they may
abbrev Allowed : WordSelection → (List Bool → Bool) → Type 0
Allowed None f = Unit {0}
Allowed (Some bs) f = f bs ≡ true

-- a piece that gives no vector gives all
all_given : {p : WordSelection} {k k' : FlowSink} → Turned p k k' → Allowed p (λ bs. false)
    → (P : FlowSink → Type 0) → P k → P k'
all_given whole a P m = m
all_given without a P m = false_not_true a

left_allowed : (p : WordSelection) (f g : List Bool → Bool) → Allowed p (λ bs. f bs && g bs)
    → Allowed p f
left_allowed None f g a = tt
left_allowed (Some bs) f g a = and_left (f bs) (g bs) a

right_allowed : (p : WordSelection) (f g : List Bool → Bool) → Allowed p (λ bs. f bs && g bs)
    → Allowed p g
right_allowed None f g a = tt
right_allowed (Some bs) f g a = and_right (f bs) (g bs) a

-- a program h that has the tables of g, and an eval where g has one
module _ (g h : Program) (A : Solution) (same_tables : tables h ≡ tables g)
    (same_evals : has_eval h ≡ has_eval g) where
  abbrev count : ℕ
  count = length g.tags

  abbrev Met : List Inclusion → Type 0
  Met = AllMet (tables g) A

  both_met : (xs ys : List Inclusion) → Met xs → Met ys → Met (xs ++ ys)
  both_met [] ys m n = n
  both_met (x ∷ xs) ys m n = (m.0, both_met xs ys m.1 n)

  site_same : (s : ℕ) (v : V.Val) → site_flows g s v ≡ site_flows h s v
  site_same s v = ap (λ b. flows (value v) (into_site s) ∷ cond b (forces s ∷ []) [])
      (sym same_evals)

  cells_same : (cs : List Cell) → cells_flow g cs ≡ cells_flow h cs
  cells_same [] = refl
  cells_same (c ∷ cs) = λ i. flows (a_cell c.site.0) (to (to'.One c.var)) ∷ site_same c.site.0 c.val
      i ++ cells_same cs i

  globals_same : (cs : List GlobalCell) → globals_flow g cs ≡ globals_flow h cs
  globals_same [] = refl
  globals_same (c ∷ cs) = λ i. site_same c.site.0 (Node c.tag []) i ++ globals_same cs i

  unit_met : {p : WordSelection} {k k' : FlowSink} → Turned p k k' → (v : V.Val)
      → Allowed p (λ bs. val_fits count A bs v) → Meets (tables g) A (flows (value v) k)
      → Meets (tables g) A (flows (value (picked_val p v)) k')
  unit_met whole v a m = m
  unit_met without (NodeVar x) a m = false_not_true a
  unit_met without (Node t ws) a m = false_not_true a
  unit_met (without {bs = bs} {xs = xs}) (Vector ws) a m = vector_reaches (tables g) A bs ws xs m
  unit_met without (One w) a m = false_not_true a

  to_params : (f : ℕ) (P : Target → Type 0) → P (params_of (tables g) f)
      → P (params_of (tables h) f)
  to_params f P m = subst (λ T. P (params_of T f)) (sym same_tables) m

  turned : (t : Target) (o : Act) (used : List ℕ) → let q : WordSelection
      = word_selection count A t o used in Turned q (to t) (to (picked_target q t))
      × Allowed q (λ bs. act_fits count A bs o)
  turned to'.Nothing o used = (whole, tt)
  turned (to'.Node x) o used = (whole, tt)
  turned (to'.One x) o used = (whole, tt)
  turned (to'.Vector xs) o used = go (act_fits count A (stay used xs) o) refl
    where
      go : (b : Bool) → act_fits count A (stay used xs) o ≡ b → let q : WordSelection
          = cond b (Some (stay used xs)) None in Turned q (to (to'.Vector xs))
          (to (picked_target q (to'.Vector xs))) × Allowed q (λ bs. act_fits count A bs o)
      go true e = (without, e)
      go false e = (whole, tt)

  mutual
    unfolding narrow_act act_fits act_flows

    act_met : {p : WordSelection} {k k' : FlowSink} → Turned p k k' → (o : Act)
        → Allowed p (λ bs. act_fits count A bs o) → Met (act_flows g k o)
        → Met (act_flows h k' (narrow_act count A p o))
    act_met t (case v as') a m = arms_met t v as' a m
    act_met t (nested b) a m = code_met t b a m
    act_met t (leaf (unit v)) a m = (unit_met t v a m.0, tt)
    act_met t (leaf (fetch b)) a m = all_given t a (λ k. Met (flows (nodes_at b) k ∷ [])) m
    act_met t (leaf (fetch_word b i)) a m = all_given t a (λ k. Met (flows (word_at b i) k ∷ [])) m
    act_met t (leaf (update b v)) a m = m
    act_met t (leaf (eval b)) a m = all_given t a (λ k. Met (flows (evaluated (nodes_at b)) k ∷ []))
        m
    act_met t (leaf (apply v b)) a m = all_given t a
        (λ k. Met (flows (extended v b) k ∷ applies v b k ∷ [])) m
    act_met t (leaf (call f ws)) a m = (
      to_params f.0 (λ t. Meets (tables g) A (flows (value (Vector ws)) (to t))) m.0,
      all_given t a (λ k. Met (flows (held (result f.0)) k ∷ [])) m.1,
    )
    act_met t (leaf (prim f b c)) a m = all_given t a (λ k. Met (flows a_number k ∷ [])) m
    act_met t (leaf read) a m = all_given t a (λ k. Met (flows a_number k ∷ [])) m
    act_met t (leaf (write b)) a m = m
    act_met t (leaf fail) a m = m

    code_met : {p : WordSelection} {k k' : FlowSink} → Turned p k k' → (b : Code)
        → Allowed p (λ bs. code_fits count A bs b) → Met (code_flows g k b)
        → Met (code_flows h k' (narrow_code count A p b))
    code_met t (end o) a m = act_met t o a m
    code_met {p = p} {k = k} {k' = k'} t (store cs b) a m =
        both_met (cells_flow h cs) (code_flows h k' (narrow_code count A p b))
        (subst Met (cells_same cs) (met_front g A (cells_flow g cs) (code_flows g k b) m))
        (code_met t b a (met_back g A (cells_flow g cs) (code_flows g k b) m))
    code_met {p = p} {k = k} {k' = k'} t (bind s o b) a m =
        let q : WordSelection = word_selection count A s o (used_in_code (narrow_code count A p b))
        in
        let r : Turned q (to s) (to (picked_target q s)) × Allowed q (λ bs. act_fits count A bs o)
        = turned s o (used_in_code (narrow_code count A p b)) in
        both_met (act_flows h (to (picked_target q s)) (narrow_act count A q o))
        (code_flows h k' (narrow_code count A p b))
        (act_met r.0 o r.1 (met_front g A (act_flows g (to s) o) (code_flows g k b) m))
        (code_met t b a (met_back g A (act_flows g (to s) o) (code_flows g k b) m))

    arms_met : {p : WordSelection} {k k' : FlowSink} → Turned p k k' → (v : V.Val) (as' : Arms)
        → Allowed p (λ bs. arms_fit count A bs as') → Met (arms_flow g k v as')
        → Met (arms_flow h k' v (narrow_arms count A p as'))
    arms_met t v no_arm a m = tt
    arms_met {p = p} {k = k} {k' = k'} t v (arm s b as') a m =
        let rest : Met (code_flows g k b ++ arms_flow g k v as')
        = met_back g A (shape_flows v s) (code_flows g k b ++ arms_flow g k v as') m in
        both_met (shape_flows v s)
        (code_flows h k' (narrow_code count A p b)
        ++ arms_flow h k' v (narrow_arms count A p as'))
        (met_front g A (shape_flows v s) (code_flows g k b ++ arms_flow g k v as') m)
        (both_met (code_flows h k' (narrow_code count A p b))
        (arms_flow h k' v (narrow_arms count A p as'))
        (code_met t b
        (left_allowed p (λ bs. code_fits count A bs b) (λ bs. arms_fit count A bs as') a)
        (met_front g A (code_flows g k b) (arms_flow g k v as') rest))
        (arms_met t v as'
        (right_allowed p (λ bs. code_fits count A bs b) (λ bs. arms_fit count A bs as') a)
        (met_back g A (code_flows g k b) (arms_flow g k v as') rest)))

  procs_met : (f : ℕ) (qs : List Procedure) → Met (procs_flow g f qs)
      → Met (procs_flow h f (map (change count A) qs))
  procs_met f [] m = tt
  procs_met f (q ∷ qs) m =
      both_met (code_flows h (into_result f) (narrow_code count A None q.body))
      (procs_flow h (suc f) (map (change count A) qs))
      (code_met whole q.body tt
      (met_front g A (code_flows g (into_result f) q.body) (procs_flow g (suc f) qs) m))
      (procs_met (suc f) qs
      (met_back g A (code_flows g (into_result f) q.body) (procs_flow g (suc f) qs) m))

  start_met : h.start ≡ g.start → (o : Option ℕ) → Met (start_flows g o) → Met (start_flows h o)
  start_met e None m = tt
  start_met e (Some i) m = (
    subst (λ f. Meets (tables g) A
        (flows (value (Vector (Global i ∷ []))) (to (params_of (tables h) f.0)))) (sym e)
        (to_params g.start.0
        (λ t. Meets (tables g) A (flows (value (Vector (Global i ∷ []))) (to t))) m.0),
    tt,
  )

  all_met : h.start ≡ g.start → h.argument ≡ g.argument → h.globals ≡ g.globals
      → h.procs ≡ map (change count A) g.procs → Met (system g) → Met (system h)
  all_met s a c q m =
      let rest : Met (globals_flow g g.globals ++ procs_flow g 0 g.procs)
      = met_back g A (start_flows g g.argument)
      (globals_flow g g.globals ++ procs_flow g 0 g.procs) m in
      both_met (start_flows h h.argument) (globals_flow h h.globals ++ procs_flow h 0 h.procs)
      (subst (λ o. Met (start_flows h o)) (sym a)
      (start_met s g.argument
      (met_front g A (start_flows g g.argument)
      (globals_flow g g.globals ++ procs_flow g 0 g.procs) m)))
      (both_met (globals_flow h h.globals) (procs_flow h 0 h.procs)
      (subst (λ cs. Met (globals_flow h cs)) (sym c)
      (subst Met (globals_same g.globals)
      (met_front g A (globals_flow g g.globals) (procs_flow g 0 g.procs) rest)))
      (subst (λ qs. Met (procs_flow h 0 qs)) (sym q)
      (procs_met 0 g.procs
      (met_back g A (globals_flow g g.globals) (procs_flow g 0 g.procs) rest))))

-- the solution that says which words are read is one of the program without the others
pub still_solves : (g : Program) (A : Solution) → Solves (tables g) (system g) A
    → Solves (tables (narrow A g)) (system (narrow A g)) A
still_solves g A solves =
    let same_tables : tables (narrow A g) ≡ tables g
    = ap (λ ps. record { tags = g.tags; globals = g.globals; params = ps })
    (params_same (length g.tags) A g.procs) in
    subst (λ T. AllMet T A (system (narrow A g))) (sym same_tables)
    (all_met g (narrow A g) A same_tables (procs_eval_same (length g.tags) A g.procs) refl refl
    refl refl solves)
