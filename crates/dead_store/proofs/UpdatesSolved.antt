-- A solution for a program is one for the same program without the updates of cells that no fetch
-- reads.
use Rattle.std.proofs.Common.{◌≡◌, ℕ, suc, Bool, true, false, cond, ◌||◌, List, [], ◌∷◌, ◌++◌, map, Option, Some, None, refl, sym, ap, subst}
use Rattle.grin_syntax.specs.declared.program.Word.TheVariants.{Global}
use Rattle.grin_syntax.specs.declared.program.Cell.{Cell}
use Rattle.grin_syntax.specs.declared.program.GlobalCell.{GlobalCell}
use Rattle.grin_syntax.specs.declared.program.VarId.{VarId}
use Rattle.grin_syntax.specs.declared.program.Target.{Target}
use Rattle.grin_syntax.specs.declared.program.Target.TheVariants as to'
use Rattle.grin_syntax.specs.declared.program.Val as V
use Rattle.grin_syntax.specs.declared.program.Val.TheVariants.{Node, Vector}
use Rattle.grin_syntax.specs.Tree.{Code, end, store, bind, Act, Leaf, leaf, unit, fetch, fetch_word, update, eval, apply, call, prim, read, write, case, nested, fail, Arms, no_arm, arm, Procedure, Program}
use Rattle.flow_system.specs.Inclusions.{a_cell, value, FlowSink, to, into_result, into_site, cells_at, Inclusion, flows, forces}
use Rattle.flow_system.specs.declared.fact.Part.{Part}
use Rattle.flow_system.specs.Tables.{Tables, tables, params_of}
use Rattle.flow_system.specs.System.{act_evals, code_evals, arms_eval, procs_eval, has_eval, shape_flows, site_flows, cells_flow, act_flows, code_flows, arms_flow, globals_flow, procs_flow, start_flows, system}
use Rattle.flow_system.specs.declared.fact.Element.{Element as AbstractWord}
use Rattle.flow_system.specs.Solution.{Solution, WordBound, AsNodes, node_tag, node_field, words_tag, words_field, AsWords, word_word, tag_word, field_word, zero_word, ValueGives, of_words, WordsTo, FlowsTo, Meets, AllMet, Solves}
use Rattle.flow_system.proofs.Heap.{met_front, met_back}
use Rattle.grin_rewrite.specs.Rewriting.{rewrite_act, rewrite_code, rewrite_arms}
use Rattle.grin_rewrite.proofs.Text.{procs_by}
use Rattle.dead_store.specs.Unread.{is_unread, read_leaf, with_read_updates}

-- ---- no words give nothing

module _ (T : Tables) (A : Solution) where
  none_given : {P : Type 0} {part : Part} {u : AbstractWord} → ValueGives T A (Vector []) part u → P
  none_given (of_words a) = elim a [ ]

  no_nodes : {P : Type 0} {k : WordBound} {part : Part} {u : AbstractWord}
      → AsNodes T k (ValueGives T A (Vector [])) part u → P
  no_nodes (node_tag g) = none_given g
  no_nodes (node_field g) = none_given g
  no_nodes (words_tag g e l) = none_given g
  no_nodes (words_field g e l lt h) = none_given g

  no_words : {P : Type 0} {j : ℕ} {u : AbstractWord} → AsWords T (ValueGives T A (Vector [])) j u
      → P
  no_words (word_word g) = none_given g
  no_words (tag_word g) = none_given g
  no_words (field_word g e l h) = none_given g
  no_words (zero_word g e l) = none_given g

  nothing_to : (j : ℕ) (xs : List VarId) → WordsTo T A (ValueGives T A (Vector [])) j xs
  nothing_to j [] = tt
  nothing_to j (x ∷ xs) = (λ u g. no_words g, nothing_to (suc j) xs)

  nothing_flows : (k : FlowSink) → FlowsTo T A (value (Vector [])) k
  nothing_flows (to to'.Nothing) = tt
  nothing_flows (to (to'.Node x)) = λ part u g. no_nodes g
  nothing_flows (to (to'.One x)) = λ u g. none_given g
  nothing_flows (to (to'.Vector xs)) = nothing_to 0 xs
  nothing_flows (into_site s) = λ part u g. no_nodes g
  nothing_flows (into_result f) = λ part u g. none_given g
  nothing_flows (cells_at w) = λ s h part u g. no_nodes g

module _ (A : Solution) (fetched : ℕ → Bool) where
  abbrev rule : Leaf → Act
  rule = read_leaf A fetched

  -- ---- evals

  mutual
    unfolding rewrite_act act_evals

    act_evals_same : (o : Act) → act_evals (rewrite_act rule o) ≡ act_evals o
    act_evals_same (case v as') = arms_eval_same as'
    act_evals_same (nested b) = code_evals_same b
    act_evals_same (leaf (update a v)) = go (is_unread A fetched a)
      where
        go : (b : Bool) → act_evals (cond b (leaf (unit (Vector []))) (leaf (update a v))) ≡ false
        go true = refl
        go false = refl
    act_evals_same (leaf (unit v)) = refl
    act_evals_same (leaf (fetch a)) = refl
    act_evals_same (leaf (fetch_word a i)) = refl
    act_evals_same (leaf (eval a)) = refl
    act_evals_same (leaf (apply v a)) = refl
    act_evals_same (leaf (call f ws)) = refl
    act_evals_same (leaf (prim p a b)) = refl
    act_evals_same (leaf read) = refl
    act_evals_same (leaf (write a)) = refl
    act_evals_same (leaf fail) = refl

    code_evals_same : (b : Code) → code_evals (rewrite_code rule b) ≡ code_evals b
    code_evals_same (end o) = act_evals_same o
    code_evals_same (store cs b) = code_evals_same b
    code_evals_same (bind t o b) = λ i. act_evals_same o i || code_evals_same b i

    arms_eval_same : (as' : Arms) → arms_eval (rewrite_arms rule as') ≡ arms_eval as'
    arms_eval_same no_arm = refl
    arms_eval_same (arm s b as') = λ i. code_evals_same b i || arms_eval_same as' i

  procs_eval_same : (qs : List Procedure) → procs_eval (procs_by rule qs) ≡ procs_eval qs
  procs_eval_same [] = refl
  procs_eval_same (q ∷ qs) = λ i. code_evals_same q.body i || procs_eval_same qs i

  params_same : (qs : List Procedure) → map (λ q. q.params) (procs_by rule qs) ≡ map (λ q. q.params)
      qs
  params_same [] = refl
  params_same (q ∷ qs) = ap (λ l. q.params ∷ l) (params_same qs)

  -- ---- inclusions, of a program h that has the tables of g, and an eval where g has one

  module _ (g h : Program) (same_tables : tables h ≡ tables g)
      (same_evals : has_eval h ≡ has_eval g) where
    abbrev Met : List Inclusion → Type 0
    Met = AllMet (tables g) A

    both_met : (xs ys : List Inclusion) → Met xs → Met ys → Met (xs ++ ys)
    both_met [] ys m n = n
    both_met (x ∷ xs) ys m n = (m.0, both_met xs ys m.1 n)

    site_same : (s : ℕ) (v : V.Val) → site_flows g s v ≡ site_flows h s v
    site_same s v = ap (λ b. flows (value v) (into_site s) ∷ cond b (forces s ∷ []) [])
        (sym same_evals)

    cells_same : (cs : List Cell) → cells_flow g cs ≡ cells_flow h cs
    cells_same [] = refl
    cells_same (c ∷ cs) = λ i. flows (a_cell c.site.0) (to (to'.One c.var)) ∷ site_same c.site.0
        c.val i ++ cells_same cs i

    globals_same : (cs : List GlobalCell) → globals_flow g cs ≡ globals_flow h cs
    globals_same [] = refl
    globals_same (c ∷ cs) = λ i. site_same c.site.0 (Node c.tag []) i ++ globals_same cs i

    to_params : (f : ℕ) (P : Target → Type 0) → P (params_of (tables g) f)
        → P (params_of (tables h) f)
    to_params f P m = subst (λ T. P (params_of T f)) (sym same_tables) m

    mutual
      unfolding rewrite_act act_flows

      act_met : (k : FlowSink) (o : Act) → Met (act_flows g k o)
          → Met (act_flows h k (rewrite_act rule o))
      act_met k (case v as') m = arms_met k v as' m
      act_met k (nested b) m = code_met k b m
      act_met k (leaf (update a v)) m = go (is_unread A fetched a)
        where
          go : (b : Bool) → Met
              (act_flows h k (cond b (leaf (unit (Vector []))) (leaf (update a v))))
          go true = (nothing_flows (tables g) A k, tt)
          go false = m
      act_met k (leaf (unit v)) m = m
      act_met k (leaf (fetch a)) m = m
      act_met k (leaf (fetch_word a i)) m = m
      act_met k (leaf (eval a)) m = m
      act_met k (leaf (apply v a)) m = m
      act_met k (leaf (call f ws)) m =
          (to_params f.0 (λ t. Meets (tables g) A (flows (value (Vector ws)) (to t))) m.0, m.1)
      act_met k (leaf (prim p a b)) m = m
      act_met k (leaf read) m = m
      act_met k (leaf (write a)) m = m
      act_met k (leaf fail) m = m

      code_met : (k : FlowSink) (b : Code) → Met (code_flows g k b)
          → Met (code_flows h k (rewrite_code rule b))
      code_met k (end o) m = act_met k o m
      code_met k (store cs b) m =
          both_met (cells_flow h cs) (code_flows h k (rewrite_code rule b))
          (subst Met (cells_same cs) (met_front g A (cells_flow g cs) (code_flows g k b) m))
          (code_met k b (met_back g A (cells_flow g cs) (code_flows g k b) m))
      code_met k (bind t o b) m =
          both_met (act_flows h (to t) (rewrite_act rule o)) (code_flows h k (rewrite_code rule b))
          (act_met (to t) o (met_front g A (act_flows g (to t) o) (code_flows g k b) m))
          (code_met k b (met_back g A (act_flows g (to t) o) (code_flows g k b) m))

      arms_met : (k : FlowSink) (v : V.Val) (as' : Arms) → Met (arms_flow g k v as')
          → Met (arms_flow h k v (rewrite_arms rule as'))
      arms_met k v no_arm m = tt
      arms_met k v (arm s b as') m =
          let rest : Met (code_flows g k b ++ arms_flow g k v as')
          = met_back g A (shape_flows v s) (code_flows g k b ++ arms_flow g k v as') m in
          both_met (shape_flows v s)
          (code_flows h k (rewrite_code rule b) ++ arms_flow h k v (rewrite_arms rule as'))
          (met_front g A (shape_flows v s) (code_flows g k b ++ arms_flow g k v as') m)
          (both_met (code_flows h k (rewrite_code rule b)) (arms_flow h k v (rewrite_arms rule as'))
          (code_met k b (met_front g A (code_flows g k b) (arms_flow g k v as') rest))
          (arms_met k v as' (met_back g A (code_flows g k b) (arms_flow g k v as') rest)))

    procs_met : (f : ℕ) (qs : List Procedure) → Met (procs_flow g f qs)
        → Met (procs_flow h f (procs_by rule qs))
    procs_met f [] m = tt
    procs_met f (q ∷ qs) m =
        both_met (code_flows h (into_result f) (rewrite_code rule q.body))
        (procs_flow h (suc f) (procs_by rule qs))
        (code_met (into_result f) q.body
        (met_front g A (code_flows g (into_result f) q.body) (procs_flow g (suc f) qs) m))
        (procs_met (suc f) qs
        (met_back g A (code_flows g (into_result f) q.body) (procs_flow g (suc f) qs) m))

    start_met : h.start ≡ g.start → (o : Option ℕ) → Met (start_flows g o) → Met (start_flows h o)
    start_met e None m = tt
    start_met e (Some i) m = (
      subst (λ f. Meets (tables g) A
          (flows (value (Vector (Global i ∷ []))) (to (params_of (tables h) f.0)))) (sym e)
          (to_params g.start.0
          (λ t. Meets (tables g) A (flows (value (Vector (Global i ∷ []))) (to t))) m.0),
      tt,
    )

    all_met : h.start ≡ g.start → h.argument ≡ g.argument → h.globals ≡ g.globals
        → h.procs ≡ procs_by rule g.procs → Met (system g) → Met (system h)
    all_met s a c q m =
        let rest : Met (globals_flow g g.globals ++ procs_flow g 0 g.procs)
        = met_back g A (start_flows g g.argument)
        (globals_flow g g.globals ++ procs_flow g 0 g.procs) m in
        both_met (start_flows h h.argument) (globals_flow h h.globals ++ procs_flow h 0 h.procs)
        (subst (λ o. Met (start_flows h o)) (sym a)
        (start_met s g.argument
        (met_front g A (start_flows g g.argument)
        (globals_flow g g.globals ++ procs_flow g 0 g.procs) m)))
        (both_met (globals_flow h h.globals) (procs_flow h 0 h.procs)
        (subst (λ cs. Met (globals_flow h cs)) (sym c)
        (subst Met (globals_same g.globals)
        (met_front g A (globals_flow g g.globals) (procs_flow g 0 g.procs) rest)))
        (subst (λ qs. Met (procs_flow h 0 qs)) (sym q)
        (procs_met 0 g.procs
        (met_back g A (globals_flow g g.globals) (procs_flow g 0 g.procs) rest))))

-- the solution that says which updates are read is one of the program without the others
pub still_solves : (g : Program) (A : Solution) (fetched : ℕ → Bool)
    → Solves (tables g) (system g) A → Solves (tables (with_read_updates A fetched g))
    (system (with_read_updates A fetched g)) A
still_solves g A fetched solves =
    let after : Program = with_read_updates A fetched g in
    let same_tables : tables after ≡ tables g = ap
    (λ ps. record { tags = g.tags; globals = g.globals; params = ps })
    (params_same A fetched g.procs) in
    subst (λ T. AllMet T A (system after)) (sym same_tables)
    (all_met A fetched g after same_tables (procs_eval_same A fetched g.procs) refl refl refl
    refl solves)
