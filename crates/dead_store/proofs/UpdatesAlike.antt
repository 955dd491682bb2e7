-- A program without the updates of cells that no fetch reads does the same, with heaps that agree
-- where cells are fetched from.
use Rattle.std.proofs.Common.{◌≡◌, ℕ, suc, Bool, true, false, cond, List, [], ◌∷◌, ◌++◌, map, length, Some, slice_get, refl, sym, ap, ◌∙◌, subst, inr, arith}
use Rattle.grin_syntax.specs.declared.program.Cell.{Cell}
use Rattle.grin_syntax.specs.declared.program.Shape.{Shape}
use Rattle.grin_syntax.specs.declared.program.Target.{Target}
use Rattle.grin_syntax.specs.declared.program.Val.{Val}
use Rattle.grin_syntax.specs.declared.program.Val.TheVariants.{Vector, One}
use Rattle.grin_syntax.specs.declared.program.Word.{Word}
use Rattle.grin_syntax.specs.Formed.{AllOf}
use Rattle.grin_syntax.specs.Tree.{Code, end, store, bind, Act, Leaf, leaf, unit, fetch, fetch_word, update, eval, apply, call, prim, read, write, case, nested, fail, Arms, no_arm, arm, Procedure, Program}
use Rattle.grin_meaning.specs.Values.{Datum, Value, node, words, Env, HeapCell, one_each, and_then, Binding, with_vars, fits, fit_of, word_of}
use Rattle.grin_meaning.specs.Run.{Calls, run, places, cells_of, place_of, node_word, global_cells}
use Rattle.grin_meaning.specs.Checks.{is_given, is_bound_well, all_fill}
use Rattle.grin_meaning.specs.Follows.{Same, same, HoldsInEveryState}
use Rattle.grin_meaning.specs.Keeps.{world_of, Keeps}
use Rattle.grin_meaning.specs.Looking.{checked_run, CheckedRunsNeverMissing}
use Rattle.grin_meaning.specs.Ready.{EachAct, EachCode, EachArms, EveryBodyIsOfKind, inlined_kind}
use Rattle.grin_meaning.specs.Rewritten.{rewritten_procedure}
use Rattle.grin_meaning.proofs.Back.{CallsBack}
use Rattle.grin_meaning.proofs.Beside.{Compared, as_deep, Likewise, Seen}
use Rattle.grin_meaning.proofs.LooksBack.{look_agrees}
use Rattle.grin_meaning.proofs.Names.{Any, any_val, any_cells}
use Rattle.grin_meaning.proofs.Plain.{Has, On, vars_have, then_has, word_has, words_have, value_has, node_has, cells_have, fills_too, node_fills, all_fill_too, same_is}
use Rattle.grin_meaning.proofs.Rules.{Plan, Here, CallsFollow, Setting, ActFollows, CodeFollows, ArmsFollow, Given, BindsToo, FitsToo, unit_follows, fetch_follows, fetch_word_follows, update_follows, call_follows, prim_follows, read_follows, write_follows, fail_follows, end_follows, nested_follows, bind_follows, store_follows, case_follows, no_arm_follows, arm_follows}
use Rattle.grin_meaning.proofs.Procedures.{BodiesFollow, no_more, one_more, side_by_side, run_follows}
use Rattle.grin_meaning.proofs.KeptBy.{likewise_kept, looking_kept}
use Rattle.grin_meaning.proofs.Looked.{looking_law}
use Rattle.grin_meaning.proofs.Paired.{nothing}
use Rattle.flow_system.specs.declared.fact.Element.TheVariants.{Cell as cell_of}
use Rattle.flow_system.specs.Tables.{tables}
use Rattle.flow_system.specs.System.{system}
use Rattle.flow_system.specs.Solution.{Solution, StandsFor, Solves}
use Rattle.flow_system.specs.Covers.{site_at, StateIsCovered}
use Rattle.flow_system.proofs.Lying.{from_some, place_lies}
use Rattle.flow_system.proofs.Covered.{site_is, covers}
use Rattle.flow_system.proofs.Starting.{formed_is_started}
use Rattle.pass_ground.specs.Vectors.{IsVectorForm}
use Rattle.pass_ground.proofs.Tests.{all_front, all_back}
use Rattle.grin_rewrite.specs.Rewriting.{rewrite_act, rewrite_code, rewrite_arms}
use Rattle.dead_store.proofs.EndHeaps.{end_heaps}
use Rattle.grin_rewrite.proofs.Sides.{All}
use Rattle.dead_store.specs.Reads.{act_reads, code_reads, arms_reads, reads_of}
use Rattle.dead_store.specs.Staying.{AreFetched}
use Rattle.dead_store.specs.Unread.{AgreeWhereFetched, is_unread, read_leaf, with_read_updates}
use Rattle.dead_store.proofs.Agreeing.{agree_self, agree_length, agree_append, agree_get, agree_set, agree_left}
use Rattle.dead_store.proofs.FetchedCells.{unread_site}
use Rattle.dead_store.proofs.Fine.{of_each, WordStays}
use Rattle.dead_store.proofs.OneStores.{update_alone, unit_left}

module _ (g : Program) (A : Solution) (fetched : ℕ → Bool) where
  abbrev rule : Leaf → Act
  rule = read_leaf A fetched

  abbrev compared : Compared
  compared = record {
    Deep = as_deep.Deep;
    start = as_deep.start;
    up = as_deep.up;
    greater = as_deep.greater;
    at_most = as_deep.at_most;
    Heaps = AgreeWhereFetched fetched;
    fewer = λ {c} {c'} a. let e : length c' ≡ length c = agree_length fetched c c' a
        in omega (arith, e);
  }

  abbrev procs : List Procedure
  procs = map (rewritten_procedure (rewrite_code rule)) g.procs

  abbrev plan : Plan
  plan = record {
    looks = true;
    K = compared;
    P = StateIsCovered g A;
    Args = λ f. Same;
    Result = λ f. Same;
    g
        = g;
    procs = procs;
  }

  module _ (c c' : Calls) (cb : CallsBack plan.P c) (cf : CallsFollow plan c c') where
    abbrev it : Setting
    it = side_by_side plan c c' cb cf

    abbrev ActLike : Act → Act → Type 0
    ActLike = ActFollows it All Same

    abbrev CodeLike : Code → Code → Type 0
    CodeLike = CodeFollows it All Same

    -- ---- cells

    its_site : (x : Here plan All) (a : Word) (i : ℕ) (y : HeapCell)
        → and_then (word_of g x.env a) place_of ≡ Some i → slice_get x.w.cells i ≡ Some y
        → StandsFor (tables g) A a (cell_of y.site)
    its_site x a i y e q = subst (λ s. StandsFor (tables g) A a (cell_of s))
        (site_is x.w.cells i at.0 y at.1 q) at.2
      where
        at : (s : ℕ) × (site_at x.w.cells i ≡ Some s) × StandsFor (tables g) A a (cell_of s)
        at = from_some
            (λ i. (s : ℕ) × (site_at x.w.cells i ≡ Some s) × StandsFor (tables g) A a (cell_of s))
            (and_then (word_of g x.env a) place_of) i
            (place_lies g x.w.cells A x.known.globals x.env x.known.variables a) e

    place_too : (x : Here plan All) (a : Word) (i : ℕ)
        → and_then (word_of g x.env a) place_of ≡ Some i
        → and_then (word_of g x.env' a) place_of ≡ Some i
    place_too x a i e = then_has (word_of g x.env a) (word_of g x.env' a) place_of place_of i
        (word_has g Any x.env x.env' x.related a (any_val (One a))) (λ d q. q) e

    fetch_like : (a : Word) → WordStays A g fetched a → ActLike (leaf (fetch a)) (leaf (fetch a))
    fetch_like a ok = fetch_follows it a a (λ x i y e q.
        let b = agree_get fetched x.w.cells x.b.cells i y x.b.heaps q in (
          record { i' = i; y' = b.y'; place = place_too x a i e; there = b.there },
          subst (λ n. Same (node y.node) (node n)) (sym (b.same (ok y.site (its_site x a i y e q))))
              same,
        ))

    fetch_word_like : (a : Word) (k : ℕ) → WordStays A g fetched a
        → ActLike (leaf (fetch_word a k)) (leaf (fetch_word a k))
    fetch_word_like a k ok = fetch_word_follows it a a k k (λ x i y e q.
        let b = agree_get fetched x.w.cells x.b.cells i y x.b.heaps q in (
          record { i' = i; y' = b.y'; place = place_too x a i e; there = b.there },
          subst (λ n. Same (words (node_word y.node k ∷ [])) (words (node_word n k ∷ [])))
              (sym (b.same (ok y.site (its_site x a i y e q)))) same,
        ))

    update_kept : (a : Word) (v : Val) → ActLike (leaf (update a v)) (leaf (update a v))
    update_kept a v = update_follows it a a v v same (λ x i y e q.
        let b = agree_get fetched x.w.cells x.b.cells i y x.b.heaps q in (
          record { i' = i; y' = b.y'; place = place_too x a i e; there = b.there },
          λ n m seen. record {
            n' = n;
            made = node_has g Any x.env x.env' x.related v (any_val v) n m;
            seen = λ l. node_fills g Any x.env x.env' x.related v (any_val v) n m ∙ seen l;
            heaps = agree_set fetched x.w.cells x.b.cells i y b.y' n x.b.heaps q b.there b.site;
          },
        ))

    update_goes : (a : Word) (v : Val) → is_unread A fetched a ≡ true
        → ActLike (leaf (update a v)) (leaf (unit (Vector [])))
    update_goes a v u = unit_left it {R = All} {V = Same} (leaf (update a v))
        (update_alone it {R = All} {V = Same} a v same (λ x i y e q n.
        agree_left fetched x.w.cells x.b.cells i y n x.b.heaps q
        (unread_site fetched A g a y.site u (its_site x a i y e q))))

    update_like : (a : Word) (v : Val) → ActLike (leaf (update a v)) (rule (update a v))
    update_like a v = go (is_unread A fetched a) refl
      where
        go : (b : Bool) → is_unread A fetched a ≡ b
            → ActLike (leaf (update a v)) (cond b (leaf (unit (Vector []))) (leaf (update a v)))
        go true e = update_goes a v e
        go false e = update_kept a v

    -- ---- operations

    abbrev Read : List Word → Type 0
    Read = AllOf (WordStays A g fetched)

    leaf_like : (l : Leaf) → EachAct inlined_kind (leaf l) → Read (act_reads false (leaf l))
        → ActLike (leaf l) (rule l)
    unfolding act_reads EachAct
    leaf_like (unit v) n r = unit_follows it v v
        (λ x y e seen. (
          λ l. fills_too g Any x.env x.env' x.related v (any_val v) y e ∙ seen l,
          y,
          value_has g Any x.env x.env' x.related v (any_val v) y e,
          same,
        ))
    leaf_like (fetch a) n r = fetch_like a r.0
    leaf_like (fetch_word a k) n r = fetch_word_like a k r.0
    leaf_like (update a v) n r = update_like a v
    leaf_like (eval a) n r = absurd n
    leaf_like (apply v a) n r = absurd n.0
    leaf_like (call f ws) n r = call_follows it f ws ws
        (λ x xs e.
        (xs, words_have g Any x.env x.env' x.related ws (any_val (Vector ws)) xs e, same))
    leaf_like (prim p a b) n r =
        prim_follows it p a b a b (λ x. word_has g Any x.env x.env' x.related a (any_val (One a)))
        (λ x. word_has g Any x.env x.env' x.related b (any_val (One b))) (λ k. same)
    leaf_like read n r = read_follows it (λ k. same)
    leaf_like (write a) n r = write_follows it a a
        (λ x. word_has g Any x.env x.env' x.related a (any_val (One a))) same
    leaf_like fail n r = fail_follows it

    well_too : (o : Act) (t : Target) (y : Value) → is_bound_well g t (rewrite_act rule o) y ≡
        is_bound_well g t o y
    unfolding rewrite_act
    well_too (leaf (unit v)) t y = refl
    well_too (leaf (fetch a)) t y = refl
    well_too (leaf (fetch_word a i)) t y = refl
    well_too (leaf (update a v)) t y = go (is_unread A fetched a)
      where
        go : (b : Bool) → is_bound_well g t (cond b (leaf (unit (Vector []))) (leaf (update a v))) y
            ≡ is_bound_well g t (leaf (update a v)) y
        go true = refl
        go false = refl
    well_too (leaf (eval a)) t y = refl
    well_too (leaf (apply v a)) t y = refl
    well_too (leaf (call f ws)) t y = refl
    well_too (leaf (prim p a b)) t y = refl
    well_too (leaf read) t y = refl
    well_too (leaf (write a)) t y = refl
    well_too (leaf fail) t y = refl
    well_too (case v as') t y = refl
    well_too (nested b) t y = refl

    binds_too : (t : Target) (o : Act) (x : Here plan All) (y : Given it All Same t o x)
        → BindsToo it All t (rewrite_act rule o) x.env x.env' y.w.cells y.v' y.bs
    binds_too t o x y = on y.values
      where
        on : {v' : Value} → Same y.v v' → BindsToo it All t (rewrite_act rule o) x.env x.env'
            y.w.cells v' y.bs
        on same = record {
          seen = λ l. well_too o t y.v ∙ y.seen l;
          bs' = y.bs;
          binds = y.binds;
          related
              = vars_have Any y.bs x.env x.env' x.related;
        }

    store_like : (cs : List Cell) (b b' : Code) → CodeLike b b'
        → CodeLike (store cs b) (store cs b')
    store_like cs b b' k = store_follows it cs cs b b' k (λ x y.
        let bs : List Binding = places (length x.w.cells) cs in
        let had : Has Any (with_vars bs x.env) (with_vars bs x.env')
        = vars_have Any bs x.env x.env' x.related in
        let many : length x.w.cells ≡ length x.b.cells
        = sym (agree_length fetched x.w.cells x.b.cells x.b.heaps) in
        record {
          hs' = y.hs;
          cells = subst (λ k. cells_of g (with_vars (places k cs) x.env') cs ≡ Some y.hs) many
              (cells_have g Any (with_vars bs x.env) (with_vars bs x.env') had cs (any_cells cs)
              y.hs y.cells);
          seen = λ l. subst (λ k. all_fill g (with_vars (places k cs) x.env') cs ≡ true) many
              (all_fill_too g Any (with_vars bs x.env) (with_vars bs x.env') had cs (any_cells cs)
              y.hs y.cells ∙ y.seen l);
          heaps = agree_append fetched x.w.cells x.b.cells y.hs x.b.heaps;
          related = subst
              (λ k. All (x.w.cells ++ y.hs) (with_vars bs x.env) (with_vars (places k cs) x.env'))
              many had;
        })

    fits_too : (s : Shape) (cells : List HeapCell) (env env' : Env) (bs : List Binding)
        {v v' : Value} → Same v v' → Has Any env env' → fit_of g s v ≡ fits bs
        → FitsToo it All s env env' cells v' bs
    fits_too s cells env env' bs same r e = record
        { bs' = bs; fit = e; related = vars_have Any bs env env' r }

    arm_like : (s : Shape) (b b' : Code) (as' bs' : Arms) → CodeLike b b'
        → ArmsFollow it (On All) Same as' bs' → ArmsFollow it (On All) Same (arm s b as')
        (arm s b' bs')
    arm_like s b b' as' bs' f k = arm_follows it s s b b' as' bs' f k
        (λ v v' x bs e known. fits_too s x.w.cells x.env x.env' bs x.related.0 x.related.1 e)
        (λ v v' x e. (sym (ap (fit_of g s) (sym (same_is x.related.0))) ∙ e, x.related))

    mutual
      unfolding rewrite_act act_reads EachAct

      act_like : (o : Act) → EachAct inlined_kind o → Read (act_reads false o)
          → ActLike o (rewrite_act rule o)
      act_like (leaf l) n r = leaf_like l n r
      act_like (case v as') n r = case_follows it v v as' (rewrite_arms rule as')
          (arms_like as' n.2 r)
          (λ x y e.
          (y, value_has g Any x.env x.env' x.related v (any_val v) y e, (same, x.related)))
      act_like (nested b) n r = nested_follows it b (rewrite_code rule b) (code_like b n.1 r)

      code_like : (b : Code) → EachCode inlined_kind b → Read (code_reads false b)
          → CodeLike b (rewrite_code rule b)
      code_like (end o) n r = end_follows it o (rewrite_act rule o) (act_like o n r)
      code_like (store cs b) n r = store_like cs b (rewrite_code rule b) (code_like b n.1 r)
      code_like (bind t o b) n r = bind_follows it t t o (rewrite_act rule o) b
          (rewrite_code rule b)
          (act_like o n.1
          (all_front (WordStays A g fetched) (act_reads false o) (code_reads false b) r))
          (code_like b n.2
          (all_back (WordStays A g fetched) (act_reads false o) (code_reads false b) r))
          (binds_too t o)

      arms_like : (as' : Arms) → EachArms inlined_kind as' → Read (arms_reads false as')
          → ArmsFollow it (On All) Same as' (rewrite_arms rule as')
      arms_like no_arm n r = no_arm_follows it no_arm
      arms_like (arm s b as') n r = arm_like s b (rewrite_code rule b) as' (rewrite_arms rule as')
          (code_like b n.1
          (all_front (WordStays A g fetched) (code_reads false b) (arms_reads false as') r))
          (arms_like as' n.2
          (all_back (WordStays A g fetched) (code_reads false b) (arms_reads false as') r))

    -- ---- procedures

    enters_same : {xs xs' : List Datum} (q : Procedure) (bs : List Binding) → Same xs xs'
        → one_each q.params xs ≡ Some bs → (bs' : List Binding) × (one_each q.params xs' ≡ Some bs')
        × Has Any (with_vars bs nothing) (with_vars bs' nothing)
    enters_same q bs same e = (bs, e, λ y v _ k. k)

    given_same : {v v' : Value} → Same v v' → Seen true (is_given g v) → Seen true (is_given g v')
        × Same v v'
    given_same same seen = (seen, same)

    bodies_like : (f : ℕ) (qs : List Procedure) → EveryBodyIsOfKind inlined_kind qs
        → Read (reads_of false qs) → BodiesFollow it f qs
        (map (rewritten_procedure (rewrite_code rule)) qs)
    bodies_like f [] n r = no_more
    bodies_like f (q ∷ qs) n r = one_more {f = f} {q = q}
        {r = rewritten_procedure (rewrite_code rule) q} (record {
          R = All;
          V = Same;
          enters = λ heap xs xs' bs a e known. enters_same q bs a e;
          body = code_like q.body n.0
              (all_front (WordStays A g fetched) (code_reads false q.body) (reads_of false qs) r);
          given = λ v v' u seen. given_same u seen;
        }) (bodies_like (suc f) qs n.1
        (all_back (WordStays A g fetched) (code_reads false q.body) (reads_of false qs) r))

-- ---- the whole program

module _ (g : Program) (A : Solution) (fetched : ℕ → Bool) (of : IsVectorForm g)
    (solves : Solves (tables g) (system g) A) (decided : AreFetched A g fetched) where
  abbrev after : Program
  after = with_read_updates A fetched g

  never : CheckedRunsNeverMissing g
  never = (looking_law g of.ready.inlined).sees of.ready.never_missing of.ready.runs

  all_read : AllOf (WordStays A g fetched) (reads_of false g.procs)
  all_read = of_each (WordStays A g fetched) (reads_of false g.procs)
      (λ a i s st. (decided s).1 (inr (a, i, st)))

  all_lie : (i : List ℕ) (n : ℕ) → HoldsInEveryState (StateIsCovered g A)
      (world_of (checked_run g i n)).seen
  all_lie i n = subst (λ a. HoldsInEveryState (StateIsCovered g A) (world_of a).seen)
      (sym (look_agrees g i n (never i n)))
      ((covers g A (formed_is_started g of.formed) solves).passed i n)

  goes_likewise : (i : List ℕ) (n : ℕ) → Likewise (compared g A fetched) Same (checked_run g i n)
      (checked_run after i n)
  goes_likewise i n = run_follows (plan g A fetched)
      (λ c c' cb cf. bodies_like g A fetched c c' cb cf 0 g.procs of.ready.inlined all_read) i n
      same (agree_self fetched (global_cells g)) (all_lie i n)

  pub updates_kept : CheckedRunsNeverMissing after × Keeps g after
  updates_kept = looking_kept g after never
      (λ i n. likewise_kept (compared g A fetched) Same (checked_run g i n) (checked_run after i n)
      (goes_likewise i n))

  pub heaps_agree : (i : List ℕ) (n : ℕ) → AgreeWhereFetched fetched (world_of (run g i n)).cells
      (world_of (run after i n)).cells
  heaps_agree i n = end_heaps g after i n (compared g A fetched) Same (goes_likewise i n)
      (never i n) (updates_kept.0 i n)
