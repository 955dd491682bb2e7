-- The blocks of a procedure do the same in both programs.
use Rattle.std.proofs.Common.{◌≡◌, ℕ, suc, ◌+◌, ◌≤◌, true, List, Option, Some, None, slice_get, refl, sym, ap, ◌∙◌, subst, arith}
use Rattle.grin_syntax.specs.declared.program.ProcId.{ProcId}
use Rattle.grin_syntax.specs.declared.program.Target.{Target}
use Rattle.grin_syntax.specs.declared.program.Val.{Val}
use Rattle.grin_syntax.specs.declared.program.Val.TheVariants.{Vector}
use Rattle.grin_syntax.specs.declared.program.Word.{Word}
use Rattle.grin_syntax.specs.Tree.{Code, end, store, bind, Act, leaf, unit, fetch, fetch_word, update, eval, apply, call, prim, read, write, case, nested, fail, Arms, no_arm, arm, Procedure, Program}
use Rattle.grin_syntax.specs.Binders.{target_vars}
use Rattle.grin_syntax.specs.Formed.{AllOf}
use Rattle.grin_meaning.specs.Values.{Datum, Value, Env, HeapCell, World, stops, missing, then_do, need, words_of, bindings_of}
use Rattle.grin_meaning.specs.Run.{Calls, act_by, code_by}
use Rattle.grin_meaning.specs.Checks.{is_bound_well}
use Rattle.grin_meaning.specs.Follows.{Same, same}
use Rattle.grin_meaning.specs.Names.{WordsOk}
use Rattle.grin_meaning.specs.Ready.{EachAct}
use Rattle.grin_meaning.proofs.Back.{CallsBack}
use Rattle.grin_meaning.proofs.Beside.{beside, free, no_deeper, Seen, Sim}
use Rattle.grin_meaning.proofs.Rules.{Relation, Here, CallsFollow, Setting, ActFollows, CodeFollows, ArmsFollow, Given, BindsToo, act_more, code_more, nested_follows, end_follows, bind_follows, call_follows, rest}
use Rattle.grin_meaning.proofs.Plain.{words_have, On}
use Rattle.flow_system.specs.Inclusions.{FlowSink, value, to, flows}
use Rattle.flow_system.specs.Tables.{tables, params_of}
use Rattle.flow_system.specs.Solution.{Solution, Meets}
use Rattle.flow_system.specs.System.{act_flows}
use Rattle.pass_ground.specs.Uses.{arms_use_as_value, word_is, val_uses, act_mentions}
use Rattle.raise_theory.specs.Raising.{Raising, Decisions, or_no_decisions, decisions_at, fetches_for, arguments_for, new_before, fetches_before, new_act, new_code, raised_act, raised_code, raised_arms}
use Rattle.raise_theory.specs.Raisable.{Raisable}
use Rattle.pass_ground.proofs.Bound.{bound_names}
use Rattle.raise_theory.proofs.Related.{Agrees, ArgsFor, CellsReady, NewOnes, Plain, Related, related_bind, related_new}
use Rattle.raise_theory.proofs.Caller.{Fetched, args_come}
use Rattle.raise_theory.proofs.Arguments.{AllRaisable, arguments_ready}
use Rattle.raise_theory.proofs.Piece.{Stays, free_left, free_right, word_ok, words_ok, val_ok, PieceAct, PieceCode, PieceArms, of_nested, of_case, of_end, of_store, of_cells, of_first, of_target, of_rest, of_shape, of_arm, of_others}
use Rattle.raise_theory.proofs.Leaves.{base, plan, after, it, bound_alike, unit_like, update_like, prim_like, read_like, write_like, fail_like, fetched_like, store_like, case_like, no_arm_like, arm_like}

-- an operation with which a block begins
data Begins (o : Act) : Code → Type 0 where
  at_end : Begins o (end o)
  at_bind : {t : Target} {b : Code} → Begins o (bind t o b)

-- by number, what is decided of the parameters of a procedure
abbrev pub Known : Program → Solution → List Decisions → Type 0
Known g A D = (f : ℕ) (ds : Decisions) → slice_get D f ≡ Some ds → (q : Procedure)
    × (slice_get g.procs f ≡ Some q) × AllRaisable g A q q.params ds

module _ (g : Program) (A : Solution) (D : List Decisions) (top : ℕ) (F : List HeapCell)
    (known : Known g A D) (past : base g A D top F ≤ top) where
  abbrev first : ℕ
  first = base g A D top F

  module _ (c c' : Calls) (cb : CallsBack (plan g A D top F).P c)
      (cf : CallsFollow (plan g A D top F) c c') where
    abbrev st : Setting
    st = it g A D top F c c' cb cf

    module _ (q : Procedure) (N : ℕ → Option Raising) (new : NewOnes first top N)
        (ra : (y : ℕ) (r : Raising) → N y ≡ Some r → Raisable A g q y r.tag.0 r.fields) where
      abbrev Rel : Relation
      Rel = λ cells. Related F first N

      -- the arguments of a call are there
      abbrev Ready : ℕ → Act → Env → Env → Type 0
      Ready n (leaf (call f ws)) env env' = (xs : List Datum) → words_of g env ws ≡ Some xs
          → (xs' : List Datum) ×
          (words_of (after g A D top F) env' (arguments_for n (decisions_at D f.0) ws) ≡ Some
          xs') × ArgsFor F (decisions_at D f.0) xs xs'
      Ready n _ env env' = Unit {0}

      abbrev RelFor : ℕ → Act → Relation
      RelFor n o = λ cells env env'. Related F first N env env' × Ready n o env env'

      -- where an argument is missing
      lacks : (f : ProcId) (ws : List Word) (b : Code) (env : Env) (d : ℕ) (w : World)
          → Begins (leaf (call f ws)) b → words_of g env ws ≡ None
          → code_by g c true env d b w ≡ stops missing w
      unfolding act_by
      lacks f ws b env d w at_end e = ap (λ o. need o w (λ xs. c f.0 xs d w)) e
      lacks f ws b env d w (at_bind {t = t} {b = b1}) e
          = ap (λ o. then_do (need o w (λ xs. c f.0 xs (suc d) w))
          (rest st t (leaf (call f ws)) b1 env d)) e

      ready_at : (x : Here (plan g A D top F) Rel) (f : ProcId) (ws : List Word) (xs : List Datum)
          → Meets (tables g) A (flows (value (Vector ws)) (to (params_of (tables g) f.0)))
          → words_of g x.env ws ≡ Some xs
          → (o : Option Decisions) → slice_get D f.0 ≡ o
          → CellsReady F x.w.cells (or_no_decisions o) xs
      ready_at x f ws xs m there None e = tt
      ready_at x f ws xs m there (Some ds) e =
          let k : (q : Procedure) × (slice_get g.procs f.0 ≡ Some q) × AllRaisable g A q q.params ds
          = known f.0 ds e in
          arguments_ready g A F x.env x.w.cells x.known.0 x.known.1 f k.0 ds ws xs k.1 k.2 m there

      -- the second fetches the fields for a call
      call_first : (n : ℕ) (f : ProcId) (ws : List Word) (b b' : Code) → top ≤ n
          → WordsOk (Stays N) ws → Meets (tables g) A
          (flows (value (Vector ws)) (to (params_of (tables g) f.0))) → Begins (leaf (call f ws)) b
          → CodeFollows st (RelFor n (leaf (call f ws))) Same b b'
          → CodeFollows st Rel Same b (fetches_for n (decisions_at D f.0) ws b')
      call_first n f ws b b' le ok m i follows = record
          { by = λ x. go x (words_of g x.env ws) refl }
        where
          ds : Decisions
          ds = decisions_at D f.0

          go : (x : Here (plan g A D top F) Rel) (o : Option (List Datum)) → words_of g x.env ws ≡ o
              → Sim (plan g A D top F).P no_deeper Same (code_by g c true x.env x.d b x.w)
              (code_by (after g A D top F) c' true x.env' x.d' (fetches_for n ds ws b')
              (beside x.b))
          go x None e = subst
              (λ a. Sim (plan g A D top F).P no_deeper Same a
              (code_by (after g A D top F) c' true x.env' x.d' (fetches_for n ds ws b')
              (beside x.b))) (sym (lacks f ws b x.env x.d x.w i e)) (λ _. free)
          go x (Some xs) e =
              let more : (env2 : Env) → Agrees n x.env' env2 → Related F first N x.env env2
              = λ env2 a. related_new F first top N new x.env x.env' env2 past
              (λ y lt. a y (omega (arith, lt, le))) x.related in
              let cells : CellsReady F x.b.cells ds xs
              = subst (λ l. CellsReady F l ds xs) (same_cells x.b.heaps)
              (ready_at x f ws xs m e (slice_get D f.0) refl) in
              let fd : Fetched (after g A D top F) c' x.d' F n x.env' (beside x.b)
              (fetches_for n ds ws b') b' ds (arguments_for n ds ws) xs
              = args_come (after g A D top F) c' x.d' F b' ds ws xs n x.env' (beside x.b)
              (λ env2 a. words_have g (Stays N) x.env env2 (more env2 a).same ws ok xs e) cells
              in
              subst (Sim (plan g A D top F).P no_deeper Same (code_by g c true x.env x.d b x.w))
              (sym fd.comes.is) (follows.by (record {
                env = x.env;
                env' = fd.env2;
                d = x.d;
                d' = x.d';
                w = x.w;
                b = record {
                  cells = x.b.cells;
                  seen = fd.comes.seen;
                  depth = x.b.depth;
                  heaps
                      = x.b.heaps;
                  deep = x.b.deep;
                };
                related = (
                  more fd.env2 fd.agrees,
                  λ zs z.
                      (let both : Some xs ≡ Some zs = sym e ∙ z in let one : xs ≡ zs = cc
                      in subst (λ l. (xs' : List Datum)
                      × (words_of (after g A D top F) fd.env2 (arguments_for n ds ws) ≡ Some xs')
                      × ArgsFor F ds l xs') one (fd.xs', fd.there, fd.related)),
                );
                known = x.known;
                nest = x.nest;
              }))
            where
              same_cells : {l l' : List HeapCell} → Same l l' → l ≡ l'
              same_cells same = refl

      on : (n : ℕ) (o o' : Act) → ActFollows st Rel Same o o' → ActFollows st (RelFor n o) Same o o'
      on n o o' f = act_more st o o' (λ cells env env' r. r.0) (λ v v' u. u) f

      -- what comes before an operation
      first_like : (k : FlowSink) (n : ℕ) (o : Act) (b b' : Code) → top ≤ n
          → PieceAct N g A first k o → Begins o b → CodeFollows st (RelFor n o) Same b b'
          → CodeFollows st Rel Same b (fetches_before D n o b')
      unfolding act_mentions act_flows
      first_like k n (leaf (call f ws)) b b' le p i h
          = call_first n f ws b b' le (words_ok N ws p.free) p.met.0 i h
      first_like k n (leaf (unit v)) b b' le p i h = code_more st b b' (λ cells env env' r. (r, tt))
          (λ v v' u. u) h
      first_like k n (leaf (fetch a)) b b' le p i h
          = code_more st b b' (λ cells env env' r. (r, tt)) (λ v v' u. u) h
      first_like k n (leaf (fetch_word a j)) b b' le p i h
          = code_more st b b' (λ cells env env' r. (r, tt)) (λ v v' u. u) h
      first_like k n (leaf (update a v)) b b' le p i h
          = code_more st b b' (λ cells env env' r. (r, tt)) (λ v v' u. u) h
      first_like k n (leaf (eval a)) b b' le p i h = code_more st b b' (λ cells env env' r. (r, tt))
          (λ v v' u. u) h
      first_like k n (leaf (apply v a)) b b' le p i h
          = code_more st b b' (λ cells env env' r. (r, tt)) (λ v v' u. u) h
      first_like k n (leaf (prim s x y)) b b' le p i h
          = code_more st b b' (λ cells env env' r. (r, tt)) (λ v v' u. u) h
      first_like k n (leaf read) b b' le p i h = code_more st b b' (λ cells env env' r. (r, tt))
          (λ v v' u. u) h
      first_like k n (leaf (write a)) b b' le p i h
          = code_more st b b' (λ cells env env' r. (r, tt)) (λ v v' u. u) h
      first_like k n (case v as') b b' le p i h = code_more st b b' (λ cells env env' r. (r, tt))
          (λ v v' u. u) h
      first_like k n (nested z) b b' le p i h = code_more st b b' (λ cells env env' r. (r, tt))
          (λ v v' u. u) h
      first_like k n (leaf fail) b b' le p i h = code_more st b b' (λ cells env env' r. (r, tt))
          (λ v v' u. u) h

      -- what a target binds
      binds : (t : Target) (n : ℕ) (o : Act) → AllOf (Plain first N) (target_vars t)
          → (x : Here (plan g A D top F) (RelFor n o)) (y : Given st (RelFor n o) Same t o x)
          → BindsToo st Rel t (raised_act D N n o) x.env x.env' y.w.cells y.v' y.bs
      binds t n o pl x y = go y.values y.seen y.binds
        where
          go : {v v' : Value} → Same v v' → Seen true (is_bound_well g t o v)
              → bindings_of g t v ≡ Some y.bs → BindsToo st Rel t (raised_act D N n o) x.env x.env'
              y.w.cells v' y.bs
          go (same {a = v}) seen e = record {
            seen = λ l. bound_alike (after g A D top F) t v D N n o ∙ seen l;
            bs' = y.bs;
            binds = e;
            related = related_bind F first top N new y.bs x.env x.env'
                (subst (AllOf (Plain first N)) (sym (bound_names g t v y.bs e)) pl) x.related.0;
          }

      mutual
        unfolding raised_act new_act act_mentions EachAct

        act_like : (k : FlowSink) (n : ℕ) (o : Act) → top ≤ n → PieceAct N g A first k o
            → ActFollows st (RelFor n o) Same o (raised_act D N n o)
        act_like k n (leaf (unit v)) le p = on n (leaf (unit v)) (leaf (unit v))
            (unit_like g A D top F c c' cb cf N new v (val_ok N v p.free))
        act_like k n (leaf (fetch a)) le p = absurd p.by_words
        act_like k n (leaf (fetch_word a i)) le p = on n (leaf (fetch_word a i))
            (raised_act D N n (leaf (fetch_word a i)))
            (fetched_like g A D top F c c' cb cf N new q ra a i)
        act_like k n (leaf (update a v)) le p = on n (leaf (update a v)) (leaf (update a v))
            (update_like g A D top F c c' cb cf N new a v
            (word_ok N a (free_left N (λ y. word_is y a) (λ y. val_uses y v) p.free))
            (val_ok N v (free_right N (λ y. word_is y a) (λ y. val_uses y v) p.free)))
        act_like k n (leaf (eval a)) le p = absurd p.inlined
        act_like k n (leaf (apply v a)) le p = absurd p.inlined.0
        act_like k n (leaf (call f ws)) le p = call_follows st {R = RelFor n (leaf (call f ws))} f
            ws (arguments_for n (decisions_at D f.0) ws) (λ x xs e. x.related.1 xs e)
        act_like k n (leaf (prim s a b)) le p = on n (leaf (prim s a b)) (leaf (prim s a b))
            (prim_like g A D top F c c' cb cf N new s a b
            (word_ok N a (free_left N (λ y. word_is y a) (λ y. word_is y b) p.free))
            (word_ok N b (free_right N (λ y. word_is y a) (λ y. word_is y b) p.free)))
        act_like k n (leaf read) le p = on n (leaf read) (leaf read)
            (read_like g A D top F c c' cb cf N new)
        act_like k n (leaf (write a)) le p = on n (leaf (write a)) (leaf (write a))
            (write_like g A D top F c c' cb cf N new a (word_ok N a p.free))
        act_like k n (case v as') le p = on n (case v as') (case v (raised_arms D N n as'))
            (case_like g A D top F c c' cb cf N new v as' (raised_arms D N n as')
            (val_ok N v (free_left N (λ y. val_uses y v) (λ y. arms_use_as_value y as') p.free))
            (arms_like k n v as' le (of_case N g A first k v as' p)))
        act_like k n (nested b) le p = on n (nested b) (nested (raised_code D N n b))
            (nested_follows st b (raised_code D N n b)
            (code_like k n b le (of_nested N g A first k b p)))
        act_like k n (leaf fail) le p = on n (leaf fail) (leaf fail)
            (fail_like g A D top F c c' cb cf N new)

        code_like : (k : FlowSink) (n : ℕ) (b : Code) → top ≤ n → PieceCode N g A first k b
            → CodeFollows st Rel Same b (raised_code D N n b)
        code_like k n (end o) le p = first_like k n o (end o) (end (raised_act D N n o)) le
            (of_end N g A first k o p) at_end
            (end_follows st {R = RelFor n o} {V = Same} o (raised_act D N n o)
            (act_like k n o le (of_end N g A first k o p)))
        code_like k n (store cs b) le p = store_like g A D top F c c' cb cf N new cs b
            (raised_code D N n b) (of_cells N g A first k cs b p).0
            (of_cells N g A first k cs b p).1 (code_like k n b le (of_store N g A first k cs b p))
        code_like k n (bind t o b) le p = first_like (to t) n o (bind t o b)
            (bind t (raised_act D N n o) (raised_code D N (n + (new_before D o + new_act D o)) b))
            le (of_first N g A first k t o b p) at_bind
            (bind_follows st {R = RelFor n o} {R' = Rel} {U = Same} {V = Same} t t o
            (raised_act D N n o) b (raised_code D N (n + (new_before D o + new_act D o)) b)
            (act_like (to t) n o le (of_first N g A first k t o b p))
            (code_like k (n + (new_before D o + new_act D o)) b (omega (arith, le))
            (of_rest N g A first k t o b p)) (binds t n o (of_target N g A first k t o b p)))

        arms_like : (k : FlowSink) (n : ℕ) (v : Val) (as' : Arms) → top ≤ n
            → PieceArms N g A first k v as' → ArmsFollow st (On Rel) Same as'
            (raised_arms D N n as')
        arms_like k n v no_arm le p = no_arm_like g A D top F c c' cb cf N new
        arms_like k n v (arm s b as') le p = arm_like g A D top F c c' cb cf N new s b
            (raised_code D N n b) as' (raised_arms D N (n + new_code D b) as')
            (of_shape N g A first k v s b as' p)
            (code_like k n b le (of_arm N g A first k v s b as' p))
            (arms_like k (n + new_code D b) v as' (omega (arith, le))
            (of_others N g A first k v s b as' p))

      pub body_like : (k : FlowSink) (n : ℕ) (b : Code) → top ≤ n → PieceCode N g A first k b
          → CodeFollows st Rel Same b (raised_code D N n b)
      body_like = code_like
