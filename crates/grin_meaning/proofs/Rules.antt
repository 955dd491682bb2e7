-- Two programs that run side by side: what holds of a construct, by what holds of its parts.
--
-- All passes are proved with these lemmas. A proof names a relation between variables of the two
-- programs, one between their values, and one between arguments and results of each procedure. For
-- each construct a lemma says: if its parts do the same in both programs, so does the construct.
-- The pass shows this for the body of each procedure, and the lemmas give it for whole programs.
use Rattle.std.proofs.Common.{◌≡◌, ℕ, suc, List, [], ◌∷◌, ◌++◌, length, Bool, Option, Some, None, slice_get, slice_set, refl, sym, ap, ◌∙◌, subst}
use Rattle.std.specs.Prelude.{ℤ}
use Rattle.grin_syntax.specs.declared.program.Cell.{Cell}
use Rattle.grin_syntax.specs.declared.program.Shape.{Shape}
use Rattle.grin_syntax.specs.declared.program.Target.{Target}
use Rattle.grin_syntax.specs.declared.program.PrimOp.{PrimOp}
use Rattle.grin_syntax.specs.declared.program.ProcId.{ProcId}
use Rattle.grin_syntax.specs.declared.program.Val.{Val}
use Rattle.grin_syntax.specs.declared.program.Word.{Word}
use Rattle.grin_syntax.specs.Tree.{Code, end, store, bind, Act, leaf, unit, fetch, fetch_word, update, call, prim, read, write, case, nested, fail, Arms, no_arm, arm, Procedure, Program}
use Rattle.grin_meaning.specs.Values.{Datum, number, tag, cell, Node, Value, node, words, Env, HeapCell, State, World, Answer, gives, need, and_then, Binding, with_vars, MatchOutcome, fits, fits_not, unclear, fit_of, word_of, words_of, value_of, node_of, bindings_of}
use Rattle.grin_meaning.specs.Run.{Calls, act_by, code_by, arms_by, require_if_checked, choose, byte_or_end, after_read, node_word, with_state_seen, places, cells_of, with_cells, place_of, number_of, apply_arithmetic}
use Rattle.grin_meaning.specs.Checks.{fills, all_fill, is_bound_well}
use Rattle.grin_meaning.proofs.Back.{Back, need_back, looking_back, CallsBack, code_by_back, every_front, every_last}
use Rattle.grin_meaning.proofs.Beside.{Compared, Beside, beside, Likewise, free, gives_too, stops_too, Seen, Sim, sim_more, need_is, need_first, need_sim, then_sim, looked_need_sim, need_looked_sim}

-- how the variables of two programs are related, beside the first one's heap
abbrev pub Relation : Type 1
Relation = List HeapCell → Env → Env → Type 0

-- what relates two programs that differ in their procedures: P is known of each state of the first
pub record Plan : Type 1 where
  pub looks : Bool
  pub K : Compared
  pub P : State → Type 0
  pub Args : ℕ → List Datum → List Datum → Type 0
  pub Result : ℕ → Value → Value → Type 0
  pub g : Program
  pub procs : List Procedure

module _ (p : Plan) where
  open p use {looks, K, P, Args, Result, g, procs}

  abbrev pub after : Program
  after = record g { procs = procs }

  -- the two side by side, with related variables
  pub record Here (R : Relation) : Type 0 where
    pub env : Env
    pub env' : Env
    pub d : ℕ
    pub d' : ℕ
    pub w : World
    pub b : Beside K w
    pub related : R w.cells env env'
    pub known : P (record { env = env; heap = w.cells })
    pub nest : K.Deep d' d

  -- calls of like procedures with like arguments give like results
  pub record CallsFollow (c c' : Calls) : Type 0 where
    pub by : (f : ℕ) (xs xs' : List Datum) (d d' : ℕ) (w : World) (b : Beside K w) → Args f xs xs'
        → K.Deep d' d → Sim P K (Result f) (c f xs d w) (c' f xs' d' (beside b))

-- with calls of both
pub record Setting : Type 1 where
  pub plan : Plan
  pub c : Calls
  pub c' : Calls
  pub back : CallsBack plan.P c
  pub follow : CallsFollow plan c c'

module _ (s : Setting) where
  open s use {plan, c, c', back as cb, follow as cf, plan.{looks, K, P, Args, Result, g, procs}}

  abbrev pub h : Program
  h = record g { procs = procs }

  pub record ActFollows (R : Relation) (V : Value → Value → Type 0) (o o' : Act) : Type 0 where
    pub by : (x : Here plan R) → Sim P K V (act_by g c looks x.env x.d o x.w)
        (act_by h c' looks x.env' x.d' o' (beside x.b))

  pub record CodeFollows (R : Relation) (V : Value → Value → Type 0) (b b' : Code) : Type 0 where
    pub by : (x : Here plan R) → Sim P K V (code_by g c looks x.env x.d b x.w)
        (code_by h c' looks x.env' x.d' b' (beside x.b))

  -- over the values of a case, which R relates too
  pub record ArmsFollow (R : Value → Value → Relation) (V : Value → Value → Type 0) (as' bs' : Arms)
      : Type 0 where
    pub by : (v v' : Value) (x : Here plan (R v v'))
        → Sim P K V (arms_by g c looks x.env x.d v as' x.w)
        (arms_by h c' looks x.env' x.d' v' bs' (beside x.b))

  -- ---- of the parts

  -- a block goes on, in a state that the run passes through
  pub enter : (R : Relation) (V : Value → Value → Type 0) (b b' : Code) → CodeFollows R V b b'
      → (env env' : Env) (d d' : ℕ) (w : World) (n : Beside K w) → K.Deep d' d
      → (P (record { env = env; heap = w.cells }) → R w.cells env env')
      → Sim P K V (code_by g c looks env d b (with_state_seen env w))
      (code_by h c' looks env' d' b' (with_state_seen env' (beside n)))
  enter R V b b' f env env' d d' w n nest r = λ all.
      let at : P (record { env = env; heap = w.cells })
      = every_last P w.seen _ (code_by_back P g c cb looks env d b (with_state_seen env w) all)
      in
      f.by (record {
        env = env;
        env' = env';
        d = d;
        d' = d';
        w = with_state_seen env w;
        b = record {
          cells = n.cells;
          seen = n.seen ++ record { env = env'; heap = n.cells } ∷ [];
          depth
              = n.depth;
          heaps = n.heaps;
          deep = n.deep;
        };
        related = r at;
        known = at;
        nest = nest;
      }) all

  -- with other relations
  pub act_more : {R R' : Relation} {V V' : Value → Value → Type 0} (o o' : Act)
      → ((c : List HeapCell) (env env' : Env) → R' c env env' → R c env env')
      → ((v v' : Value) → V v v' → V' v v') → ActFollows R V o o' → ActFollows R' V' o o'
  act_more o o' r v f = record {
    by = λ x. sim_more P K _ _ _ _ v
        (f.by (record {
          env = x.env;
          env' = x.env';
          d = x.d;
          d' = x.d';
          w = x.w;
          b = x.b;
          related
              = r x.w.cells x.env x.env' x.related;
          known = x.known;
          nest = x.nest;
        }));
  }

  pub code_more : {R R' : Relation} {V V' : Value → Value → Type 0} (b b' : Code)
      → ((c : List HeapCell) (env env' : Env) → R' c env env' → R c env env')
      → ((v v' : Value) → V v v' → V' v v') → CodeFollows R V b b' → CodeFollows R' V' b b'
  code_more b b' r v f = record {
    by = λ x. sim_more P K _ _ _ _ v
        (f.by (record {
          env = x.env;
          env' = x.env';
          d = x.d;
          d' = x.d';
          w = x.w;
          b = x.b;
          related
              = r x.w.cells x.env x.env' x.related;
          known = x.known;
          nest = x.nest;
        }));
  }

  -- ---- blocks

  pub nested_follows : {R : Relation} {V : Value → Value → Type 0} (b b' : Code)
      → CodeFollows R V b b' → ActFollows R V (nested b) (nested b')
  unfolding act_by
  nested_follows b b' f = record { by = λ x. f.by x }

  pub end_follows : {R : Relation} {V : Value → Value → Type 0} (o o' : Act) → ActFollows R V o o'
      → CodeFollows R V (end o) (end o')
  unfolding act_by
  end_follows o o' f = record { by = λ x. f.by x }

  -- what an operation gives to its target, in the first
  pub record Given (R : Relation) (U : Value → Value → Type 0) (t : Target) (o : Act)
      (x : Here plan R) : Type 0 where
    pub v : Value
    pub v' : Value
    pub w : World
    pub b : Beside K w
    pub bs : List Binding
    pub gave : act_by g c looks x.env (suc x.d) o x.w ≡ gives v w
    pub values : U v v'
    pub seen : Seen looks (is_bound_well g t o v)
    pub binds : bindings_of g t v ≡ Some bs
    pub next : P (record { env = with_vars bs x.env; heap = w.cells })

  -- and in the second, so that the variables are related
  pub record BindsToo (R' : Relation) (t' : Target) (o' : Act) (env env' : Env) (c : List HeapCell)
      (v' : Value) (bs : List Binding) : Type 0 where
    pub seen : Seen looks (is_bound_well h t' o' v')
    pub bs' : List Binding
    pub binds : bindings_of h t' v' ≡ Some bs'
    pub related : R' c (with_vars bs env) (with_vars bs' env')

  -- what is done with the value of a bound operation
  abbrev pub rest : Target → Act → Code → Env → ℕ → Value → World → Answer
  rest t o b env d v w = require_if_checked looks (is_bound_well g t o v) w
      (need (bindings_of g t v) w
      (λ bs. code_by g c looks (with_vars bs env) d b (with_state_seen (with_vars bs env) w)))

  pub rest_back : (t : Target) (o : Act) (b : Code) (env : Env) (d : ℕ) (v : Value) (w : World)
      → Back P w (rest t o b env d v w)
  rest_back t o b env d v w = looking_back P looks _ w _
      (need_back P (bindings_of g t v) w _
      (λ bs all. every_front P w.seen _
      (code_by_back P g c cb looks (with_vars bs env) d b (with_state_seen (with_vars bs env) w)
      all)))

  pub bind_follows : {R R' : Relation} {U V : Value → Value → Type 0} (t t' : Target) (o o' : Act)
      (b b' : Code) → ActFollows R U o o' → CodeFollows R' V b b'
      → ((x : Here plan R) (y : Given R U t o x) → BindsToo R' t' o' x.env x.env' y.w.cells y.v'
      y.bs) → CodeFollows R V (bind t o b) (bind t' o' b')
  unfolding act_by
  bind_follows {R} {R'} {U} {V} t t' o o' b b' f k binds = record {
    by = λ x. then_sim P K U V _ _ _ _ (rest_back t o b x.env x.d)
        (f.by (record {
          env = x.env;
          env' = x.env';
          d = suc x.d;
          d' = suc x.d';
          w = x.w;
          b = x.b;
          related
              = x.related;
          known = x.known;
          nest = K.up x.nest;
        }))
        (λ v v' w n gave u. looked_need_sim P K V looks (is_bound_well g t o v)
        (is_bound_well h t' o' v') (bindings_of g t v) (bindings_of h t' v') w (beside n) _ _
        (λ bs e seen all.
        let at : P (record { env = with_vars bs x.env; heap = w.cells })
        = every_last P w.seen _
        (code_by_back P g c cb looks (with_vars bs x.env) x.d b
        (with_state_seen (with_vars bs x.env) w) all) in
        let y : BindsToo R' t' o' x.env x.env' w.cells v' bs
        = binds x
        (record {
          v = v;
          v' = v';
          w = w;
          b = n;
          bs = bs;
          gave = gave;
          values = u;
          seen
              = seen;
          binds = e;
          next = at;
        }) in (
          y.seen,
          y.bs',
          y.binds,
          enter R' V b b' k (with_vars bs x.env) (with_vars y.bs' x.env') x.d
              x.d' w n x.nest (λ _. y.related) all,
        )));
  }

  -- a group of cells that is stored, in the first
  pub record Stored (R : Relation) (cs : List Cell) (x : Here plan R) : Type 0 where
    pub hs : List HeapCell
    pub cells : cells_of g (with_vars (places (length x.w.cells) cs) x.env) cs ≡ Some hs
    pub seen : Seen looks (all_fill g (with_vars (places (length x.w.cells) cs) x.env) cs)
    pub next : P
        (record { env = with_vars (places (length x.w.cells) cs) x.env; heap = x.w.cells ++ hs })

  -- and in the second
  pub record StoresToo (R R' : Relation) (cs cs' : List Cell) (x : Here plan R) (hs : List HeapCell)
      : Type 0 where
    pub hs' : List HeapCell
    pub cells : cells_of h (with_vars (places (length x.b.cells) cs') x.env') cs' ≡ Some hs'
    pub seen : Seen looks (all_fill h (with_vars (places (length x.b.cells) cs') x.env') cs')
    pub heaps : K.Heaps (x.w.cells ++ hs) (x.b.cells ++ hs')
    pub related : R' (x.w.cells ++ hs) (with_vars (places (length x.w.cells) cs) x.env)
        (with_vars (places (length x.b.cells) cs') x.env')

  pub store_follows : {R R' : Relation} {V : Value → Value → Type 0} (cs cs' : List Cell)
      (b b' : Code) → CodeFollows R' V b b' →
      ((x : Here plan R) (y : Stored R cs x) → StoresToo R R' cs cs' x y.hs)
      → CodeFollows R V (store cs b) (store cs' b')
  unfolding act_by
  store_follows {R} {R'} {V} cs cs' b b' k stores = record {
    by = λ x.
        let env : Env = with_vars (places (length x.w.cells) cs) x.env in
        let env' : Env = with_vars (places (length x.b.cells) cs') x.env' in
        need_looked_sim P K V looks (all_fill g env cs) (all_fill h env' cs') (cells_of g env cs)
        (cells_of h env' cs') x.w (beside x.b) _ _ (λ hs e seen all.
        let at : P (record { env = env; heap = x.w.cells ++ hs })
        = every_last P x.w.seen _
        (code_by_back P g c cb looks env x.d b (with_state_seen env (with_cells hs x.w)) all) in
        let y : StoresToo R R' cs cs' x hs = stores x
        (record { hs = hs; cells = e; seen = seen; next = at }) in (
          y.seen,
          y.hs',
          y.cells,
          enter R' V b b' k env env' x.d x.d' (with_cells hs x.w)
              (record {
                cells = x.b.cells ++ y.hs';
                seen = x.b.seen;
                depth = x.b.depth;
                heaps
                    = y.heaps;
                deep = x.b.deep;
              }) x.nest (λ _. y.related) all,
        ));
  }

  -- ---- cases

  pub case_follows : {R : Relation} {U : Value → Value → Relation} {V : Value → Value → Type 0}
      (v v' : Val) (as' bs' : Arms) → ArmsFollow U V as' bs'
      → ((x : Here plan R) (y : Value) → value_of g x.env v ≡ Some y → (y' : Value)
      × (value_of h x.env' v' ≡ Some y') × U y y' x.w.cells x.env x.env')
      → ActFollows R V (case v as') (case v' bs')
  unfolding act_by
  case_follows {R} {U} {V} v v' as' bs' f on = record {
    by = λ x. need_sim P K V (value_of g x.env v) (value_of h x.env' v') x.w (beside x.b) _ _
        (λ y e.
        let z : (y' : Value) × (value_of h x.env' v' ≡ Some y') × U y y' x.w.cells x.env x.env'
        = on x y e in (
          z.0,
          z.1,
          f.by y z.0
              (record {
                env = x.env;
                env' = x.env';
                d = x.d;
                d' = x.d';
                w = x.w;
                b = x.b;
                related
                    = z.2;
                known = x.known;
                nest = x.nest;
              }),
        ));
  }

  pub no_arm_follows : {U : Value → Value → Relation} {V : Value → Value → Type 0} (bs' : Arms)
      → ArmsFollow U V no_arm bs'
  unfolding act_by
  no_arm_follows bs' = record { by = λ v v' x _. free }

  -- what the second pattern binds where the first one fits
  pub record FitsToo (R' : Relation) (s' : Shape) (env env' : Env) (c : List HeapCell) (v' : Value)
      (bs : List Binding) : Type 0 where
    pub bs' : List Binding
    pub fit : fit_of h s' v' ≡ fits bs'
    pub related : R' c (with_vars bs env) (with_vars bs' env')

  -- an alternative, whose pattern fits in both or in neither
  pub arm_follows : {U U' : Value → Value → Relation} {R' : Relation} {V : Value → Value → Type 0}
      (s s' : Shape) (b b' : Code) (as' bs' : Arms) → CodeFollows R' V b b'
      → ArmsFollow U' V as' bs'
      → ((v v' : Value) (x : Here plan (U v v')) (bs : List Binding) → fit_of g s v ≡ fits bs
      → P (record { env = with_vars bs x.env; heap = x.w.cells })
      → FitsToo R' s' x.env x.env' x.w.cells v' bs)
      → ((v v' : Value) (x : Here plan (U v v')) → fit_of g s v ≡ fits_not
      → (fit_of h s' v' ≡ fits_not) × U' v v' x.w.cells x.env x.env')
      → ArmsFollow U V (arm s b as') (arm s' b' bs')
  unfolding act_by
  arm_follows {U} {U'} {R'} {V} s s' b b' as' bs' f k fit not
      = record { by = λ v v' x. go v v' x (fit_of g s v) refl }
    where
      go : (v v' : Value) (x : Here plan (U v v')) (q : MatchOutcome) → fit_of g s v ≡ q
          → Sim P K V
          (choose q x.w
          (λ bs. code_by g c looks (with_vars bs x.env) x.d b
          (with_state_seen (with_vars bs x.env) x.w)) (arms_by g c looks x.env x.d v as' x.w))
          (arms_by h c' looks x.env' x.d' v' (arm s' b' bs') (beside x.b))
      go v v' x (fits bs) e = λ all.
          let at : P (record { env = with_vars bs x.env; heap = x.w.cells })
          = every_last P x.w.seen _
          (code_by_back P g c cb looks (with_vars bs x.env) x.d b
          (with_state_seen (with_vars bs x.env) x.w) all) in
          let y : FitsToo R' s' x.env x.env' x.w.cells v' bs = fit v v' x bs e at in
          subst (λ q. Likewise K V
          (code_by g c looks (with_vars bs x.env) x.d b
          (with_state_seen (with_vars bs x.env) x.w))
          (choose q (beside x.b)
          (λ bs. code_by h c' looks (with_vars bs x.env') x.d' b'
          (with_state_seen (with_vars bs x.env') (beside x.b)))
          (arms_by h c' looks x.env' x.d' v' bs' (beside x.b)))) (sym y.fit)
          (enter R' V b b' f (with_vars bs x.env) (with_vars y.bs' x.env') x.d x.d' x.w x.b x.nest
          (λ _. y.related) all)
      go v v' x fits_not e = λ all.
          let y : (fit_of h s' v' ≡ fits_not) × U' v v' x.w.cells x.env x.env' = not v v' x e in
          subst (λ q. Likewise K V (arms_by g c looks x.env x.d v as' x.w)
          (choose q (beside x.b)
          (λ bs. code_by h c' looks (with_vars bs x.env') x.d' b'
          (with_state_seen (with_vars bs x.env') (beside x.b)))
          (arms_by h c' looks x.env' x.d' v' bs' (beside x.b)))) (sym y.0)
          (k.by v v'
          (record {
            env = x.env;
            env' = x.env';
            d = x.d;
            d' = x.d';
            w = x.w;
            b = x.b;
            related
                = y.1;
            known = x.known;
            nest = x.nest;
          }) all)
      go v v' x unclear e = λ _. free

  -- ---- operations without blocks

  abbrev pub place_in : Env → Word → Option ℕ
  place_in env a = and_then (word_of g env a) place_of

  pub unit_follows : {R : Relation} {V : Value → Value → Type 0} (v v' : Val)
      → ((x : Here plan R) (y : Value) → value_of g x.env v ≡ Some y → Seen looks (fills g x.env v)
      → Seen looks (fills h x.env' v') × (y' : Value) × (value_of h x.env' v' ≡ Some y')
      × V y y') → ActFollows R V (leaf (unit v)) (leaf (unit v'))
  unfolding act_by
  unit_follows {R} {V} v v' u = record {
    by = λ x. need_looked_sim P K V looks (fills g x.env v) (fills h x.env' v') (value_of g x.env v)
        (value_of h x.env' v') x.w (beside x.b) _ _ (λ y e seen all.
        let z : Seen looks (fills h x.env' v') × (y' : Value) × (value_of h x.env' v' ≡ Some y')
        × V y y' = u x y e seen in (z.0, z.1, z.2, gives_too x.b z.3));
  }

  -- a cell that is there in the first is there in the second
  pub record CellToo (a' : Word) (env' : Env) (cells' : List HeapCell) : Type 0 where
    pub i' : ℕ
    pub y' : HeapCell
    pub place : place_in env' a' ≡ Some i'
    pub there : slice_get cells' i' ≡ Some y'

  pub cell_sim : {R : Relation} {V : Value → Value → Type 0} (a a' : Word) (x : Here plan R)
      (k k' : ℕ → HeapCell → Answer)
      → ((i : ℕ) (y : HeapCell) → place_in x.env a ≡ Some i → slice_get x.w.cells i ≡ Some y
      → (z : CellToo a' x.env' x.b.cells) × Sim P K V (k i y) (k' z.i' z.y'))
      → Sim P K V (need (place_in x.env a) x.w (λ i. need (slice_get x.w.cells i) x.w (k i)))
      (need (place_in x.env' a') (beside x.b)
      (λ i. need (slice_get x.b.cells i) (beside x.b) (k' i)))
  cell_sim {V = V} a a' x k k' f = need_first P K V (place_in x.env a) x.w _ _
      (λ i e. need_first P K V (slice_get x.w.cells i) x.w (k i) _ (λ y q.
      let z : (z : CellToo a' x.env' x.b.cells) × Sim P K V (k i y) (k' z.i' z.y') = f i y e q in
      subst (Sim P K V (k i y))
      (need_is (slice_get x.b.cells z.0.i') z.0.y' (beside x.b) (k' z.0.i') z.0.there ∙ need_is
      (place_in x.env' a') z.0.i' (beside x.b)
      (λ i. need (slice_get x.b.cells i) (beside x.b) (k' i)) z.0.place) z.1))

  pub fetch_follows : {R : Relation} {V : Value → Value → Type 0} (a a' : Word)
      → ((x : Here plan R) (i : ℕ) (y : HeapCell) → place_in x.env a ≡ Some i
      → slice_get x.w.cells i ≡ Some y → (z : CellToo a' x.env' x.b.cells)
      × V (node y.node) (node z.y'.node)) → ActFollows R V (leaf (fetch a)) (leaf (fetch a'))
  unfolding act_by
  fetch_follows {R} {V} a a' f = record {
    by = λ x. cell_sim {V = V} a a' x _ _
        (λ i y e q. let z : (z : CellToo a' x.env' x.b.cells) × V (node y.node) (node z.y'.node)
        = f x i y e q in (z.0, λ _. gives_too x.b z.1));
  }

  pub fetch_word_follows : {R : Relation} {V : Value → Value → Type 0} (a a' : Word) (k k' : ℕ)
      → ((x : Here plan R) (i : ℕ) (y : HeapCell) → place_in x.env a ≡ Some i
      → slice_get x.w.cells i ≡ Some y → (z : CellToo a' x.env' x.b.cells)
      × V (words (node_word y.node k ∷ [])) (words (node_word z.y'.node k' ∷ [])))
      → ActFollows R V (leaf (fetch_word a k)) (leaf (fetch_word a' k'))
  unfolding act_by
  fetch_word_follows {R} {V} a a' k k' f = record {
    by = λ x. cell_sim {V = V} a a' x _ _
        (λ i y e q. let z : (z : CellToo a' x.env' x.b.cells)
        × V (words (node_word y.node k ∷ [])) (words (node_word z.y'.node k' ∷ [])) = f x i y e q
        in (z.0, λ _. gives_too x.b z.1));
  }

  -- the node that goes into the cell, so that the heaps stay as they are to each other
  pub record NodeToo (v' : Val) (env' : Env) (cells cells' : List HeapCell) (i i' : ℕ)
      (y y' : HeapCell) (n : Node) : Type 0 where
    pub n' : Node
    pub made : node_of h env' v' ≡ Some n'
    pub seen : Seen looks (fills h env' v')
    pub heaps : K.Heaps (slice_set cells i (record { site = y.site; node = n }))
        (slice_set cells' i' (record { site = y'.site; node = n' }))

  pub update_follows : {R : Relation} {V : Value → Value → Type 0} (a a' : Word) (v v' : Val)
      → V (words []) (words [])
      → ((x : Here plan R) (i : ℕ) (y : HeapCell) → place_in x.env a ≡ Some i
      → slice_get x.w.cells i ≡ Some y
      → (z : CellToo a' x.env' x.b.cells) ×
      ((n : Node) → node_of g x.env v ≡ Some n → Seen looks (fills g x.env v)
      → NodeToo v' x.env' x.w.cells x.b.cells i z.i' y z.y' n))
      → ActFollows R V (leaf (update a v)) (leaf (update a' v'))
  unfolding act_by
  update_follows {R} {V} a a' v v' none f = record {
    by = λ x. cell_sim {V = V} a a' x _ _ (λ i y e q.
        let z : (z : CellToo a' x.env' x.b.cells) ×
        ((n : Node) → node_of g x.env v ≡ Some n → Seen looks (fills g x.env v)
        → NodeToo v' x.env' x.w.cells x.b.cells i z.i' y z.y' n) = f x i y e q in (
          z.0,
          need_looked_sim P K V looks (fills g x.env v) (fills h x.env' v') (node_of g x.env v)
              (node_of h x.env' v') x.w (beside x.b) _ _ (λ n e seen all.
              let u : NodeToo v' x.env' x.w.cells x.b.cells i z.0.i' y z.0.y' n = z.1 n e seen in (
                u.seen,
                u.n',
                u.made,
                gives_too
                    (record {
                      cells = slice_set x.b.cells z.0.i'
                          (record { site = z.0.y'.site; node = u.n' });
                      seen = x.b.seen;
                      depth
                          = x.b.depth;
                      heaps = u.heaps;
                      deep = x.b.deep;
                    }) none,
              )),
        ));
  }

  pub call_follows : {R : Relation} (f : ProcId) (ws ws' : List Word)
      → ((x : Here plan R) (xs : List Datum) → words_of g x.env ws ≡ Some xs → (xs' : List Datum)
      × (words_of h x.env' ws' ≡ Some xs') × Args f.0 xs xs')
      → ActFollows R (Result f.0) (leaf (call f ws)) (leaf (call f ws'))
  unfolding act_by
  call_follows f ws ws' k = record {
    by = λ x. need_sim P K (Result f.0) (words_of g x.env ws) (words_of h x.env' ws') x.w
        (beside x.b) _ _ (λ xs e.
        let z : (xs' : List Datum) × (words_of h x.env' ws' ≡ Some xs') × Args f.0 xs xs' = k x xs e
        in (z.0, z.1, cf.by f.0 xs z.0 x.d x.d' x.w x.b z.2 x.nest));
  }

  -- a word that is there in the first is there in the second
  abbrev pub WordToo : Relation → Word → Word → Type 0
  WordToo R a a' = (x : Here plan R) (d : Datum) → word_of g x.env a ≡ Some d
      → word_of h x.env' a' ≡ Some d

  -- a number that both give is related to itself
  abbrev pub Numbers : (Value → Value → Type 0) → Type 0
  Numbers V = (k : ℤ) → V (words (number k ∷ [])) (words (number k ∷ []))

  numbers_sim : {V : Value → Value → Type 0} (q : PrimOp) (y z : Datum) (w : World) (b : Beside K w)
      → Numbers V → Sim P K V (need (apply_arithmetic q y z) w (λ v. gives v w))
      (need (apply_arithmetic q y z) (beside b) (λ v. gives v (beside b)))
  numbers_sim q (number i) (number j) w b r = λ _. gives_too b (r _)
  numbers_sim q (number i) (tag t) w b r = λ _. free
  numbers_sim q (number i) (cell a) w b r = λ _. free
  numbers_sim q (tag t) z w b r = λ _. free
  numbers_sim q (cell a) z w b r = λ _. free

  pub prim_follows : {R : Relation} {V : Value → Value → Type 0} (q : PrimOp) (a b a' b' : Word)
      → WordToo R a a' → WordToo R b b' → Numbers V
      → ActFollows R V (leaf (prim q a b)) (leaf (prim q a' b'))
  unfolding act_by
  prim_follows {R} {V} q a b a' b' f k r = record {
    by = λ x. need_sim P K V (word_of g x.env a) (word_of h x.env' a') x.w (beside x.b) _ _
        (λ y e. (
          y,
          f x y e,
          need_sim P K V (word_of g x.env b) (word_of h x.env' b') x.w
              (beside x.b) _ _ (λ z e'. (z, k x z e', numbers_sim {V = V} q y z x.w x.b r)),
        ));
  }

  read_sim : {V : Value → Value → Type 0} (i : List ℕ) (w : World) (b : Beside K w) → Numbers V
      → Sim P K V (gives (words (number (byte_or_end i) ∷ [])) (after_read i w))
      (gives (words (number (byte_or_end i) ∷ [])) (after_read i (beside b)))
  read_sim [] w b r = λ _. gives_too b (r _)
  read_sim (k ∷ rest) w b r = λ _. gives_too
      (record { cells = b.cells; seen = b.seen; depth = b.depth; heaps = b.heaps; deep = b.deep })
      (r _)

  pub read_follows : {R : Relation} {V : Value → Value → Type 0} → Numbers V
      → ActFollows R V (leaf read) (leaf read)
  unfolding act_by
  read_follows {R} {V} r = record { by = λ x. read_sim {V = V} x.w.input x.w x.b r }

  pub write_follows : {R : Relation} {V : Value → Value → Type 0} (a a' : Word) → WordToo R a a'
      → V (words []) (words []) → ActFollows R V (leaf (write a)) (leaf (write a'))
  unfolding act_by
  write_follows {R} {V} a a' f none = record {
    by = λ x. need_sim P K V (and_then (word_of g x.env a) number_of)
        (and_then (word_of h x.env' a') number_of) x.w (beside x.b) _ _ (λ k e. (
          k,
          number_too x k (word_of g x.env a) refl e,
          λ _. gives_too
              (record {
                cells = x.b.cells;
                seen = x.b.seen;
                depth = x.b.depth;
                heaps = x.b.heaps;
                deep
                    = x.b.deep;
              }) none,
        ));
  }
    where
      number_too : (x : Here plan R) (k : ℤ) (o : Option Datum) → word_of g x.env a ≡ o
          → and_then o number_of ≡ Some k → and_then (word_of h x.env' a') number_of ≡ Some k
      number_too x k None q e = cc
      number_too x k (Some d) q e = ap (λ o. and_then o number_of) (f x d q) ∙ e

  pub fail_follows : {R : Relation} {V : Value → Value → Type 0}
      → ActFollows R V (leaf fail) (leaf fail)
  unfolding act_by
  fail_follows = record { by = λ x _. stops_too x.b }
