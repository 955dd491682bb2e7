-- Operations follow themselves where the second program has what the first has of the variables
-- that matter, and calls, arguments, results and heaps are the same.
use Rattle.std.proofs.Common.{◌≡◌, ℕ, zero, suc, List, [], ◌∷◌, ◌++◌, length, Bool, true, false, cond, ◌&&◌, nat_eq, Option, Some, None, slice_get, slice_set, refl, sym, ap, ◌∙◌, subst}
use Rattle.grin_syntax.specs.declared.program.Cell.{Cell}
use Rattle.grin_syntax.specs.declared.program.Shape.{Shape}
use Rattle.grin_syntax.specs.declared.program.Target.{Target}
use Rattle.grin_syntax.specs.declared.program.ProcId.{ProcId}
use Rattle.grin_syntax.specs.declared.program.Val.{Val}
use Rattle.grin_syntax.specs.declared.program.Val.TheVariants.{NodeVar, Node as Node', Vector, One}
use Rattle.grin_syntax.specs.declared.program.Word.{Word}
use Rattle.grin_syntax.specs.declared.program.Word.TheVariants.{Lit, Var, Global, TagWord}
use Rattle.grin_syntax.specs.Tree.{Code, store, bind, Act, Leaf, leaf, unit, fetch, fetch_word, update, eval, apply, call, prim, read, write, case, fail, Arms, no_arm, arm, Program}
use Rattle.grin_meaning.specs.Values.{Datum, Node, Value, words, Env, HeapCell, World, and_then, Binding, with_vars, fits, fit_of, word_of, words_of, value_of, node_of, made_node, as_node, only_word, bindings_of}
use Rattle.grin_meaning.specs.Checks.{is_none_or, is_filled, fills, all_fill, is_bound_well}
use Rattle.grin_meaning.specs.Run.{act_by, places, cells_of, place_of, updated, apply_part, is_fun_kind, is_part_kind, is_evaluated, part_from}
use Rattle.grin_meaning.specs.Follows.{Same, same}
use Rattle.grin_meaning.specs.Names.{WordOk, WordsOk, ValOk, CellsOk, ActOk}
use Rattle.grin_meaning.proofs.Back.{updated_back}
use Rattle.grin_meaning.proofs.Beside.{Beside, beside, free, gives_too, stops_too, Seen, Sim, sim_more, need_sim, need_both, cond_sim, then_sim}
use Rattle.grin_meaning.proofs.Rules.{Relation, Plan, Here, Setting, ActFollows, CodeFollows, ArmsFollow, BindsToo, FitsToo, CellToo, cell_sim, act_more, unit_follows, fetch_follows, fetch_word_follows, update_follows, call_follows, prim_follows, read_follows, write_follows, fail_follows, store_follows, bind_follows, case_follows, no_arm_follows, arm_follows}

-- ---- the second environment has what the first has of the variables that matter

abbrev pub Has : (ℕ → Type 0) → Env → Env → Type 0
Has Ok env env' = (x : ℕ) (v : Value) → Ok x → env x ≡ Some v → env' x ≡ Some v

has_one : (y : ℕ) (b : Binding) (o o' : Option Value) (t : Bool)
    → ((v : Value) → o ≡ Some v → o' ≡ Some v) → (v : Value) → cond t (Some b.1) o ≡ Some v
    → cond t (Some b.1) o' ≡ Some v
has_one y b o o' true f v e = e
has_one y b o o' false f v e = f v e

pub vars_have : (Ok : ℕ → Type 0) (bs : List Binding) (env env' : Env) → Has Ok env env'
    → Has Ok (with_vars bs env) (with_vars bs env')
vars_have Ok [] env env' f = f
vars_have Ok (b ∷ bs) env env' f = vars_have Ok bs _ _
    (λ y v k. has_one y b (env y) (env' y) (nat_eq y b.0) (λ u. f y u k) v)

pub then_has : {A B : Type 0} (o o' : Option A) (k k' : A → Option B) (b : B)
    → ((a : A) → o ≡ Some a → o' ≡ Some a) → ((a : A) → k a ≡ Some b → k' a ≡ Some b)
    → and_then o k ≡ Some b → and_then o' k' ≡ Some b
then_has None o' k k' b f r e = cc
then_has (Some a) o' k k' b f r e = ap (λ q. and_then q k') (f a refl) ∙ r a e

module _ (g : Program) (Ok : ℕ → Type 0) (env env' : Env) (has : Has Ok env env') where
  pub word_has : (a : Word) → WordOk Ok a → (d : Datum) → word_of g env a ≡ Some d
      → word_of g env' a ≡ Some d
  word_has (Lit k) ok d e = e
  word_has (Var x) ok d e = then_has (env x.0) (env' x.0) only_word only_word d (λ v. has x.0 v ok)
      (λ v q. q) e
  word_has (Global i) ok d e = e
  word_has (TagWord t) ok d e = e

  pub words_have : (ws : List Word) → WordsOk Ok ws → (ds : List Datum)
      → words_of g env ws ≡ Some ds → words_of g env' ws ≡ Some ds
  words_have [] ok ds e = e
  words_have (a ∷ ws) ok ds e = then_has (word_of g env a) (word_of g env' a) _ _ ds
      (word_has a ok.0)
      (λ d. then_has (words_of g env ws) (words_of g env' ws) _ _ ds (words_have ws ok.1)
      (λ es q. q)) e

  pub value_has : (v : Val) → ValOk Ok v → (y : Value) → value_of g env v ≡ Some y
      → value_of g env' v ≡ Some y
  value_has (NodeVar x) ok y e = has x.0 y ok e
  value_has (Node' t ws) ok y e = then_has (words_of g env ws) (words_of g env' ws) _ _ y
      (words_have ws ok) (λ ds q. q) e
  value_has (Vector ws) ok y e = then_has (words_of g env ws) (words_of g env' ws) _ _ y
      (words_have ws ok) (λ ds q. q) e
  value_has (One a) ok y e = then_has (word_of g env a) (word_of g env' a) _ _ y (word_has a ok)
      (λ d q. q) e

  pub node_has : (v : Val) → ValOk Ok v → (n : Node) → node_of g env v ≡ Some n
      → node_of g env' v ≡ Some n
  node_has v ok n e = then_has (value_of g env v) (value_of g env' v) (as_node g) (as_node g) n
      (value_has v ok) (λ y q. q) e

  pub cells_have : (cs : List Cell) → CellsOk Ok cs → (hs : List HeapCell)
      → cells_of g env cs ≡ Some hs → cells_of g env' cs ≡ Some hs
  cells_have [] ok hs e = e
  cells_have (c ∷ cs) ok hs e = then_has (and_then (node_of g env c.val) _)
      (and_then (node_of g env' c.val) _) _ _ hs
      (λ b. then_has (node_of g env c.val) (node_of g env' c.val) _ _ b (node_has c.val ok.0)
      (λ n q. q))
      (λ b. then_has (cells_of g env cs) (cells_of g env' cs) _ _ hs (cells_have cs ok.1)
      (λ bs q. q)) e

  -- what is filled stays so, where it is there
  pub fills_too : (v : Val) → ValOk Ok v → (y : Value) → value_of g env v ≡ Some y
      → fills g env' v ≡ fills g env v
  fills_too (NodeVar x) ok y e = refl
  fills_too (Node' t ws) ok y e = refl
  fills_too (One a) ok y e = refl
  fills_too (Vector ws) ok y e = go (words_of g env ws) refl e
    where
      go : (o : Option (List Datum)) → words_of g env ws ≡ o
          → and_then o (λ ds. Some (words ds)) ≡ Some y
          → is_none_or (words_of g env' ws) (is_filled g) ≡ is_none_or (words_of g env ws)
          (is_filled g)
      go None q e = cc
      go (Some ds) q e = ap (λ o. is_none_or o (is_filled g)) (words_have ws ok ds q ∙ sym q)

  pub node_fills : (v : Val) → ValOk Ok v → (n : Node) → node_of g env v ≡ Some n
      → fills g env' v ≡ fills g env v
  node_fills v ok n e = go (value_of g env v) refl e
    where
      go : (o : Option Value) → value_of g env v ≡ o → and_then o (as_node g) ≡ Some n
          → fills g env' v ≡ fills g env v
      go None q e = cc
      go (Some y) q e = fills_too v ok y q

  pub all_fill_too : (cs : List Cell) → CellsOk Ok cs → (hs : List HeapCell)
      → cells_of g env cs ≡ Some hs → all_fill g env' cs ≡ all_fill g env cs
  all_fill_too [] ok hs e = refl
  all_fill_too (c ∷ cs) ok hs e = here (value_of g env c.val) refl e (all_fill_too cs ok.1)
    where
      more : (y : Value) → value_of g env c.val ≡ Some y → (o : Option (List HeapCell))
          → cells_of g env cs ≡ o → (q : Option HeapCell)
          → and_then q (λ b. and_then o (λ bs. Some (b ∷ bs))) ≡ Some hs
          → ((ks : List HeapCell) → cells_of g env cs ≡ Some ks
          → all_fill g env' cs ≡ all_fill g env cs)
          → all_fill g env' (c ∷ cs) ≡ all_fill g env (c ∷ cs)
      more y k None r None e f = cc
      more y k None r (Some b) e f = cc
      more y k (Some ks) r q e f = λ i. fills_too c.val ok.0 y k i && f ks r i

      here : (o : Option Value) → value_of g env c.val ≡ o
          → and_then
          (and_then (and_then o (as_node g)) (λ n. Some (record { site = c.site.0; node = n })))
          (λ b. and_then (cells_of g env cs) (λ bs. Some (b ∷ bs))) ≡ Some hs
          → ((ks : List HeapCell) → cells_of g env cs ≡ Some ks
          → all_fill g env' cs ≡ all_fill g env cs)
          → all_fill g env' (c ∷ cs) ≡ all_fill g env (c ∷ cs)
      here None k e f = cc
      here (Some y) k e f = more y k (cells_of g env cs) refl _ e f

-- ---- operations

pub same_is : {A : Type 0} {a b : A} → Same a b → b ≡ a
same_is same = refl

-- arguments, results and heaps are the same in both
pub record IsPlain (p : Plan) : Type 0 where
  pub heaps_are : {c c' : List HeapCell} → p.K.Heaps c c' → Same c c'
  pub same_heaps : (c : List HeapCell) → p.K.Heaps c c
  pub args : (f : ℕ) (xs : List Datum) → p.Args f xs xs
  pub results : (f : ℕ) (v v' : Value) → p.Result f v v' → Same v v'

-- over one value in both
abbrev pub On : Relation → Value → Value → Relation
On R v v' c env env' = Same v v' × R c env env'

-- a relation that gives what is there of the variables that are Ok, and goes on where both bind the
-- same
pub record Reading : Type 1 where
  pub R : Relation
  pub Ok : ℕ → Type 0
  pub reads : (c : List HeapCell) (env env' : Env) → R c env env' → Has Ok env env'
  pub more : (c c' : List HeapCell) (bs : List Binding) (env env' : Env) → R c env env'
      → R c' (with_vars bs env) (with_vars bs env')

abbrev pub having : (ℕ → Type 0) → Reading
having Ok = record {
  R = λ c. Has Ok;
  Ok = Ok;
  reads = λ c env env' r. r;
  more
      = λ c c' bs env env' r. vars_have Ok bs env env' r;
}

module _ (s : Setting) (pl : IsPlain s.plan) (rd : Reading) where
  open rd use {R, Ok, reads, more}
  open s use {plan, c, c', back as cb, follow as cf, plan.{looks, K, P, Args, Result, g, procs}}

  heaps_by : (c c' : List HeapCell) → c' ≡ c → K.Heaps c c'
  heaps_by c c' e = subst (K.Heaps c) (sym e) (pl.same_heaps c)

  cells_same : {w : World} (b : Beside K w) → b.cells ≡ w.cells
  cells_same b = same_is (pl.heaps_are b.heaps)

  has : (x : Here plan R) → Has Ok x.env x.env'
  has x = reads x.w.cells x.env x.env' x.related

  abbrev cell_too : (x : Here plan R) (a : Word) → WordOk Ok a → (i : ℕ) (y : HeapCell)
      → and_then (word_of g x.env a) place_of ≡ Some i → slice_get x.w.cells i ≡ Some y
      → CellToo s a x.env' x.b.cells
  cell_too x a ok i y e q = record {
    i' = i;
    y' = y;
    place = then_has (word_of g x.env a) (word_of g x.env' a) place_of place_of i
        (word_has g Ok x.env x.env' (has x) a ok) (λ d q. q) e;
    there = ap (λ c. slice_get c i) (cells_same x.b) ∙ q;
  }

  pub unit_same : (v : Val) → ValOk Ok v → ActFollows s R Same (leaf (unit v)) (leaf (unit v))
  unit_same v ok = unit_follows s v v
      (λ x y e seen. (
        λ l. fills_too g Ok x.env x.env' (has x) v ok y e ∙ seen l,
        y,
        value_has g Ok x.env x.env' (has x) v ok y e,
        same,
      ))

  pub fetch_same : (a : Word) → WordOk Ok a → ActFollows s R Same (leaf (fetch a)) (leaf (fetch a))
  fetch_same a ok = fetch_follows s a a (λ x i y e q. (cell_too x a ok i y e q, same))

  pub fetch_word_same : (a : Word) (k : ℕ) → WordOk Ok a
      → ActFollows s R Same (leaf (fetch_word a k)) (leaf (fetch_word a k))
  fetch_word_same a k ok = fetch_word_follows s a a k k
      (λ x i y e q. (cell_too x a ok i y e q, same))

  pub update_same : (a : Word) (v : Val) → WordOk Ok a → ValOk Ok v
      → ActFollows s R Same (leaf (update a v)) (leaf (update a v))
  update_same a v ok okv = update_follows s a a v v same (λ x i y e q. (
    cell_too x a ok i y e q,
    λ n m seen. record {
      n' = n;
      made = node_has g Ok x.env x.env' (has x) v okv n m;
      seen = λ l. node_fills g Ok x.env x.env' (has x) v okv n m ∙ seen l;
      heaps = heaps_by _ _
          (ap (λ c. slice_set c i (record { site = y.site; node = n })) (cells_same x.b));
    },
  ))

  pub call_same : (f : ProcId) (ws : List Word) → WordsOk Ok ws
      → ActFollows s R Same (leaf (call f ws)) (leaf (call f ws))
  call_same f ws ok = act_more s (leaf (call f ws)) (leaf (call f ws)) (λ c env env' r. r)
      (pl.results f.0)
      (call_follows s f ws ws
      (λ x xs e. (xs, words_have g Ok x.env x.env' (has x) ws ok xs e, pl.args f.0 xs)))

  updated_same : (i : ℕ) {v v' : Value} → Same v v' → (w : World) (b : Beside K w)
      → Sim P K Same (updated g c i v w) (updated g c' i v' (beside b))
  updated_same i (same {a = v}) w b = need_both P K Same (as_node g v) w (beside b) _ _
      (λ n _. need_sim P K Same (slice_get w.cells i) (slice_get b.cells i) w (beside b) _ _
      (λ y q. (
        y,
        ap (λ c. slice_get c i) (cells_same b) ∙ q,
        cond_sim P K Same (is_evaluated g n) _ _ _ _
            (λ _. gives_too (record {
              cells = slice_set b.cells i (record { site = y.site; node = n });
              seen = b.seen;
              depth = b.depth;
              heaps = heaps_by _ _
                  (ap (λ c. slice_set c i (record { site = y.site; node = n })) (cells_same b));
              deep = b.deep;
            }) same) (λ _. free),
      )))

  pub eval_same : (a : Word) → WordOk Ok a → ActFollows s R Same (leaf (eval a)) (leaf (eval a))
  unfolding act_by
  eval_same a ok = record {
    by = λ x. cell_sim s {V = Same} a a x _ _ (λ i y e q. (
      cell_too x a ok i y e q,
      need_both P K Same (slice_get g.tags y.node.tag) x.w (beside x.b) _ _
          (λ t _. cond_sim P K Same (is_fun_kind t.kind) _ _ _ _
          (need_both P K Same t.proc x.w (beside x.b) _ _
          (λ f _. then_sim P K (Result f.0) Same _ _ _ _ (updated_back P g c cb i)
          (cf.by f.0 y.node.fields y.node.fields (suc x.d) (suc x.d') x.w x.b
          (pl.args f.0 y.node.fields) (K.up x.nest))
          (λ v v' w b gave u. updated_same i (pl.results f.0 v v' u) w b)))
          (λ _. gives_too x.b same)),
    ));
  }

  part_same : (d d' : ℕ) (n : Node) (y : Datum) (f r : ℕ) (w : World) (b : Beside K w) → K.Deep d' d
      → Sim P K Same (apply_part g c d n y f r w) (apply_part g c' d' n y f r (beside b))
  part_same d d' n y f zero w b nest = λ _. free
  part_same d d' n y f (suc zero) w b nest = sim_more P K (Result f) Same _ _ (pl.results f)
      (cf.by f (n.fields ++ y ∷ []) (n.fields ++ y ∷ []) d d' w b (pl.args f _) nest)
  part_same d d' n y f (suc (suc r)) w b nest = need_both P K Same (part_from 0 g.tags f (suc r)) w
      (beside b) _ _
      (λ t _. need_both P K Same (made_node g t (n.fields ++ y ∷ [])) w (beside b) _ _
      (λ m _ _. gives_too b same))

  pub apply_same : (v : Val) (a : Word) → ValOk Ok v → WordOk Ok a
      → ActFollows s R Same (leaf (apply v a)) (leaf (apply v a))
  unfolding act_by
  apply_same v a okv ok = record {
    by = λ x. need_sim P K Same (node_of g x.env v) (node_of g x.env' v) x.w (beside x.b) _ _
        (λ n e. (
          n,
          node_has g Ok x.env x.env' (has x) v okv n e,
          need_sim P K Same (word_of g x.env a) (word_of g x.env' a) x.w (beside x.b) _ _ (λ y e'. (
            y,
            word_has g Ok x.env x.env' (has x) a ok y e',
            need_both P K Same (slice_get g.tags n.tag) x.w (beside x.b) _ _
                (λ t _. cond_sim P K Same (is_part_kind t.kind) _ _ _ _
                (need_both P K Same t.proc x.w (beside x.b) _ _
                (λ f _. part_same x.d x.d' n y f.0 t.missing x.w x.b x.nest)) (λ _. stops_too x.b)),
          )),
        ));
  }

  -- an operation without a block follows itself
  pub leaf_follows : (l : Leaf) → ActOk Ok (leaf l) → ActFollows s R Same (leaf l) (leaf l)
  unfolding ActOk
  leaf_follows (unit v) ok = unit_same v ok
  leaf_follows (fetch a) ok = fetch_same a ok
  leaf_follows (fetch_word a k) ok = fetch_word_same a k ok
  leaf_follows (update a v) ok = update_same a v ok.0 ok.1
  leaf_follows (eval a) ok = eval_same a ok
  leaf_follows (apply v a) ok = apply_same v a ok.0 ok.1
  leaf_follows (call f ws) ok = call_same f ws ok
  leaf_follows (prim q a b) ok = prim_follows s q a b a b
      (λ x. word_has g Ok x.env x.env' (has x) a ok.0)
      (λ x. word_has g Ok x.env x.env' (has x) b ok.1) (λ k. same)
  leaf_follows read ok = read_follows s (λ k. same)
  leaf_follows (write a) ok = write_follows s a a (λ x. word_has g Ok x.env x.env' (has x) a ok)
      same
  leaf_follows fail ok = fail_follows s

  -- ---- blocks

  pub store_same : {V : Value → Value → Type 0} (cs : List Cell) (b b' : Code) → CellsOk Ok cs
      → CodeFollows s R V b b' → CodeFollows s R V (store cs b) (store cs b')
  store_same cs b b' ok f = store_follows s cs cs b b' f (λ x y.
      let bs : List Binding = places (length x.w.cells) cs in
      let hold : R (x.w.cells ++ y.hs) (with_vars bs x.env) (with_vars bs x.env')
      = more x.w.cells (x.w.cells ++ y.hs) bs x.env x.env' x.related in
      let had : Has Ok (with_vars bs x.env) (with_vars bs x.env') = reads _ _ _ hold in
      let many : length x.w.cells ≡ length x.b.cells = ap length (sym (cells_same x.b)) in
      record {
        hs' = y.hs;
        cells = subst (λ k. cells_of g (with_vars (places k cs) x.env') cs ≡ Some y.hs) many
            (cells_have g Ok (with_vars bs x.env) (with_vars bs x.env') had cs ok y.hs y.cells);
        seen = λ l. subst (λ k. all_fill g (with_vars (places k cs) x.env') cs ≡ true) many
            (all_fill_too g Ok (with_vars bs x.env) (with_vars bs x.env') had cs ok y.hs y.cells ∙
            y.seen l);
        heaps = heaps_by _ _ (ap (λ c. c ++ y.hs) (cells_same x.b));
        related = subst
            (λ k. R (x.w.cells ++ y.hs) (with_vars bs x.env) (with_vars (places k cs) x.env')) many
            hold;
      })

  -- what is bound is the same, where the second operation is looked at no harder than the first
  pub bind_same : {V : Value → Value → Type 0} (t : Target) (o o' : Act) (b b' : Code)
      → ((v : Value) → Seen looks (is_bound_well g t o v) → Seen looks (is_bound_well g t o' v))
      → ActFollows s R Same o o' → CodeFollows s R V b b'
      → CodeFollows s R V (bind t o b) (bind t o' b')
  bind_same t o o' b b' seen f k = bind_follows s t t o o' b b' f k
      (λ x y. on x y.w.cells y.bs y.values y.seen y.binds)
    where
      on : (x : Here plan R) (cells : List HeapCell) (bs : List Binding) {v v' : Value} → Same v v'
          → Seen looks (is_bound_well g t o v) → bindings_of g t v ≡ Some bs
          → BindsToo s R t o' x.env x.env' cells v' bs
      on x cells bs (same {a = v}) l e = record {
        seen = seen v l;
        bs' = bs;
        binds = e;
        related
            = more x.w.cells cells bs x.env x.env' x.related;
      }

  pub case_same : {V : Value → Value → Type 0} (v : Val) (as' bs' : Arms) → ValOk Ok v
      → ArmsFollow s (On R) V as' bs' → ActFollows s R V (case v as') (case v bs')
  case_same v as' bs' ok f = case_follows s v v as' bs' f
      (λ x y e. (y, value_has g Ok x.env x.env' (has x) v ok y e, (same, x.related)))

  pub no_arm_same : {V : Value → Value → Type 0} → ArmsFollow s (On R) V no_arm no_arm
  no_arm_same = no_arm_follows s no_arm

  pub arm_same : {V : Value → Value → Type 0} (q : Shape) (b b' : Code) (as' bs' : Arms)
      → CodeFollows s R V b b' → ArmsFollow s (On R) V as' bs'
      → ArmsFollow s (On R) V (arm q b as') (arm q b' bs')
  arm_same q b b' as' bs' f k = arm_follows s q q b b' as' bs' f k
      (λ v v' x bs e known. on x.w.cells x.env x.env' bs x.related.0 x.related.1 e)
      (λ v v' x e. (sym (ap (fit_of g q) (sym (same_is x.related.0))) ∙ e, x.related))
    where
      on : (cells : List HeapCell) (env env' : Env) (bs : List Binding) {v v' : Value} → Same v v'
          → R cells env env' → fit_of g q v ≡ fits bs → FitsToo s R q env env' cells v' bs
      on cells env env' bs same r e = record
          { bs' = bs; fit = e; related = more cells cells bs env env' r }
