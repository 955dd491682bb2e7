-- Programs whose variables, values and calls are the same: each operation follows itself.
use Rattle.std.proofs.Common.{◌≡◌, ℕ, zero, suc, List, [], ◌∷◌, ◌++◌, length, Bool, true, false, cond, nat_eq, Option, Some, slice_get, refl, ap}
use Rattle.grin_syntax.specs.declared.program.Cell.{Cell}
use Rattle.grin_syntax.specs.declared.program.Shape.{Shape}
use Rattle.grin_syntax.specs.declared.program.Target.{Target}
use Rattle.grin_syntax.specs.declared.program.PrimOp.{PrimOp}
use Rattle.grin_syntax.specs.declared.program.ProcId.{ProcId}
use Rattle.grin_syntax.specs.declared.program.Val.{Val}
use Rattle.grin_syntax.specs.declared.program.Val.TheVariants.{NodeVar, Node as Node', Vector, One}
use Rattle.grin_syntax.specs.declared.program.Word.{Word}
use Rattle.grin_syntax.specs.declared.program.Word.TheVariants.{Lit, Var, Global, TagWord}
use Rattle.grin_syntax.specs.Tree.{Code, end, store, bind, Act, Leaf, leaf, unit, fetch, fetch_word, update, eval, apply, call, prim, read, write, case, nested, fail, Arms, no_arm, arm, Procedure, Program}
use Rattle.grin_meaning.specs.Values.{Datum, number, gives, Node, Value, node, words, Env, State, World, Answer, then_do, need, and_then, Binding, with_vars, MatchOutcome, fits, fits_not, unclear, fit_of, as_node, made_node, word_of, words_of, value_of, node_of, only_word, bindings_of}
use Rattle.grin_meaning.specs.Run.{Calls, act, code, arms, choose, byte_or_end, after_read, with_state_seen, places, cells_of, with_cells, place_of, number_of, apply_arithmetic, eval_cell, updated, apply_part, is_fun_kind, is_part_kind, is_evaluated, part_from}
use Rattle.grin_meaning.specs.Follows.{DepthComparison, other, Same, same, free, gives_too, stops_too}
use Rattle.grin_meaning.specs.Names.{WordOk, WordsOk, ValOk, CellsOk, ActOk}
use Rattle.grin_meaning.proofs.Back.{Back, need_back, CallsBack, code_back, updated_back, every_front}
use Rattle.grin_meaning.proofs.Related as related
use Rattle.grin_meaning.proofs.Related.{CallsFollow, Setting, ActFollows, CodeFollows, ArmsFollow}

-- the second environment has what the first has for the variables that matter
abbrev pub Agree : (ℕ → Type 0) → Env → Env → Type 0
Agree Ok env env' = (x : ℕ) → Ok x → env' x ≡ env x

vars_agree_one : (y : ℕ) (b : Binding) (env env' : Env) (t : Bool) → env' y ≡ env y
    → cond t (Some b.1) (env' y) ≡ cond t (Some b.1) (env y)
vars_agree_one y b env env' true h = refl
vars_agree_one y b env env' false h = h

pub vars_agree : (Ok : ℕ → Type 0) (bs : List Binding) (env env' : Env) → Agree Ok env env'
    → Agree Ok (with_vars bs env) (with_vars bs env')
vars_agree Ok [] env env' h = h
vars_agree Ok (b ∷ bs) env env' h = vars_agree Ok bs _ _
    (λ y k. vars_agree_one y b env env' (nat_eq y b.0) (h y k))

module _ (g : Program) (Ok : ℕ → Type 0) (env env' : Env) (agree : Agree Ok env env') where
  pub word_same : (a : Word) → WordOk Ok a → word_of g env' a ≡ word_of g env a
  word_same (Lit k) h = refl
  word_same (Var x) h = ap (λ o. and_then o only_word) (agree x.0 h)
  word_same (Global i) h = refl
  word_same (TagWord t) h = refl

  pub words_same : (ws : List Word) → WordsOk Ok ws → words_of g env' ws ≡ words_of g env ws
  words_same [] h = refl
  words_same (a ∷ ws) h = λ i. and_then (word_same a h.0 i)
      (λ b. and_then (words_same ws h.1 i) (λ bs. Some (b ∷ bs)))

  pub value_same : (v : Val) → ValOk Ok v → value_of g env' v ≡ value_of g env v
  value_same (NodeVar x) h = agree x.0 h
  value_same (Node' t ws) h = λ i. and_then (words_same ws h i)
      (λ ds. and_then (made_node g t.0 ds) (λ n. Some (node n)))
  value_same (Vector ws) h = λ i. and_then (words_same ws h i) (λ ds. Some (words ds))
  value_same (One a) h = λ i. and_then (word_same a h i) (λ d. Some (words (d ∷ [])))

  pub node_same : (v : Val) → ValOk Ok v → node_of g env' v ≡ node_of g env v
  node_same v h = λ i. and_then (value_same v h i) (as_node g)

  pub cells_same : (cs : List Cell) → CellsOk Ok cs → cells_of g env' cs ≡ cells_of g env cs
  cells_same [] h = refl
  cells_same (c ∷ cs) h = λ i. and_then
      (and_then (node_same c.val h.0 i) (λ n. Some (record { site = c.site.0; node = n })))
      (λ b. and_then (cells_same cs h.1 i) (λ bs. Some (b ∷ bs)))

abbrev pub same_args : ℕ → List Datum → List Datum → Type 0
same_args f = Same

abbrev pub same_result : ℕ → Value → Value → Type 0
same_result f = Same

-- the variables that matter beside what a setting has
pub record Plain : Type 1 where
  pub P : State → Type 0
  pub K : DepthComparison
  pub Ok : ℕ → Type 0
  pub g : Program
  pub procs : List Procedure
  pub c : Calls
  pub c' : Calls
  pub back : CallsBack P c
  pub follow : CallsFollow P K same_args same_result c c'

abbrev pub setting : Plain → Setting
setting s = record {
  P = s.P;
  K = s.K;
  Args = same_args;
  Result = same_result;
  g = s.g;
  procs = s.procs;
  c
      = s.c;
  c' = s.c';
  back = s.back;
  follow = s.follow;
}

module _ (P : State → Type 0) (K : DepthComparison) where
  abbrev pub Sim : Answer → Answer → Type 0
  Sim = related.Sim P K Same

  pub need_sim : {A : Type 0} (o : Option A) (w w' : World) (k k' : A → Answer)
      → ((a : A) → Sim (k a) (k' a)) → Sim (need o w k) (need o w' k')
  need_sim = related.need_sim P K Same

  pub cond_sim : (b : Bool) (x y x' y' : Answer) → Sim x x' → Sim y y'
      → Sim (cond b x y) (cond b x' y')
  cond_sim = related.cond_sim P K Same

  pub choose_sim : (f : MatchOutcome) (w w' : World) (k k' : List Binding → Answer) (x x' : Answer)
      → ((bs : List Binding) → Sim (k bs) (k' bs)) → Sim x x'
      → Sim (choose f w k x) (choose f w' k' x')
  choose_sim (fits bs) w w' k k' x x' h hx = h bs
  choose_sim fits_not w w' k k' x x' h hx = hx
  choose_sim unclear w w' k k' x x' h hx = λ _. free

  as_same : {v v' : Value} (k k' : Value → World → Answer) (w : World) (ss : List State) (e : ℕ)
      → Same v v' → Sim (k v w) (k' v (other w ss e)) → Sim (k v w) (k' v' (other w ss e))
  as_same k k' w ss e same h = h

  pub then_sim : (a a' : Answer) (k k' : Value → World → Answer)
      → ((v : Value) (w : World) → Back P w (k v w)) → Sim a a'
      → ((v : Value) (w : World) (ss : List State) (e : ℕ) → K.Deep e w.depth
      → Sim (k v w) (k' v (other w ss e))) → Sim (then_do a k) (then_do a' k')
  then_sim a a' k k' b s h = related.then_sim P K Same Same a a' k k' b s
      (λ v v' w ss e u de. as_same k k' w ss e u (h v w ss e de))

module _ (s : Plain) where
  open s use {P, K, Ok, g, procs, c, c', back as cb, follow as cf}

  abbrev pub after : Program
  after = record g { procs = procs }

  abbrev pub ActLike : Act → Act → Type 0
  ActLike = ActFollows (setting s) (Agree Ok) Same

  abbrev pub CodeLike : Code → Code → Type 0
  CodeLike = CodeFollows (setting s) (Agree Ok) Same

  abbrev pub ArmsLike : Arms → Arms → Type 0
  ArmsLike = ArmsFollow (setting s) (Agree Ok) Same Same

  pub enter : (b b' : Code) → CodeLike b b' → (env env' : Env) (d d' : ℕ) (w : World)
      (ss : List State) (e : ℕ) → Agree Ok env env' → K.Deep d' d → K.Deep e w.depth
      → Sim P K (code g c env d b (with_state_seen env w))
      (code after c' env' d' b' (with_state_seen env' (other w ss e)))
  enter b b' f = related.enter (setting s) (Agree Ok) Same b b' f

  pub unit_follows : (v : Val) → ValOk Ok v → ActLike (leaf (unit v)) (leaf (unit v))
  unfolding act
  unit_follows v h = record {
    by = λ env env' d d' w ss e ag dd de at. rw (value_same g Ok env env' ag v h)
        (need_sim P K (value_of g env v) w (other w ss e) _ _ (λ x _. gives_too ss e same de));
  }

  pub fetch_follows : (a : Word) → WordOk Ok a → ActLike (leaf (fetch a)) (leaf (fetch a))
  unfolding act
  fetch_follows a h = record {
    by = λ env env' d d' w ss e ag dd de at. rw (word_same g Ok env env' ag a h)
        (need_sim P K (and_then (word_of g env a) place_of) w (other w ss e) _ _
        (λ i. need_sim P K (slice_get w.cells i) w (other w ss e) _ _
        (λ x _. gives_too ss e same de)));
  }

  pub fetch_word_follows : (a : Word) (k : ℕ) → WordOk Ok a
      → ActLike (leaf (fetch_word a k)) (leaf (fetch_word a k))
  unfolding act
  fetch_word_follows a k h = record {
    by = λ env env' d d' w ss e ag dd de at. rw (word_same g Ok env env' ag a h)
        (need_sim P K (and_then (word_of g env a) place_of) w (other w ss e) _ _
        (λ i. need_sim P K (slice_get w.cells i) w (other w ss e) _ _
        (λ x _. gives_too ss e same de)));
  }

  pub update_follows : (a : Word) (v : Val) → WordOk Ok a → ValOk Ok v
      → ActLike (leaf (update a v)) (leaf (update a v))
  unfolding act
  update_follows a v h k = record {
    by = λ env env' d d' w ss e ag dd de at.
        rw (word_same g Ok env env' ag a h, node_same g Ok env env' ag v k)
        (need_sim P K (and_then (word_of g env a) place_of) w (other w ss e) _ _
        (λ i. need_sim P K (slice_get w.cells i) w (other w ss e) _ _ (λ x.
        need_sim P K (node_of g env v) w (other w ss e) _ _ (λ n _. gives_too ss e same de))));
  }

  updated_sim : (a : ℕ) (v : Value) (w : World) (ss : List State) (e : ℕ) → K.Deep e w.depth
      → Sim P K (updated g c a v w) (updated after c' a v (other w ss e))
  updated_sim a v w ss e de = need_sim P K (as_node g v) w (other w ss e) _ _
      (λ n. need_sim P K (slice_get w.cells a) w (other w ss e) _ _ (λ x.
      cond_sim P K (is_evaluated g n) _ _ _ _ (λ _. gives_too ss e same de) (λ _. free)))

  pub call_follows : (f : ProcId) (ws : List Word) → WordsOk Ok ws
      → ActLike (leaf (call f ws)) (leaf (call f ws))
  unfolding act
  call_follows f ws h = record {
    by = λ env env' d d' w ss e ag dd de at. rw (words_same g Ok env env' ag ws h)
        (need_sim P K (words_of g env ws) w (other w ss e) _ _
        (λ xs. cf.by f.0 xs xs d d' w ss e same dd de));
  }

  pub prim_follows : (f : PrimOp) (a b : Word) → WordOk Ok a → WordOk Ok b
      → ActLike (leaf (prim f a b)) (leaf (prim f a b))
  unfolding act
  prim_follows f a b h k = record {
    by = λ env env' d d' w ss e ag dd de at.
        rw (word_same g Ok env env' ag a h, word_same g Ok env env' ag b k)
        (need_sim P K (word_of g env a) w (other w ss e) _ _
        (λ x. need_sim P K (word_of g env b) w (other w ss e) _ _ (λ y.
        need_sim P K (apply_arithmetic f x y) w (other w ss e) _ _
        (λ v _. gives_too ss e same de))));
  }

  read_sim : (i : List ℕ) (w : World) (ss : List State) (e : ℕ) → K.Deep e w.depth
      → Sim P K (gives (words (number (byte_or_end i) ∷ [])) (after_read i w))
      (gives (words (number (byte_or_end i) ∷ [])) (after_read i (other w ss e)))
  read_sim [] w ss e de = λ _. gives_too ss e same de
  read_sim (k ∷ rest) w ss e de = λ _. gives_too ss e same de

  pub read_follows : ActLike (leaf read) (leaf read)
  unfolding act
  read_follows = record { by = λ env env' d d' w ss e ag dd de at. read_sim w.input w ss e de }

  pub write_follows : (a : Word) → WordOk Ok a → ActLike (leaf (write a)) (leaf (write a))
  unfolding act
  write_follows a h = record {
    by = λ env env' d d' w ss e ag dd de at. rw (word_same g Ok env env' ag a h)
        (need_sim P K (and_then (word_of g env a) number_of) w (other w ss e) _ _
        (λ k _. gives_too ss e same de));
  }

  pub fail_follows : ActLike (leaf fail) (leaf fail)
  unfolding act
  fail_follows = record { by = λ env env' d d' w ss e ag dd de at _. stops_too ss e de }

  part_sim : (d d' : ℕ) (n : Node) (x : Datum) (f r : ℕ) (w : World) (ss : List State) (e : ℕ)
      → K.Deep d' d → K.Deep e w.depth → Sim P K (apply_part g c d n x f r w)
      (apply_part after c' d' n x f r (other w ss e))
  part_sim d d' n x f zero w ss e dd de = λ _. free
  part_sim d d' n x f (suc zero) w ss e dd de = cf.by f (n.fields ++ x ∷ []) (n.fields ++ x ∷ []) d
      d' w ss e same dd de
  part_sim d d' n x f (suc (suc r)) w ss e dd de = need_sim P K (part_from 0 g.tags f (suc r)) w
      (other w ss e) _ _
      (λ t. need_sim P K (made_node g t (n.fields ++ x ∷ [])) w (other w ss e) _ _
      (λ m _. gives_too ss e same de))

  pub apply_follows : (v : Val) (a : Word) → ValOk Ok v → WordOk Ok a
      → ActLike (leaf (apply v a)) (leaf (apply v a))
  unfolding act
  apply_follows v a h k = record {
    by = λ env env' d d' w ss e ag dd de at.
        rw (node_same g Ok env env' ag v h, word_same g Ok env env' ag a k)
        (need_sim P K (node_of g env v) w (other w ss e) _ _
        (λ n. need_sim P K (word_of g env a) w (other w ss e) _ _ (λ x.
        need_sim P K (slice_get g.tags n.tag) w (other w ss e) _ _
        (λ t. cond_sim P K (is_part_kind t.kind) _ _ _ _
        (need_sim P K t.proc w (other w ss e) _ _
        (λ f. part_sim d d' n x f.0 t.missing w ss e dd de)) (λ _. stops_too ss e de)))));
  }

  eval_sim : (d d' a : ℕ) (w : World) (ss : List State) (e : ℕ) → K.Deep d' d → K.Deep e w.depth
      → Sim P K (eval_cell g c d a w) (eval_cell after c' d' a (other w ss e))
  eval_sim d d' a w ss e dd de = need_sim P K (slice_get w.cells a) w (other w ss e) _ _
      (λ x. need_sim P K (slice_get g.tags x.node.tag) w (other w ss e) _ _ (λ t.
      cond_sim P K (is_fun_kind t.kind) _ _ _ _
      (need_sim P K t.proc w (other w ss e) _ _
      (λ f. then_sim P K (c f.0 x.node.fields (suc d) w) _ _ _ (updated_back P g c cb a)
      (cf.by f.0 x.node.fields x.node.fields (suc d) (suc d') w ss e same (K.up dd) de)
      (updated_sim a)))
      (λ _. gives_too ss e same de)))

  pub eval_follows : (a : Word) → WordOk Ok a → ActLike (leaf (eval a)) (leaf (eval a))
  unfolding act
  eval_follows a h = record {
    by = λ env env' d d' w ss e ag dd de at. rw (word_same g Ok env env' ag a h)
        (need_sim P K (and_then (word_of g env a) place_of) w (other w ss e) _ _
        (λ i. eval_sim d d' i w ss e dd de));
  }

  pub case_follows : (v : Val) (as' bs' : Arms) → ValOk Ok v → ArmsLike as' bs'
      → ActLike (case v as') (case v bs')
  unfolding act
  case_follows v as' bs' h f = record {
    by = λ env env' d d' w ss e ag dd de at. rw (value_same g Ok env env' ag v h)
        (need_sim P K (value_of g env v) w (other w ss e) _ _
        (λ x. f.by env env' d d' x x w ss e same ag dd de at));
  }

  pub nested_follows : (b b' : Code) → CodeLike b b' → ActLike (nested b) (nested b')
  unfolding act
  nested_follows b b' f = record
      { by = λ env env' d d' w ss e ag dd de at. f.by env env' d d' w ss e ag dd de at }

  pub end_follows : (o o' : Act) → ActLike o o' → CodeLike (end o) (end o')
  unfolding act
  end_follows o o' f = record
      { by = λ env env' d d' w ss e ag dd de at. f.by env env' d d' w ss e ag dd de at }

  pub store_follows : (cs : List Cell) (b b' : Code) → CellsOk Ok cs → CodeLike b b'
      → CodeLike (store cs b) (store cs b')
  unfolding act
  store_follows cs b b' h f = record {
    by = λ env env' d d' w ss e ag dd de at.
        let bs = places (length w.cells) cs in
        let ag' = vars_agree Ok bs env env' ag in
        rw (cells_same g Ok (with_vars bs env) (with_vars bs env') ag' cs h)
        (need_sim P K (cells_of g (with_vars bs env) cs) w (other w ss e) _ _
        (λ hs. enter b b' f (with_vars bs env) (with_vars bs env') d d' (with_cells hs w) ss e
        ag' dd de));
  }

  pub bind_follows : (t : Target) (o o' : Act) (b b' : Code) → ActLike o o' → CodeLike b b'
      → CodeLike (bind t o b) (bind t o' b')
  unfolding act
  bind_follows t o o' b b' f k = record {
    by = λ env env' d d' w ss e ag dd de at.
        then_sim P K _ _ _ _
        (λ v w'. need_back P (bindings_of g t v) w' _
        (λ bs all. every_front P w'.seen _
        (code_back P g c cb (with_vars bs env) d b (with_state_seen (with_vars bs env) w')
        all)))
        (f.by env env' (suc d) (suc d') w ss e ag (K.up dd) de at)
        (λ v w' ss' e' de'. need_sim P K (bindings_of g t v) w' (other w' ss' e') _ _
        (λ bs. enter b b' k (with_vars bs env) (with_vars bs env') d d' w' ss' e'
        (vars_agree Ok bs env env' ag) dd de'));
  }

  pub no_arm_follows : ArmsLike no_arm no_arm
  no_arm_follows = related.no_arm_follows (setting s) (Agree Ok) Same Same no_arm

  pub arm_follows : (p : Shape) (b b' : Code) (as' bs' : Arms) → CodeLike b b' → ArmsLike as' bs'
      → ArmsLike (arm p b as') (arm p b' bs')
  unfolding act
  arm_follows p b b' as' bs' f k = record
      { by = λ env env' d d' v v' w ss e u ag dd de at. on_one u env env' d d' w ss e ag dd de at }
    where
      on_one : {v v' : Value} → Same v v' → (env env' : Env) (d d' : ℕ) (w : World)
          (ss : List State) (e : ℕ) → Agree Ok env env' → K.Deep d' d → K.Deep e w.depth
          → P (record { env = env; heap = w.cells })
          → Sim P K (arms g c env d v (arm p b as') w)
          (arms after c' env' d' v' (arm p b' bs') (other w ss e))
      on_one (same {a = v}) env env' d d' w ss e ag dd de at =
          choose_sim P K (fit_of g p v) w (other w ss e) _ _ _ _
          (λ bs. enter b b' f (with_vars bs env) (with_vars bs env') d d' w ss e
          (vars_agree Ok bs env env' ag) dd de)
          (k.by env env' d d' v v w ss e same ag dd de at)

  pub leaf_follows : (l : Leaf) → ActOk Ok (leaf l) → ActLike (leaf l) (leaf l)
  unfolding ActOk
  leaf_follows (unit v) h = unit_follows v h
  leaf_follows (fetch a) h = fetch_follows a h
  leaf_follows (fetch_word a i) h = fetch_word_follows a i h
  leaf_follows (update a v) h = update_follows a v h.0 h.1
  leaf_follows (eval a) h = eval_follows a h
  leaf_follows (apply v a) h = apply_follows v a h.0 h.1
  leaf_follows (call f ws) h = call_follows f ws h
  leaf_follows (prim f a b) h = prim_follows f a b h.0 h.1
  leaf_follows read h = read_follows
  leaf_follows (write a) h = write_follows a h
  leaf_follows fail h = fail_follows
