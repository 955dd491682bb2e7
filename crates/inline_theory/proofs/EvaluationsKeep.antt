-- Inlined evaluations do what the evaluations do.
--
-- The solution covers the run, so the tag of the cell is one of those in the case. The alternative
-- of that tag does what `eval` or `apply` would have done.
use Rattle.std.proofs.Common.{◌≡◌, ℕ, suc, ◌<◌, ◌≤◌, ◌+◌, Bool, true, false, cond, List, [], ◌∷◌, map, Option, Some, None, slice_get, refl, sym, ap, ◌∙◌, subst, arith}
use Rattle.seq.proofs.Order.{eq_self}
use Rattle.grin_syntax.specs.declared.program.ProcId.{ProcId}
use Rattle.grin_syntax.specs.declared.program.Word.{Word}
use Rattle.grin_syntax.specs.declared.program.Word.TheVariants.{Var}
use Rattle.grin_syntax.specs.declared.program.Val.TheVariants.{NodeVar}
use Rattle.grin_syntax.specs.declared.program.Target.TheVariants.{Nothing, Node as NodeTarget}
use Rattle.grin_syntax.specs.Tree.{Code, end, bind, Leaf, leaf, unit, fetch, update, eval, Procedure, Program}
use Rattle.grin_syntax.specs.Fresh.{variable as var, variables as names, past_procs}
use Rattle.grin_meaning.specs.Values.{Datum, Node, Value, node, HeapCell, Env, State, World, Answer, gives, then_do, need, and_then, with_vars, as_node, word_of, words_of, bindings_of}
use Rattle.grin_meaning.specs.Run.{Calls, act, code, arms, with_state_seen, place_of, eval_tag, updated, is_fun_kind, is_evaluated}
use Rattle.grin_meaning.specs.Follows.{DepthComparison, other, same, free, gives_too}
use Rattle.grin_meaning.specs.Names.{WordOk, ActOk}
use Rattle.grin_meaning.proofs.Back.{CallsBack, every_front, code_back, need_back, updated_back}
use Rattle.grin_meaning.proofs.Alike.{Agree, vars_agree, word_same, Sim, need_sim, then_sim, Plain as Setting, same_args, same_result, enter, leaf_follows}
use Rattle.grin_meaning.proofs.Related.{CallsFollow}
use Rattle.grin_meaning.proofs.Simulated.{plain, bodies_keep, no_deeper}
use Rattle.flow_system.specs.Solution.{Solution}
use Rattle.flow_system.specs.Covers.{StateIsCovered}
use Rattle.grin_rewrite.proofs.CountedSides.{Stands, alone, procs_like}
use Rattle.grin_rewrite.proofs.Opened.{names_stand, agree_named, Entered, entered}
use Rattle.inline_theory.specs.Evaluations.{call_body, eval_opening, eval_arms, evaluation, eval_before, eval_becomes, eval_rule, tags_of, eval_inlined}
use Rattle.flow_system.proofs.Covered.{covers}
use Rattle.inline_theory.specs.Laws.{EvalInliningKeeps}
use Rattle.inline_theory.proofs.CellTags.{Known, cell_known}
use Rattle.grin_meaning.proofs.Bindings.{named, nat_eq-below, named_below}

-- x0 is the first variable that g does not have
module _ (K : DepthComparison) (g : Program) (A : Solution) (x0 : ℕ) (procs : List Procedure)
    (c c' : Calls) (cb : CallsBack (StateIsCovered g A) c)
    (cf : CallsFollow (StateIsCovered g A) K same_args same_result c c') where
  abbrev pub P : State → Type 0
  P = StateIsCovered g A

  abbrev pub Ok : ℕ → Type 0
  Ok y = y < x0

  abbrev pub it : Setting
  it = plain (StateIsCovered g A) K (λ y. y < x0) g procs c c' cb cf

  abbrev pub h : Program
  h = record g { procs = procs }

  -- a further variable changes none of the program's
  agree_one : (env env' : Env) (y : ℕ) (v : Value) → x0 ≤ y → Agree Ok env env'
      → Agree Ok env (with_vars ((y, v) ∷ []) env')
  agree_one env env' y v le ag z lt = ap (λ t. cond t (Some v) (env' z))
      (nat_eq-below y z (omega arith)) ∙ ag z lt

  has_one : (env : Env) (y : ℕ) (v : Value) → with_vars ((y, v) ∷ []) env y ≡ Some v
  has_one env y v = ap (λ t. cond t (Some v) (env y)) (eq_self y)

  -- a variable that gives its node
  unit_gives : (env : Env) (d y : ℕ) (n : Node) (w : World) → env y ≡ Some (node n)
      → code h c' env d (end (leaf (unit (NodeVar (var y))))) w ≡ gives (node n) w
  unfolding act
  unit_gives env d y n w e = λ i. need (e i) w (λ v. gives v w)

  either_sim : (b : Bool) (y z y' : Answer) → Sim P K y y' → Sim P K z y' → Sim P K (cond b y z) y'
  either_sim true y z y' hy hz = hy
  either_sim false y z y' hy hz = hz

  -- update the cell, and give the result, which the variable r has
  update_sim : (a : Word) (i r : ℕ) (n : Node) (env env' : Env) (d : ℕ) (w : World)
      (ss : List State) (e : ℕ) → WordOk Ok a → Agree Ok env env'
      → and_then (word_of g env a) place_of ≡ Some i
      → env' r ≡ Some (node n) → K.Deep e w.depth
      → Sim P K (updated g c i (node n) w)
      (code h c' env' d
      (bind Nothing (leaf (update a (NodeVar (var r)))) (end (leaf (unit (NodeVar (var r))))))
      (other w ss e))
  unfolding act
  update_sim a i r n env env' d w ss e ok ag at has de = go (slice_get w.cells i) refl
    where
      place : and_then (word_of h env' a) place_of ≡ Some i
      place = ap (λ o. and_then o place_of) (word_same g Ok env env' ag a ok) ∙ at

      go : (o : Option HeapCell) → slice_get w.cells i ≡ o
          → Sim P K (updated g c i (node n) w)
          (code h c' env' d
          (bind Nothing (leaf (update a (NodeVar (var r))))
          (end (leaf (unit (NodeVar (var r)))))) (other w ss e))
      go None q = rw q (λ _. free)
      go (Some k) q = rw (place, q, has, has)
          (either_sim (is_evaluated g n) _ _ _ (λ _. gives_too _ e same de) (λ _. free))

  -- call, update, give
  call_sim : (a : Word) (i y k : ℕ) (ds : List Datum) (q : ProcId) (env env' : Env) (d d' : ℕ)
      (w : World) (ss : List State) (e : ℕ) → x0 ≤ y → WordOk Ok a → Agree Ok env env'
      → and_then (word_of g env a) place_of ≡ Some i
      → words_of g env' (map Var (names y k)) ≡ Some ds → K.Deep d' d → K.Deep e w.depth
      → Sim P K (then_do (c q.0 ds (suc d) w) (updated g c i))
      (code h c' env' d' (call_body g A a y k (Some q)) (other w ss e))
  unfolding act
  call_sim a i y k ds q env env' d d' w ss e fresh ok ag at stand dd de =
      rw stand (then_sim P K (c q.0 ds (suc d) w) _ _ _ (updated_back P g c cb i)
      (cf.by q.0 ds ds (suc d) (suc d') w ss e same (K.up dd) de)
      (λ v w' ss' e' de'. on_result v w' ss' e' de' (as_node g v) refl))
    where
      on_result : (v : Value) (w' : World) (ss' : List State) (e' : ℕ) → K.Deep e' w'.depth
          → (o : Option Node) → as_node g v ≡ o
          → Sim P K (updated g c i v w')
          (need (bindings_of h (NodeTarget (var (y + k))) v) (other w' ss' e')
          (λ bs. code h c' (with_vars bs env') d'
          (bind Nothing (leaf (update a (NodeVar (var (y + k)))))
          (end (leaf (unit (NodeVar (var (y + k)))))))
          (with_state_seen (with_vars bs env') (other w' ss' e'))))
      on_result v w' ss' e' de' None q = rw q (λ _. free)
      on_result v w' ss' e' de' (Some n) q = rw q
          (update_sim a i (y + k) n env (with_vars ((y + k, node n) ∷ []) env') d' w' _ e' ok
          (agree_one env env' (y + k) (node n) (omega arith) ag) at (has_one env' (y + k) (node n))
          de')

  -- the alternative of the node's tag
  arm_sim : (a : Word) (i x y k : ℕ) (n : Node) (env env' : Env) (d d' : ℕ) (w : World)
      (ss : List State) (e : ℕ) → x0 ≤ y → WordOk Ok a → Agree Ok env env'
      → and_then (word_of g env a) place_of ≡ Some i
      → env' x ≡ Some (node n) → words_of g env' (map Var (names y k)) ≡ Some n.fields → K.Deep d' d
      → K.Deep e w.depth
      → (b : Bool) (o : Option ProcId)
      → Sim P K
      (cond b (need o w (λ q. then_do (c q.0 n.fields (suc d) w) (updated g c i)))
      (gives (node n) w))
      (code h c' env' d' (cond b (call_body g A a y k o) (end (leaf (unit (NodeVar (var x))))))
      (other w ss e))
  arm_sim a i x y k n env env' d d' w ss e fresh ok ag at has stand dd de false o
      = rw (unit_gives env' d' x n (other w ss e) has) (λ _. gives_too ss e same de)
  arm_sim a i x y k n env env' d d' w ss e fresh ok ag at has stand dd de true None = λ _. free
  arm_sim a i x y k n env env' d d' w ss e fresh ok ag at has stand dd de true (Some q)
      = call_sim a i y k n.fields q env env' d d' w ss e fresh ok ag at stand dd de

  -- the case in place of the evaluation
  case_sim : (a : Word) (i x : ℕ) (n : Node) (env env' : Env) (d d' : ℕ) (w : World)
      (ss : List State) (e : ℕ) → x0 ≤ x → WordOk Ok a → Agree Ok env env'
      → and_then (word_of g env a) place_of ≡ Some i
      → Known g.tags (tags_of g A a) n → env' x ≡ Some (node n) → K.Deep d' d → K.Deep e w.depth
      → Sim P K (need (slice_get g.tags n.tag) w (λ t. eval_tag g c d i n t w))
      (act h c' env' d' (evaluation g A x a) (other w ss e))
  unfolding act
  case_sim a i x n env env' d d' w ss e fresh ok ag at known has dd de =
      rw (known.is_tag, has)
      (go (entered h c' false g.tags (eval_opening g A a x) env' d' (node n) n refl known.tag
      known.is_tag known.full (tags_of g A a) (suc x) (other w ss e) known.among))
    where
      go : Entered h c' false g.tags (eval_opening g A a x) env' d' (node n) n refl known.tag
          (suc x) (tags_of g A a) (other w ss e)
          → Sim P K (eval_tag g c d i n known.tag w)
          (arms h c' env' d' (node n) (eval_arms g A a x (suc x) (tags_of g A a))
          (other w ss e))
      go en =
          let lt : suc x ≤ en.from = en.later in
          subst (Sim P K (eval_tag g c d i n known.tag w)) (sym en.is)
          (arm_sim a i x en.from known.tag.fields n env (with_vars (named en.from n.fields) env') d
          d' w _ e (omega arith) ok (agree_named x0 env env' en.from n.fields (omega arith) ag)
          at
          (named_below en.from n.fields env' x (omega arith) ∙ has)
          (subst (λ k. words_of g (with_vars (named en.from n.fields) env')
          (map Var (names en.from k)) ≡ Some n.fields) known.full
          (names_stand g en.from n.fields env')) dd de (is_fun_kind known.tag.kind)
          known.tag.proc)

  -- the fetch before it
  fetched : (x : ℕ) (a : Word) (b : Code) (i : ℕ) (k : HeapCell) (env env' : Env) (d' : ℕ)
      (w : World) (ss : List State) (e : ℕ) → WordOk Ok a → Agree Ok env env'
      → and_then (word_of g env a) place_of ≡ Some i → slice_get w.cells i ≡ Some k
      → code h c' env' d' (bind (NodeTarget (var x)) (leaf (fetch a)) b) (other w ss e) ≡ code h c'
      (with_vars ((x, node k.node) ∷ []) env') d' b
      (with_state_seen (with_vars ((x, node k.node) ∷ []) env') (other w ss e))
  unfolding act
  fetched x a b i k env env' d' w ss e ok ag q p =
      let place : and_then (word_of h env' a) place_of ≡ Some i
      = ap (λ o. and_then o place_of) (word_same g Ok env env' ag a ok) ∙ q in
      rw (place, p) refl

  needed : {X : Type 0} (o : Option X) (w : World) (f : X → Answer) (y : Answer)
      → ((x : X) → o ≡ Some x → Sim P K (f x) y) → Sim P K (need o w f) y
  needed None w f y m = λ _. free
  needed (Some x) w f y m = m x refl

  first_needed : {X : Type 0} (o : Option X) (w : World) (f : X → Answer)
      (k : Value → World → Answer) (y : Answer) →
      ((x : X) → o ≡ Some x → Sim P K (then_do (f x) k) y) → Sim P K (then_do (need o w f) k) y
  first_needed None w f k y m = λ _. free
  first_needed (Some x) w f k y m = m x refl

  eval_stands : (x : ℕ) (a : Word) → x0 ≤ x → WordOk Ok a
      → Stands it (eval a) (eval_before g A x (eval a)) (evaluation g A x a)
  unfolding act
  eval_stands x a fresh ok = record {
    ended = record {
      by = λ env env' d d' w ss e ag dd de lies.
          needed (and_then (word_of g env a) place_of) w _ _
          (λ i q. needed (slice_get w.cells i) w _ _ (λ k p.
          subst (Sim P K _)
          (sym (fetched x a (end (evaluation g A x a)) i k env env' d' w ss e ok ag q p))
          (case_sim a i x k.node env (with_vars ((x, node k.node) ∷ []) env') d d' w _ e fresh ok
          (agree_one env env' x (node k.node) fresh ag) q (cell_known g A _ lies a i k q p)
          (has_one env' x (node k.node)) dd de)));
    };
    bound = λ t b b' f. record {
      by = λ env env' d d' w ss e ag dd de lies.
          first_needed (and_then (word_of g env a) place_of) w _ _ _
          (λ i q. first_needed (slice_get w.cells i) w _ _ _ (λ k p.
          let ag1 : Agree Ok env (with_vars ((x, node k.node) ∷ []) env')
          = agree_one env env' x (node k.node) fresh ag in
          subst (Sim P K _)
          (sym (fetched x a (bind t (evaluation g A x a) b') i k env env' d' w ss e ok ag q p))
          (then_sim P K _ _ _ _
          (λ v w'. need_back P (bindings_of g t v) w' _
          (λ bs all. every_front P w'.seen _
          (code_back P g c cb (with_vars bs env) d b (with_state_seen (with_vars bs env) w')
          all)))
          (case_sim a i x k.node env (with_vars ((x, node k.node) ∷ []) env') (suc d) (suc d') w _ e
          fresh ok ag1 q (cell_known g A _ lies a i k q p) (has_one env' x (node k.node))
          (K.up dd) de)
          (λ v w' ss' e' de'. need_sim P K (bindings_of g t v) w' (other w' ss' e') _ _
          (λ bs. enter it b b' f (with_vars bs env)
          (with_vars bs (with_vars ((x, node k.node) ∷ []) env')) d d' w' ss' e'
          (vars_agree Ok bs env _ ag1) dd de')))));
    };
  }

  pub stands : (x : ℕ) → x0 ≤ x → (l : Leaf) → ActOk Ok (leaf l)
      → Stands it l (eval_before g A x l) (eval_becomes g A x l)
  unfolding ActOk
  stands x fresh (eval a) ok = eval_stands x a fresh ok
  stands x fresh l ok = alone it l (leaf l) (leaf_follows it l ok)

pub inlining_law : EvalInliningKeeps
inlining_law p A s u m =
    let x0 = past_procs p.procs in
    let procs = (eval_inlined A p).procs in
    bodies_keep (StateIsCovered p A) no_deeper (λ y. y < x0) p procs
    (λ c c' cb cf. procs_like (it no_deeper p A x0 procs c c' cb cf) x0 (eval_rule p A)
    (stands no_deeper p A x0 procs c c' cb cf) x0 (omega arith) p.procs u)
    (covers p A s m).passed
