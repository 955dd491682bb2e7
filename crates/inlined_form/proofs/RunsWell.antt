-- Whatever a run of such a program comes to is a piece of its text that fits what the variables
-- stand for.
use Rattle.std.proofs.Common.{◌≡◌, ℕ, suc, true, false, List, [], ◌∷◌, length, Some, None, slice_get, refl, sym, ap, ◌∙◌, subst}
use Rattle.seq.proofs.Lists.{all_append}
use Rattle.grin_syntax.specs.declared.program.VarId.{VarId}
use Rattle.grin_syntax.specs.declared.program.TagKind.{TagKind}
use Rattle.grin_syntax.specs.declared.program.TagKind.TheVariants as kind
use Rattle.grin_syntax.specs.declared.program.Cell.{Cell}
use Rattle.grin_syntax.specs.declared.program.Shape.{Shape}
use Rattle.grin_syntax.specs.declared.program.Target.{Target}
use Rattle.grin_syntax.specs.declared.program.Target.TheVariants as to
use Rattle.grin_syntax.specs.declared.program.Word as W
use Rattle.grin_syntax.specs.declared.program.Val as V
use Rattle.grin_syntax.specs.declared.program.Val.TheVariants.{NodeVar, Node as NodeVal, Vector, One}
use Rattle.grin_syntax.specs.Tree.{Code, end, store, bind, Act, leaf, unit, fetch, fetch_word, update, eval, apply, call, prim, read, write, case, nested, fail, Arms, arm, Program}
use Rattle.grin_syntax.specs.Formed.{AllOf}
use Rattle.grin_meaning.specs.Values.{Datum, number, tag, cell, Node, Value, node, words, Env, HeapCell, World, Answer, gives, Binding, with_vars, one_each, fits, fit_of, value_of, bindings_of}
use Rattle.grin_meaning.specs.Run.{act, calls, places, cells_of, with_state_seen, with_cells, is_fun_kind, is_some_and}
use Rattle.grin_meaning.specs.Reached.{Called, begins, by_call, Runs, entered, stored, bound, within, chosen, Does, first, last, Tries, of_case, next}
use Rattle.grin_meaning.specs.Ready.{IsDelayed, NumberThenZeros, Given, ValFilled, HasBlock, NotFetch, RunsWell}
use Rattle.flow_system.proofs.Lying.{from_some}
use Rattle.inlined_form.proofs.Sorts.{Sort, evaluated, Sorts, nothing_known, vars_sorted, cells_sorted, target_sorted, sort_of, IsNode, KeptFits, delayed, GivenFits, alternative_sorted, ActFits, CodeFits, ArmsFit, ProcedureFits, ProgramFits}
use Rattle.inlined_form.proofs.ResultsAreNodes.{all_get, OneNumber, PlainCell, HasSort, Fine, Fits, words_more, places_more, all_kept, GivesSort, target_more, IsOn, FitGoes, pattern_more, scrutinee, act_goes, calls_go, start_fine}

module _ (p : Program) (pf : ProgramFits ⊥ ⊥ p) (i : List ℕ) (n : ℕ) where
  -- a piece with the sorts that it fits, in a state that fits them
  record BlockHere (env : Env) (b : Code) (w : World) : Type 0 where
    sorts : Sorts
    env_fits : Fits p sorts env
    code_fits : CodeFits p.tags ⊥ ⊥ sorts b
    fine : Fine p w

  record ActHere (env : Env) (o : Act) (w : World) : Type 0 where
    sorts : Sorts
    env_fits : Fits p sorts env
    act_fits : ActFits p.tags ⊥ ⊥ sorts o
    fine : Fine p w

  record ArmsHere (env : Env) (x : Value) (as' : Arms) (w : World) : Type 0 where
    sorts : Sorts
    env_fits : Fits p sorts env
    val : V.Val
    on_node : Node
    is_node : x ≡ node on_node
    on : IsOn p env val on_node
    arms_fit : ArmsFit p.tags ⊥ ⊥ sorts val as'
    fine : Fine p w

  goes_on : (s : Sort) (a : Answer) (v : Value) (w : World) → GivesSort p s a → a ≡ gives v w
      → Fine p w × HasSort p s v
  goes_on s a v w g e = subst (GivesSort p s) e g

  after_store : (env : Env) (cs : List Cell) (b : Code) (w : World) (hs : List HeapCell)
      → BlockHere env (store cs b) w → cells_of p (with_vars (places (length w.cells) cs) env) cs ≡
      Some hs
      → BlockHere (with_vars (places (length w.cells) cs) env) b
      (with_state_seen (with_vars (places (length w.cells) cs) env) (with_cells hs w))
  unfolding ActFits
  after_store env cs b w hs h e =
      let env' = with_vars (places (length w.cells) cs) env in
      let f' : Fits p (cells_sorted cs h.sorts) env'
      = places_more p cs (length w.cells) h.sorts env h.env_fits in
      record {
        sorts = cells_sorted cs h.sorts;
        env_fits = f';
        code_fits = h.code_fits.1;
        fine = record {
          plain = all_append PlainCell w.cells hs h.fine.plain
              (from_some (AllOf PlainCell) (cells_of p env' cs) hs
              (all_kept p (cells_sorted cs h.sorts) env' f' cs h.code_fits.0) e);
        };
      }

  -- what a bound operation gives has its sort
  gives_sort : (m : ℕ) (env : Env) (d : ℕ) (t : Target) (o : Act) (b : Code) (w w' : World)
      (v : Value) → BlockHere env (bind t o b) w → act p (calls p m) env (suc d) o w ≡ gives v w'
      → Fine p w' × HasSort p (sort_of o) v
  unfolding ActFits
  gives_sort m env d t o b w w' v h e = goes_on (sort_of o) (act p (calls p m) env (suc d) o w) v w'
      (act_goes p (calls p m) (calls_go p pf.procedures m) o h.sorts env (suc d) w h.fine h.env_fits
      h.code_fits.1) e

  after_bind : (m : ℕ) (env : Env) (d : ℕ) (t : Target) (o : Act) (b : Code) (w w' : World)
      (v : Value) (bs : List Binding) → BlockHere env (bind t o b) w
      → act p (calls p m) env (suc d) o w ≡ gives v w' → bindings_of p t v ≡ Some bs
      → BlockHere (with_vars bs env) b (with_state_seen (with_vars bs env) w')
  unfolding ActFits
  after_bind m env d t o b w w' v bs h e e' =
      let g = gives_sort m env d t o b w w' v h e in
      record {
        sorts = target_sorted t (sort_of o) h.sorts;
        env_fits = from_some (λ bs. Fits p (target_sorted t (sort_of o) h.sorts) (with_vars bs env))
            (bindings_of p t v) bs
            (target_more p t (sort_of o) h.sorts env v h.code_fits.0 h.env_fits g.1) e';
        code_fits = h.code_fits.2;
        fine = record { plain = g.0.plain };
      }

  in_nested : (env : Env) (b : Code) (w : World) → ActHere env (nested b) w → BlockHere env b w
  unfolding ActFits
  in_nested env b w h = record
      { sorts = h.sorts; env_fits = h.env_fits; code_fits = h.act_fits; fine = h.fine }

  in_arm : (env : Env) (x : Value) (s : Shape) (b : Code) (as' : Arms) (w : World)
      (bs : List Binding) → ArmsHere env x (arm s b as') w → fit_of p s x ≡ fits bs
      → BlockHere (with_vars bs env) b (with_state_seen (with_vars bs env) w)
  unfolding ActFits
  in_arm env x s b as' w bs h e = record {
    sorts = alternative_sorted p.tags s h.val h.sorts;
    env_fits = subst (FitGoes p (alternative_sorted p.tags s h.val h.sorts) env)
        (ap (fit_of p s) (sym h.is_node) ∙ e)
        (pattern_more p s h.val h.sorts env h.on_node h.on h.env_fits);
    code_fits = h.arms_fit.0;
    fine = record { plain = h.fine.plain };
  }

  of_bind : (env : Env) (t : Target) (o : Act) (b : Code) (w : World) → BlockHere env (bind t o b) w
      → ActHere env o w
  unfolding ActFits
  of_bind env t o b w h = record
      { sorts = h.sorts; env_fits = h.env_fits; act_fits = h.code_fits.1; fine = h.fine }

  of_end : (env : Env) (o : Act) (w : World) → BlockHere env (end o) w → ActHere env o w
  unfolding ActFits
  of_end env o w h = record
      { sorts = h.sorts; env_fits = h.env_fits; act_fits = h.code_fits.1; fine = h.fine }

  on_case : (env : Env) (v : V.Val) (x : Value) (as' : Arms) (w : World)
      → ActHere env (case v as') w → value_of p env v ≡ Some x → ArmsHere env x as' w
  unfolding ActFits
  on_case env v x as' w h e =
      let q : (n : Node) × (x ≡ node n) × IsOn p env v n
      = from_some (λ x. (n : Node) × (x ≡ node n) × IsOn p env v n) (value_of p env v) x
      (scrutinee p h.sorts env h.env_fits v h.act_fits.0) e in
      record {
        sorts = h.sorts;
        env_fits = h.env_fits;
        val = v;
        on_node = q.0;
        is_node = q.1;
        on
            = q.2;
        arms_fit = h.act_fits.1;
        fine = h.fine;
      }

  later_arms : (env : Env) (x : Value) (s : Shape) (b : Code) (as' : Arms) (w : World)
      → ArmsHere env x (arm s b as') w → ArmsHere env x as' w
  unfolding ActFits
  later_arms env x s b as' w h = record {
    sorts = h.sorts;
    env_fits = h.env_fits;
    val = h.val;
    on_node = h.on_node;
    is_node
        = h.is_node;
    on = h.on;
    arms_fit = h.arms_fit.1;
    fine = h.fine;
  }

  mutual
    called_here : {m f d : ℕ} {xs : List Datum} {w : World} → Called p i n m f xs d w → Fine p w
    called_here begins = start_fine p pf.globals i n
    called_here (by_call o e) = (act_here o).fine

    block_here : {m d : ℕ} {env : Env} {b : Code} {w : World} → Runs p i n m env d b w
        → BlockHere env b w
    block_here (entered {f = f} {xs = xs} {q = q} {bs = bs} c l e e') = record {
      sorts = vars_sorted q.params nothing_known;
      env_fits = from_some
          (λ bs. Fits p (vars_sorted q.params nothing_known) (with_vars bs (λ y. None)))
          (one_each q.params xs) bs (words_more p q.params xs nothing_known (λ y. None) (λ y. tt))
          e';
      code_fits = from_some (ProcedureFits p.tags ⊥ ⊥) (slice_get p.procs f) q
          (all_get (ProcedureFits p.tags ⊥ ⊥) p.procs pf.procedures f) e;
      fine = record { plain = (called_here c).plain };
    }
    block_here (stored {env = env} {cs = cs} {b = b} {w = w} {hs = hs} r e)
        = after_store env cs b w hs (block_here r) e
    block_here
        (bound {m = m} {env = env} {d = d} {t = t} {o = o} {b = b} {w = w} {w' = w'} {v = v}
        {bs = bs} r e e') = after_bind m env d t o b w w' v bs (block_here r) e e'
    block_here (within {env = env} {b = b} {w = w} o) = in_nested env b w (act_here o)
    block_here (chosen {env = env} {x = x} {s = s} {b = b} {as' = as'} {w = w} {bs = bs} r e)
        = in_arm env x s b as' w bs (arms_here r) e

    act_here : {m d : ℕ} {env : Env} {o : Act} {w : World} → Does p i n m env d o w
        → ActHere env o w
    act_here (first {env = env} {t = t} {o = o} {b = b} {w = w} r)
        = of_bind env t o b w (block_here r)
    act_here (last {env = env} {o = o} {w = w} r) = of_end env o w (block_here r)

    arms_here : {m d : ℕ} {env : Env} {x : Value} {as' : Arms} {w : World}
        → Tries p i n m env d x as' w → ArmsHere env x as' w
    arms_here (of_case {env = env} {v = v} {x = x} {as' = as'} {w = w} o e)
        = on_case env v x as' w (act_here o) e
    arms_here (next {env = env} {x = x} {s = s} {b = b} {as' = as'} {w = w} r e)
        = later_arms env x s b as' w (arms_here r)

  -- ---- what is given

  is_fun : (k : TagKind) → k ≡ kind.Fun → is_fun_kind k ≡ true
  is_fun k e = ap is_fun_kind e

  not_delayed : (t : ℕ) → delayed p.tags t ≡ false → IsDelayed p t → ⊥
  not_delayed t e (u, q, k) = let h : delayed p.tags t ≡ true
      = ap (λ o. is_some_and o (λ i. is_fun_kind i.kind)) q ∙ is_fun u.kind k in let f
      : false ≡ true = sym e ∙ h in cc

  one_number : (ds : List Datum) → OneNumber ds → NumberThenZeros p ds
  one_number [] h = absurd h
  one_number (number k ∷ []) h = (k, ([], refl, tt))
  one_number (number k ∷ (d ∷ ds)) h = absurd h
  one_number (tag t ∷ ds) h = absurd h
  one_number (cell a ∷ ds) h = absurd h

  given : (v : Value) → HasSort p evaluated v → Given p v
  given (node m) h = (
    λ k e. not_delayed k.tag (subst (λ k. delayed p.tags k.tag ≡ false) (same_node m k e) h.1),
    λ z. one_number m.fields (h.0 z),
  )
    where
      same_node : (m k : Node) → Some m ≡ Some k → m ≡ k
      same_node m k e = cc
  given (words ds) h = absurd h

  -- only a fetch gives a node of which no more is known
  node_evaluated : (o : Act) → IsNode (sort_of o) → NotFetch p o → sort_of o ≡ evaluated
  node_evaluated (leaf (unit v)) h k = refl
  node_evaluated (leaf (fetch a)) h k = absurd k
  node_evaluated (leaf (fetch_word a i)) h k = absurd h
  node_evaluated (leaf (update a v)) h k = absurd h
  node_evaluated (leaf (eval a)) h k = refl
  node_evaluated (leaf (apply v a)) h k = refl
  node_evaluated (leaf (call f ws)) h k = refl
  node_evaluated (leaf (prim f a b)) h k = absurd h
  node_evaluated (leaf read) h k = absurd h
  node_evaluated (leaf (write a)) h k = absurd h
  node_evaluated (case v as') h k = refl
  node_evaluated (nested b) h k = refl
  node_evaluated (leaf fail) h k = refl

  block_evaluated : (o : Act) → HasBlock p o → sort_of o ≡ evaluated
  block_evaluated (case v as') h = refl
  block_evaluated (nested b) h = refl
  block_evaluated (leaf (unit v)) h = absurd h
  block_evaluated (leaf (fetch a)) h = absurd h
  block_evaluated (leaf (fetch_word a i)) h = absurd h
  block_evaluated (leaf (update a v)) h = absurd h
  block_evaluated (leaf (eval a)) h = absurd h
  block_evaluated (leaf (apply v a)) h = absurd h
  block_evaluated (leaf (call f ws)) h = absurd h
  block_evaluated (leaf (prim f a b)) h = absurd h
  block_evaluated (leaf read) h = absurd h
  block_evaluated (leaf (write a)) h = absurd h
  block_evaluated (leaf fail) h = absurd h

  -- ---- no vectors

  given_filled : (Γ : Sorts) (env : Env) (v : V.Val) → GivenFits p.tags Γ v → ValFilled p env v
  given_filled Γ env (NodeVar x) h = tt
  given_filled Γ env (NodeVal t ws) h = tt
  given_filled Γ env (Vector ws) h = absurd h
  given_filled Γ env (One a) h = tt

  kept_filled : (Γ : Sorts) (env : Env) (v : V.Val) → KeptFits Γ v → ValFilled p env v
  kept_filled Γ env (NodeVar x) h = tt
  kept_filled Γ env (NodeVal t ws) h = tt
  kept_filled Γ env (Vector ws) h = absurd h
  kept_filled Γ env (One a) h = tt

  all_filled : (Γ : Sorts) (env : Env) (cs : List Cell) → AllOf (λ c. KeptFits Γ c.val) cs
      → AllOf (λ c. ValFilled p env c.val) cs
  all_filled Γ env [] h = tt
  all_filled Γ env (c ∷ cs) h = (kept_filled Γ env c.val h.0, all_filled Γ env cs h.1)

  unit_filled : (env : Env) (v : V.Val) (w : World) → ActHere env (leaf (unit v)) w
      → ValFilled p env v
  unfolding ActFits
  unit_filled env v w h = given_filled h.sorts env v h.act_fits

  update_filled : (env : Env) (a : W.Word) (v : V.Val) (w : World)
      → ActHere env (leaf (update a v)) w → ValFilled p env v
  unfolding ActFits
  update_filled env a v w h = kept_filled h.sorts env v h.act_fits

  store_filled : (env env' : Env) (cs : List Cell) (b : Code) (w : World)
      → BlockHere env (store cs b) w → AllOf (λ c. ValFilled p env' c.val) cs
  unfolding ActFits
  store_filled env env' cs b w h = all_filled (cells_sorted cs h.sorts) env' cs h.code_fits.0

  target_is_node : (env : Env) (x : VarId) (o : Act) (b : Code) (w : World)
      → BlockHere env (bind (to.Node x) o b) w → IsNode (sort_of o)
  unfolding ActFits
  target_is_node env x o b w h = h.code_fits.0

  pub runs_well : RunsWell p i n
  runs_well = record {
    node_variables = λ m d env x o b w w' v r k e.
        let h = block_here r in
        (given v (subst (λ s. HasSort p s v) (node_evaluated o (target_is_node env x o b w h) k)
        (gives_sort m env d (to.Node x) o b w w' v h e).1)).0;
    results = λ m f d xs w w' v c e. given v
        (goes_on evaluated (calls p m f xs d w) v w'
        ((calls_go p pf.procedures m).by f xs d w (called_here c)) e).1;
    blocks = λ m d env t o b w w' v r k e. given v
        (subst (λ s. HasSort p s v) (block_evaluated o k)
        (gives_sort m env d t o b w w' v (block_here r) e).1);
    units = λ m d env v w o. unit_filled env v w (act_here o);
    updates = λ m d env a v w o. update_filled env a v w (act_here o);
    stores = λ m d env cs b w r. store_filled env _ cs b w (block_here r);
  }
