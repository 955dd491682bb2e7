-- A looking run of an inlined program that runs well is its run.
use Rattle.std.proofs.Common.{◌≡◌, ℕ, zero, suc, Bool, true, false, cond, ◌&&◌, not, List, length, Option, Some, None, slice_get, refl, sym, ap, ◌∙◌}
use Rattle.seq.proofs.Lists.{all_get}
use Rattle.seq.proofs.Truth.{true_not_false, and_from}
use Rattle.grin_syntax.specs.declared.program.Target.{Target}
use Rattle.grin_syntax.specs.declared.program.Target.TheVariants as to
use Rattle.grin_syntax.specs.Tree.{Code, end, store, bind, Act, leaf, unit, fetch, fetch_word, update, eval, apply, call, prim, read, write, case, nested, fail, Arms, no_arm, arm, Procedure, Program}
use Rattle.grin_meaning.specs.Values.{Datum, Value, Env, World, missing, Answer, gives, stops, then_do, need, and_then, Binding, with_vars, one_each, MatchOutcome, fits, fits_not, unclear, fit_of, word_of, words_of, value_of, node_of, bindings_of}
use Rattle.grin_meaning.specs.Checks.{has_block, is_fetch, is_node_target, is_given, not_delayed, is_bound_well}
use Rattle.grin_meaning.specs.Run.{act, act_by, code, code_by, arms, arms_by, calls, calls_by, run, run_by, require_if_checked, require_value_if_checked, choose, spend, spent, with_state_seen, places, place_of, cells_of, with_cells, start_words, start_world}
use Rattle.grin_meaning.specs.Reached.{Called, begins, by_call, Runs, entered, stored, bound, within, chosen, Does, first, last, Tries, of_case, next}
use Rattle.grin_meaning.specs.Ready.{IsInlined, EachAct, EachCode, EachArms, HasBlock, NotFetch, RunsWell, inlined_kind}
use Rattle.grin_meaning.proofs.Checked.{is_given-so, not_delayed-so, fills-so, all_fill-so}

-- ---- the same where the parts are the same

need_same : {A : Type 0} (o : Option A) (w : World) (k k' : A → Answer)
    → ((a : A) → o ≡ Some a → k a ≡ k' a) → need o w k ≡ need o w k'
need_same None w k k' h = refl
need_same (Some a) w k k' h = h a refl

then_same : (a : Answer) (k k' : Value → World → Answer)
    → ((v : Value) (w : World) → a ≡ gives v w → k v w ≡ k' v w) → then_do a k ≡ then_do a k'
then_same (gives v w) k k' h = h v w refl
then_same (stops s w) k k' h = refl

then_after : (a a' : Answer) (k k' : Value → World → Answer) → a ≡ a'
    → ((v : Value) (w : World) → a' ≡ gives v w → k v w ≡ k' v w) → then_do a k ≡ then_do a' k'
then_after a a' k k' e h = ap (λ x. then_do x k) e ∙ then_same a' k k' h

choose_same : (f : MatchOutcome) (w : World) (k k' : List Binding → Answer) (x x' : Answer)
    → ((bs : List Binding) → f ≡ fits bs → k bs ≡ k' bs) → (f ≡ fits_not → x ≡ x')
    → choose f w k x ≡ choose f w k' x'
choose_same (fits bs) w k k' x x' h hx = h bs refl
choose_same fits_not w k k' x x' h hx = hx refl
choose_same unclear w k k' x x' h hx = refl

spend_same : (l : ℕ) (w : World) (k k' : ℕ → Answer) → ((u : ℕ) → l ≡ suc u → k u ≡ k' u)
    → spend l w k ≡ spend l w k'
spend_same zero w k k' h = refl
spend_same (suc u) w k k' h = h u refl

looking_same : (b : Bool) (w : World) (a a' : Answer) → b ≡ true → a ≡ a'
    → require_if_checked true b w a ≡ a'
looking_same b w a a' h e = (λ j. cond (h j) a (stops missing w)) ∙ e

given_same : (a : Answer) (f : Value → Bool) →
    ((v : Value) (w : World) → a ≡ gives v w → f v ≡ true) → require_value_if_checked true f a ≡ a
given_same (gives v w) f h = λ j. cond (h v w refl j) (gives v w) (stops missing w)
given_same (stops s w) f h = refl

-- ---- operations

true_where : (b x : Bool) → (b ≡ true → x ≡ true) → cond b x true ≡ true
true_where true x h = h refl
true_where false x h = refl

module _ (g : Program) where
  pub blocks : (o : Act) → has_block o ≡ true → HasBlock g o
  blocks (case v as') h = tt
  blocks (nested b) h = tt
  blocks _ h = true_not_false (sym h)

  pub not_fetch : (o : Act) → not (is_fetch o) ≡ true → NotFetch g o
  not_fetch (leaf (fetch a)) h = true_not_false (sym h)
  not_fetch _ h = tt

module _ (g : Program) (i : List ℕ) (n : ℕ) (inlined : IsInlined g) (well : RunsWell g i n) where
  -- a bound value is as it should be
  bound_well : (m d : ℕ) (env : Env) (t : Target) (o : Act) (b : Code) (w w' : World) (v : Value)
      → Runs g i n m env d (bind t o b) w → act g (calls g m) env (suc d) o w ≡ gives v w'
      → is_bound_well g t o v ≡ true
  bound_well m d env t o b w w' v r e = and_from _ _
      (true_where (has_block o) _
      (λ h. is_given-so g v (well.blocks m d env t o b w w' v r (blocks g o h) e)))
      (true_where (is_node_target t && not (is_fetch o)) _ (of_target t r))
    where
      of_target : (t : Target) → Runs g i n m env d (bind t o b) w
          → (is_node_target t && not (is_fetch o)) ≡ true → not_delayed g v ≡ true
      of_target (to.Node x) r h = not_delayed-so g v
          (well.node_variables m d env x o b w w' v r (not_fetch g o h) e)
      of_target _ r h = true_not_false (sym h)

  -- calls that the run comes to
  record CallsSeen (m : ℕ) : Type 0 where
    by : (f : ℕ) (xs : List Datum) (d : ℕ) (w : World) → Called g i n m f xs d w
        → calls_by g true m f xs d w ≡ calls g m f xs d w

  module _ (m : ℕ) (seen : CallsSeen m) where
    mutual
      unfolding act EachAct

      act_seen : (env : Env) (d : ℕ) (o : Act) (w : World) → EachAct inlined_kind o
          → Does g i n m env d o w → act_by g (calls_by g true m) true env d o w ≡ act g (calls g m)
          env d o w
      act_seen env d (leaf (unit v)) w k r = need_same (value_of g env v) w _ _
          (λ x _. looking_same _ w _ _ (fills-so g env v (well.units m d env v w r)) refl)
      act_seen env d (leaf (fetch a)) w k r = refl
      act_seen env d (leaf (fetch_word a x)) w k r = refl
      act_seen env d (leaf (update a v)) w k r = need_same (and_then (word_of g env a) place_of) w _
          _ (λ x _. need_same (slice_get w.cells x) w _ _
          (λ c _. need_same (node_of g env v) w _ _ (λ y _.
          looking_same _ w _ _ (fills-so g env v (well.updates m d env a v w r)) refl)))
      act_seen env d (leaf (eval a)) w k r = absurd k
      act_seen env d (leaf (apply v a)) w k r = absurd k.0
      act_seen env d (leaf (call f ws)) w k r = need_same (words_of g env ws) w _ _
          (λ xs e. seen.by f.0 xs d w (by_call r e))
      act_seen env d (leaf (prim f a b)) w k r = refl
      act_seen env d (leaf read) w k r = refl
      act_seen env d (leaf (write a)) w k r = refl
      act_seen env d (case v as') w k r = need_same (value_of g env v) w _ _
          (λ x e. arms_seen env d x as' w k.2 (of_case r e))
      act_seen env d (nested b) w k r = code_seen env d b w k.1 (within r)
      act_seen env d (leaf fail) w k r = refl

      code_seen : (env : Env) (d : ℕ) (b : Code) (w : World) → EachCode inlined_kind b
          → Runs g i n m env d b w → code_by g (calls_by g true m) true env d b w ≡ code g
          (calls g m) env d b w
      code_seen env d (end o) w k r = act_seen env d o w k (last r)
      code_seen env d (store cs b) w k r =
          let env' : Env = with_vars (places (length w.cells) cs) env in
          need_same (cells_of g env' cs) w _ _
          (λ hs e. looking_same _ w _ _ (all_fill-so g env' cs (well.stores m d env cs b w r))
          (code_seen env' d b (with_state_seen env' (with_cells hs w)) k.1 (stored r e)))
      code_seen env d (bind t o b) w k r = then_after _ _ _ _
          (act_seen env (suc d) o w k.1 (first r)) (λ v w' e.
          looking_same _ w' _ _ (bound_well m d env t o b w w' v r e)
          (need_same (bindings_of g t v) w' _ _
          (λ bs e'. code_seen (with_vars bs env) d b (with_state_seen (with_vars bs env) w') k.2
          (bound r e e'))))

      arms_seen : (env : Env) (d : ℕ) (v : Value) (as' : Arms) (w : World)
          → EachArms inlined_kind as' → Tries g i n m env d v as' w
          → arms_by g (calls_by g true m) true env d v as' w ≡ arms g (calls g m) env d v as' w
      arms_seen env d v no_arm w k r = refl
      arms_seen env d v (arm s b as') w k r = choose_same (fit_of g s v) w _ _ _ _
          (λ bs e. code_seen (with_vars bs env) d b (with_state_seen (with_vars bs env) w) k.1
          (chosen r e)) (λ e. arms_seen env d v as' w k.2 (next r e))

  -- a call that is entered, as the body of its procedure
  enters : (m f d u : ℕ) (xs : List Datum) (w : World) (q : Procedure) (bs : List Binding)
      → w.left ≡ suc u → slice_get g.procs f ≡ Some q → one_each q.params xs ≡ Some bs
      → calls g (suc m) f xs d w ≡ code g (calls g m) (with_vars bs (λ y. None)) d q.body
      (with_state_seen (with_vars bs (λ y. None)) (spent f d u w))
  unfolding calls
  enters m f d u xs w q bs el eq eb = rw (el, eq, eb) refl

  calls_seen : (m : ℕ) → CallsSeen m
  unfolding calls
  calls_seen zero = record { by = λ f xs d w r. refl }
  calls_seen (suc m) = record {
    by = λ f xs d w r. spend_same w.left w _ _
        (λ u el. need_same (slice_get g.procs f) w _ _
        (λ q eq. need_same (one_each q.params xs) w _ _ (λ bs eb.
        let env : Env = with_vars bs (λ y. None) in
        let same : code_by g (calls_by g true m) true env d q.body
        (with_state_seen env (spent f d u w)) ≡ code g (calls g m) env d q.body
        (with_state_seen env (spent f d u w))
        = code_seen m (calls_seen m) env d q.body (with_state_seen env (spent f d u w))
        (all_get (λ q. EachCode inlined_kind q.body) g.procs f q inlined eq)
        (entered r el eq eb) in
        ap (require_value_if_checked true (is_given g)) same ∙ given_same _ _
        (λ v w' e. is_given-so g v
        (well.results (suc m) f d xs w w' v r (enters m f d u xs w q bs el eq eb ∙ e))))));
  }

  pub look_is_run : run_by g true i n ≡ run g i n
  unfolding run run_by
  look_is_run = (calls_seen n).by g.start.0 (start_words g.argument) 0 (start_world g i n) begins
