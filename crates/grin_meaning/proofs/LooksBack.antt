-- A looking run that is never missing is the run, which runs well.
use Rattle.std.proofs.Common.{◌≡◌, ◌≢◌, ℕ, zero, suc, Bool, true, false, cond, not, List, [], ◌∷◌, ◌++◌, length, Option, Some, None, slice_get, refl, sym, ap, ◌∙◌, subst}
use Rattle.seq.proofs.Truth.{true_not_false, and_left, and_right}
use Rattle.grin_syntax.specs.declared.program.ProcId.{ProcId}
use Rattle.grin_syntax.specs.declared.program.Shape.{Shape}
use Rattle.grin_syntax.specs.declared.program.Cell.{Cell}
use Rattle.grin_syntax.specs.declared.program.Target.{Target}
use Rattle.grin_syntax.specs.declared.program.Target.TheVariants as to
use Rattle.grin_syntax.specs.declared.program.Val.{Val}
use Rattle.grin_syntax.specs.declared.program.Word.{Word}
use Rattle.grin_syntax.specs.Tree.{Code, end, store, bind, Act, leaf, unit, fetch, fetch_word, update, eval, apply, call, prim, read, write, case, nested, fail, Arms, no_arm, arm, Procedure, Program}
use Rattle.grin_meaning.specs.Values.{Datum, words, Node, Value, Env, HeapCell, World, missing, Answer, gives, stops, then_do, need, and_then, Binding, with_vars, one_each, MatchOutcome, fits, fits_not, unclear, fit_of, word_of, words_of, value_of, node_of, bindings_of}
use Rattle.grin_meaning.specs.Checks.{is_given, fills, all_fill, has_block, is_fetch, is_bound_well}
use Rattle.grin_meaning.specs.Run.{Calls, act, act_by, code, code_by, arms, arms_by, calls, calls_by, run, run_by, require_if_checked, require_value_if_checked, choose, spend, spent, with_state_seen, places, place_of, cells_of, with_cells, with_node, eval_cell, apply_node, apply_part, is_fun_kind, is_part_kind, start_words, start_world}
use Rattle.grin_meaning.specs.Keeps.{ended, end_of}
use Rattle.grin_meaning.specs.Reached.{Called, begins, by_call, Runs, entered, stored, bound, within, chosen, Does, first, last, Tries, of_case, next}
use Rattle.grin_meaning.specs.Ready.{HasBlock, NotFetch, RunsWell}
use Rattle.grin_meaning.proofs.Checked.{given_is, delayed_not, filled_val, filled_cells}

abbrev pub Goes : Answer → Type 0
Goes a = end_of a ≢ ended missing

-- where the first is not missing, it is the second
abbrev pub Agrees : Answer → Answer → Type 0
Agrees a a' = Goes a → a ≡ a'

need_agrees : {A : Type 0} (o : Option A) (w : World) (k k' : A → Answer)
    → ((a : A) → Agrees (k a) (k' a)) → Agrees (need o w k) (need o w k')
need_agrees None w k k' h = λ _. refl
need_agrees (Some a) w k k' h = h a

cond_agrees : (b : Bool) (x y x' y' : Answer) → Agrees x x' → Agrees y y'
    → Agrees (cond b x y) (cond b x' y')
cond_agrees true x y x' y' h k = h
cond_agrees false x y x' y' h k = k

looking_agrees : (b : Bool) (w : World) (a a' : Answer) → Agrees a a'
    → Agrees (require_if_checked true b w a) a'
looking_agrees true w a a' h = h
looking_agrees false w a a' h = λ go. absurd (go refl)

given_agrees : (f : Value → Bool) (a a' : Answer) → Agrees a a'
    → Agrees (require_value_if_checked true f a) a'
given_agrees f (stops s w) a' h = h
given_agrees f (gives v w) a' h = on (f v)
  where
    on : (b : Bool) → Agrees (cond b (gives v w) (stops missing w)) a'
    on true = h
    on false = λ go. absurd (go refl)

-- what comes before in an answer that is not missing is not missing either
then_went : (a : Answer) (k : Value → World → Answer) → Goes (then_do a k) → Goes a
then_went (gives v w) k go = λ e. absurd (done_not e)
  where
    done_not : end_of (gives v w) ≡ ended missing → ⊥
    done_not e = cc
then_went (stops s w) k go = go

then_agrees : (a a' : Answer) (k k' : Value → World → Answer) → Agrees a a'
    → ((v : Value) (w : World) → Agrees (k v w) (k' v w)) → Agrees (then_do a k) (then_do a' k')
then_agrees (gives v w) a' k k' h hk = λ go. hk v w go ∙ ap (λ x. then_do x k')
    (h (then_went (gives v w) k go))
then_agrees (stops s w) a' k k' h hk = λ go. ap (λ x. then_do x k') (h go)

choose_agrees : (f : MatchOutcome) (w : World) (k k' : List Binding → Answer) (x x' : Answer)
    → ((bs : List Binding) → Agrees (k bs) (k' bs)) → Agrees x x'
    → Agrees (choose f w k x) (choose f w k' x')
choose_agrees (fits bs) w k k' x x' h hx = h bs
choose_agrees fits_not w k k' x x' h hx = hx
choose_agrees unclear w k k' x x' h hx = λ _. refl

spend_agrees : (l : ℕ) (w : World) (k k' : ℕ → Answer) → ((u : ℕ) → Agrees (k u) (k' u))
    → Agrees (spend l w k) (spend l w k')
spend_agrees zero w k k' h = λ _. refl
spend_agrees (suc u) w k k' h = h u

record CallsAgree (c c' : Calls) : Type 0 where
  by : (f : ℕ) (xs : List Datum) (d : ℕ) (w : World) → Agrees (c f xs d w) (c' f xs d w)

module _ (g : Program) where
  module _ (c c' : Calls) (ca : CallsAgree c c') where
    eval_agrees : (d a : ℕ) (w : World) → Agrees (eval_cell g c d a w) (eval_cell g c' d a w)
    eval_agrees d a w = need_agrees (slice_get w.cells a) w _ _
        (λ x. need_agrees (slice_get g.tags x.node.tag) w _ _ (λ t.
        cond_agrees (is_fun_kind t.kind) _ _ _ _
        (need_agrees t.proc w _ _
        (λ f. then_agrees _ _ _ _ (ca.by f.0 x.node.fields (suc d) w) (λ v w' _. refl)))
        (λ _. refl)))

    part_agrees : (d : ℕ) (n : Node) (x : Datum) (f r : ℕ) (w : World)
        → Agrees (apply_part g c d n x f r w) (apply_part g c' d n x f r w)
    part_agrees d n x f zero w = λ _. refl
    part_agrees d n x f (suc zero) w = ca.by f (n.fields ++ x ∷ []) d w
    part_agrees d n x f (suc (suc r)) w = λ _. refl

    apply_agrees : (d : ℕ) (n : Node) (x : Datum) (w : World)
        → Agrees (apply_node g c d n x w) (apply_node g c' d n x w)
    apply_agrees d n x w = need_agrees (slice_get g.tags n.tag) w _ _
        (λ t. cond_agrees (is_part_kind t.kind) _ _ _ _
        (need_agrees t.proc w _ _ (λ f. part_agrees d n x f.0 t.missing w)) (λ _. refl))

    mutual
      unfolding act

      act_agrees : (env : Env) (d : ℕ) (o : Act) (w : World)
          → Agrees (act_by g c true env d o w) (act g c' env d o w)
      act_agrees env d (leaf (unit v)) w = need_agrees (value_of g env v) w _ _
          (λ x. looking_agrees (fills g env v) w _ _ (λ _. refl))
      act_agrees env d (leaf (fetch a)) w = λ _. refl
      act_agrees env d (leaf (fetch_word a k)) w = λ _. refl
      act_agrees env d (leaf (update a v)) w = need_agrees (and_then (word_of g env a) place_of) w _
          _ (λ i. need_agrees (slice_get w.cells i) w _ _
          (λ x. need_agrees (node_of g env v) w _ _ (λ n.
          looking_agrees (fills g env v) w _ _ (λ _. refl))))
      act_agrees env d (leaf (eval a)) w = need_agrees (and_then (word_of g env a) place_of) w _ _
          (λ i. eval_agrees d i w)
      act_agrees env d (leaf (apply v a)) w = need_agrees (node_of g env v) w _ _
          (λ n. need_agrees (word_of g env a) w _ _ (λ x. apply_agrees d n x w))
      act_agrees env d (leaf (call f ws)) w = need_agrees (words_of g env ws) w _ _
          (λ xs. ca.by f.0 xs d w)
      act_agrees env d (leaf (prim f a b)) w = λ _. refl
      act_agrees env d (leaf read) w = λ _. refl
      act_agrees env d (leaf (write a)) w = λ _. refl
      act_agrees env d (case v as') w = need_agrees (value_of g env v) w _ _
          (λ x. arms_agree env d x as' w)
      act_agrees env d (nested b) w = code_agrees env d b w
      act_agrees env d (leaf fail) w = λ _. refl

      code_agrees : (env : Env) (d : ℕ) (b : Code) (w : World)
          → Agrees (code_by g c true env d b w) (code g c' env d b w)
      code_agrees env d (end o) w = act_agrees env d o w
      code_agrees env d (store cs b) w =
          let env' : Env = with_vars (places (length w.cells) cs) env in
          need_agrees (cells_of g env' cs) w _ _
          (λ hs. looking_agrees (all_fill g env' cs) w _ _
          (code_agrees env' d b (with_state_seen env' (with_cells hs w))))
      code_agrees env d (bind t o b) w = then_agrees _ _ _ _ (act_agrees env (suc d) o w)
          (λ v w'. looking_agrees (is_bound_well g t o v) w' _ _
          (need_agrees (bindings_of g t v) w' _ _
          (λ bs. code_agrees (with_vars bs env) d b (with_state_seen (with_vars bs env) w'))))

      arms_agree : (env : Env) (d : ℕ) (v : Value) (as' : Arms) (w : World)
          → Agrees (arms_by g c true env d v as' w) (arms g c' env d v as' w)
      arms_agree env d v no_arm w = λ _. refl
      arms_agree env d v (arm s b as') w = choose_agrees (fit_of g s v) w _ _ _ _
          (λ bs. code_agrees (with_vars bs env) d b (with_state_seen (with_vars bs env) w))
          (arms_agree env d v as' w)

  calls_agree : (m : ℕ) → CallsAgree (calls_by g true m) (calls g m)
  unfolding calls
  calls_agree zero = record { by = λ f xs d w _. refl }
  calls_agree (suc m) = record {
    by = λ f xs d w. spend_agrees w.left w _ _
        (λ u. need_agrees (slice_get g.procs f) w _ _
        (λ q. need_agrees (one_each q.params xs) w _ _ (λ bs.
        let env : Env = with_vars bs (λ y. None) in
        given_agrees (is_given g) _ _
        (code_agrees (calls_by g true m) (calls g m) (calls_agree m) env d q.body
        (with_state_seen env (spent f d u w))))));
  }

  pub look_agrees : (i : List ℕ) (n : ℕ) → Goes (run_by g true i n) → run_by g true i n ≡ run g i n
  unfolding run run_by
  look_agrees i n = (calls_agree n).by g.start.0 (start_words g.argument) 0 (start_world g i n)

-- ---- what is looked at is as it should be

need_looked : {A : Type 0} (o : Option A) (w : World) (b : Bool) (a : A → Answer)
    → Goes (need o w (λ x. require_if_checked true b w (a x))) → b ≡ true
need_looked None w b a go = absurd (go refl)
need_looked (Some x) w true a go = refl
need_looked (Some x) w false a go = absurd (go refl)

need_went : {A : Type 0} (o : Option A) (w : World) (k : A → Answer) (B : Type 0)
    → ((x : A) → Goes (k x) → B) → Goes (need o w k) → B
need_went None w k B h go = absurd (go refl)
need_went (Some x) w k B h go = h x go

looked : (b : Bool) (w : World) (a : Answer) → Goes (require_if_checked true b w a) → b ≡ true
looked true w a go = refl
looked false w a go = absurd (go refl)

looked_on : (b : Bool) (w : World) (a : Answer) → Goes (require_if_checked true b w a) → Goes a
looked_on true w a go = go
looked_on false w a go = absurd (go refl)

given_on : (f : Value → Bool) (a : Answer) → Goes (require_value_if_checked true f a) → Goes a
given_on f (gives v w) go = λ e. absurd (done_not e)
  where
    done_not : end_of (gives v w) ≡ ended missing → ⊥
    done_not e = cc
given_on f (stops s w) go = go

given_so : (f : Value → Bool) (a : Answer) (v : Value) (w : World)
    → require_value_if_checked true f a ≡ gives v w → f v ≡ true
given_so f (stops s u) v w e = absurd (not_given e)
  where
    not_given : stops s u ≡ gives v w → ⊥
    not_given e = cc
given_so f (gives x u) v w e = on (f x) refl e
  where
    on : (b : Bool) → f x ≡ b → cond b (gives x u) (stops missing u) ≡ gives v w → f v ≡ true
    on true h e = let same : x ≡ v = cc in ap f (sym same) ∙ h
    on false h e = absurd (not_given e)
      where
        not_given : stops missing u ≡ gives v w → ⊥
        not_given e = cc

module _ (g : Program) (i : List ℕ) (n : ℕ) (never : Goes (run_by g true i n)) where
  abbrev L : ℕ → Calls
  L m = calls_by g true m

  -- the looking operation is the operation
  same_act : (m : ℕ) (env : Env) (d : ℕ) (o : Act) (w w' : World) (v : Value)
      → Goes (act_by g (L m) true env d o w) → act g (calls g m) env d o w ≡ gives v w'
      → act_by g (L m) true env d o w ≡ gives v w'
  same_act m env d o w w' v go e = act_agrees g (L m) (calls g m) (calls_agree g m) env d o w go ∙ e

  after_call : (m f d u : ℕ) (xs : List Datum) (w : World) (q : Procedure) (bs : List Binding)
      → w.left ≡ suc u → slice_get g.procs f ≡ Some q → one_each q.params xs ≡ Some bs
      → Goes (L (suc m) f xs d w)
      → Goes (code_by g (L m) true (with_vars bs (λ y. None)) d q.body
      (with_state_seen (with_vars bs (λ y. None)) (spent f d u w)))
  unfolding calls_by
  after_call m f d u xs w q bs el eq eb go =
      let env : Env = with_vars bs (λ y. None) in
      let same : L (suc m) f xs d w ≡ require_value_if_checked true (is_given g)
      (code_by g (L m) true env d q.body (with_state_seen env (spent f d u w)))
      = rw (el, eq, eb) refl in
      given_on (is_given g) _ (subst Goes same go)

  given_by : (m f d : ℕ) (xs : List Datum) (w w' : World) (v : Value) → L m f xs d w ≡ gives v w'
      → is_given g v ≡ true
  unfolding calls_by
  given_by zero f d xs w w' v e = absurd (not_given e)
    where
      not_given : L zero f xs d w ≡ gives v w' → ⊥
      not_given e = cc
  given_by (suc m) f d xs w w' v e = spending w.left e
    where
      bodies : (u : ℕ) (q : Procedure) → (o : Option (List Binding))
          → need o w
          (λ bs. require_value_if_checked true (is_given g)
          (code_by g (L m) true (with_vars bs (λ y. None)) d q.body
          (with_state_seen (with_vars bs (λ y. None)) (spent f d u w)))) ≡ gives v w'
          → is_given g v ≡ true
      bodies u q None e = absurd (let h : stops missing w ≡ gives v w' = e in cc)
      bodies u q (Some bs) e = given_so (is_given g) _ v w' e

      procs : (u : ℕ) (o : Option Procedure) → need o w
          (λ q. need (one_each q.params xs) w
          (λ bs. require_value_if_checked true (is_given g)
          (code_by g (L m) true (with_vars bs (λ y. None)) d q.body
          (with_state_seen (with_vars bs (λ y. None)) (spent f d u w))))) ≡ gives v w'
          → is_given g v ≡ true
      procs u None e = absurd (let h : stops missing w ≡ gives v w' = e in cc)
      procs u (Some q) e = bodies u q (one_each q.params xs) e

      spending : (l : ℕ) → spend l w
          (λ u. need (slice_get g.procs f) w
          (λ q. need (one_each q.params xs) w
          (λ bs. require_value_if_checked true (is_given g)
          (code_by g (L m) true (with_vars bs (λ y. None)) d q.body
          (with_state_seen (with_vars bs (λ y. None)) (spent f d u w)))))) ≡ gives v w'
          → is_given g v ≡ true
      spending zero e = absurd (let h : stops _ w ≡ gives v w' = e in cc)
      spending (suc u) e = procs u (slice_get g.procs f) e

  starts : Goes (L n g.start.0 (start_words g.argument) 0 (start_world g i n))
  unfolding run_by
  starts = never

  on_call : (m d : ℕ) (env : Env) (f : ProcId) (ws : List Word) (w : World) (xs : List Datum)
      → words_of g env ws ≡ Some xs → Goes (act_by g (L m) true env d (leaf (call f ws)) w)
      → Goes (L m f.0 xs d w)
  unfolding act
  on_call m d env f ws w xs e go = subst Goes (ap (λ o. need o w (λ xs. L m f.0 xs d w)) e) go

  after_store : (m d : ℕ) (env : Env) (cs : List Cell) (b : Code) (w : World) (hs : List HeapCell)
      → cells_of g (with_vars (places (length w.cells) cs) env) cs ≡ Some hs
      → Goes (code_by g (L m) true env d (store cs b) w)
      → Goes (code_by g (L m) true (with_vars (places (length w.cells) cs) env) d b
      (with_state_seen (with_vars (places (length w.cells) cs) env) (with_cells hs w)))
  unfolding act
  after_store m d env cs b w hs e go =
      let env' : Env = with_vars (places (length w.cells) cs) env in
      looked_on (all_fill g env' cs) w _
      (subst Goes
      (ap (λ o. need o w
      (λ hs. require_if_checked true (all_fill g env' cs) w
      (code_by g (L m) true env' d b (with_state_seen env' (with_cells hs w))))) e) go)

  -- the value of a bound operation is looked at, and bound
  bound_value : (m d : ℕ) (env : Env) (t : Target) (o : Act) (b : Code) (w w' : World) (v : Value)
      → act g (calls g m) env (suc d) o w ≡ gives v w'
      → Goes (code_by g (L m) true env d (bind t o b) w)
      → Goes (require_if_checked true (is_bound_well g t o v) w'
      (need (bindings_of g t v) w'
      (λ bs. code_by g (L m) true (with_vars bs env) d b
      (with_state_seen (with_vars bs env) w'))))
  unfolding act
  bound_value m d env t o b w w' v e go =
      let rest : Value → World → Answer = λ v w'. require_if_checked true (is_bound_well g t o v) w'
      (need (bindings_of g t v) w'
      (λ bs. code_by g (L m) true (with_vars bs env) d b
      (with_state_seen (with_vars bs env) w'))) in
      subst Goes
      (ap (λ a. then_do a rest) (same_act m env (suc d) o w w' v (then_went _ rest go) e)) go

  after_bind : (m d : ℕ) (env : Env) (t : Target) (o : Act) (b : Code) (w w' : World) (v : Value)
      (bs : List Binding) → act g (calls g m) env (suc d) o w ≡ gives v w'
      → bindings_of g t v ≡ Some bs
      → Goes (code_by g (L m) true env d (bind t o b) w)
      → Goes (code_by g (L m) true (with_vars bs env) d b
      (with_state_seen (with_vars bs env) w'))
  after_bind m d env t o b w w' v bs e e' go =
      subst Goes
      (ap (λ o. need o w'
      (λ bs. code_by g (L m) true (with_vars bs env) d b
      (with_state_seen (with_vars bs env) w'))) e')
      (looked_on (is_bound_well g t o v) w' _ (bound_value m d env t o b w w' v e go))

  in_nested : (m d : ℕ) (env : Env) (b : Code) (w : World)
      → Goes (act_by g (L m) true env d (nested b) w) → Goes (code_by g (L m) true env d b w)
  unfolding act
  in_nested m d env b w go = go

  in_arm : (m d : ℕ) (env : Env) (x : Value) (s : Shape) (b : Code) (as' : Arms) (w : World)
      (bs : List Binding) → fit_of g s x ≡ fits bs → Goes
      (arms_by g (L m) true env d x (arm s b as') w)
      → Goes (code_by g (L m) true (with_vars bs env) d b (with_state_seen (with_vars bs env) w))
  unfolding act
  in_arm m d env x s b as' w bs e go = subst Goes
      (ap (λ f. choose f w
      (λ bs. code_by g (L m) true (with_vars bs env) d b (with_state_seen (with_vars bs env) w))
      (arms_by g (L m) true env d x as' w)) e) go

  later_arms : (m d : ℕ) (env : Env) (x : Value) (s : Shape) (b : Code) (as' : Arms) (w : World)
      → fit_of g s x ≡ fits_not → Goes (arms_by g (L m) true env d x (arm s b as') w)
      → Goes (arms_by g (L m) true env d x as' w)
  unfolding act
  later_arms m d env x s b as' w e go = subst Goes
      (ap (λ f. choose f w
      (λ bs. code_by g (L m) true (with_vars bs env) d b (with_state_seen (with_vars bs env) w))
      (arms_by g (L m) true env d x as' w)) e) go

  of_bind : (m d : ℕ) (env : Env) (t : Target) (o : Act) (b : Code) (w : World)
      → Goes (code_by g (L m) true env d (bind t o b) w)
      → Goes (act_by g (L m) true env (suc d) o w)
  unfolding act
  of_bind m d env t o b w go = then_went _
      (λ v w'. require_if_checked true (is_bound_well g t o v) w'
      (need (bindings_of g t v) w'
      (λ bs. code_by g (L m) true (with_vars bs env) d b (with_state_seen (with_vars bs env) w'))))
      go

  of_end : (m d : ℕ) (env : Env) (o : Act) (w : World) → Goes (code_by g (L m) true env d (end o) w)
      → Goes (act_by g (L m) true env d o w)
  unfolding act
  of_end m d env o w go = go

  on_case : (m d : ℕ) (env : Env) (v : Val) (x : Value) (as' : Arms) (w : World)
      → value_of g env v ≡ Some x → Goes (act_by g (L m) true env d (case v as') w)
      → Goes (arms_by g (L m) true env d x as' w)
  unfolding act
  on_case m d env v x as' w e go = subst Goes
      (ap (λ o. need o w (λ x. arms_by g (L m) true env d x as' w)) e) go

  mutual
    called_goes : {m f d : ℕ} {xs : List Datum} {w : World} → Called g i n m f xs d w
        → Goes (L m f xs d w)
    called_goes begins = starts
    called_goes (by_call {m = m} {env = env} {d = d} {f = f} {ws = ws} {w = w} {xs = xs} r e)
        = on_call m d env f ws w xs e (does_goes r)

    runs_goes : {m d : ℕ} {env : Env} {b : Code} {w : World} → Runs g i n m env d b w
        → Goes (code_by g (L m) true env d b w)
    runs_goes
        (entered {m = m} {f = f} {d = d} {u = u} {xs = xs} {w = w} {q = q} {bs = bs} r el eq eb)
        = after_call m f d u xs w q bs el eq eb (called_goes r)
    runs_goes (stored {m = m} {env = env} {d = d} {cs = cs} {b = b} {w = w} {hs = hs} r e)
        = after_store m d env cs b w hs e (runs_goes r)
    runs_goes
        (bound {m = m} {env = env} {d = d} {t = t} {o = o} {b = b} {w = w} {w' = w'} {v = v}
        {bs = bs} r e e') = after_bind m d env t o b w w' v bs e e' (runs_goes r)
    runs_goes (within {m = m} {env = env} {d = d} {b = b} {w = w} r)
        = in_nested m d env b w (does_goes r)
    runs_goes
        (chosen {m = m} {env = env} {d = d} {x = x} {s = s} {b = b} {as' = as'} {w = w} {bs = bs} r
        e) = in_arm m d env x s b as' w bs e (tries_goes r)

    does_goes : {m d : ℕ} {env : Env} {o : Act} {w : World} → Does g i n m env d o w
        → Goes (act_by g (L m) true env d o w)
    does_goes (first {m = m} {env = env} {d = d} {t = t} {o = o} {b = b} {w = w} r)
        = of_bind m d env t o b w (runs_goes r)
    does_goes (last {m = m} {env = env} {d = d} {o = o} {w = w} r)
        = of_end m d env o w (runs_goes r)

    tries_goes : {m d : ℕ} {env : Env} {x : Value} {as' : Arms} {w : World}
        → Tries g i n m env d x as' w → Goes (arms_by g (L m) true env d x as' w)
    tries_goes (of_case {m = m} {env = env} {d = d} {v = v} {x = x} {as' = as'} {w = w} r e)
        = on_case m d env v x as' w e (does_goes r)
    tries_goes (next {m = m} {env = env} {d = d} {x = x} {s = s} {b = b} {as' = as'} {w = w} r e)
        = later_arms m d env x s b as' w e (tries_goes r)

  -- ---- so the run is well

  where_true : (b x : Bool) → cond b x true ≡ true → b ≡ true → x ≡ true
  where_true true x h e = h
  where_true false x h e = true_not_false (sym e)

  has_block-so : (o : Act) → HasBlock g o → has_block o ≡ true
  has_block-so (case v as') h = refl
  has_block-so (nested b) h = refl
  has_block-so _ h = absurd h

  is_fetch-not : (o : Act) → NotFetch g o → not (is_fetch o) ≡ true
  is_fetch-not (leaf (fetch a)) h = absurd h
  is_fetch-not _ h = refl

  looked_at : (m d : ℕ) (env : Env) (t : Target) (o : Act) (b : Code) (w w' : World) (v : Value)
      → Runs g i n m env d (bind t o b) w → act g (calls g m) env (suc d) o w ≡ gives v w'
      → is_bound_well g t o v ≡ true
  looked_at m d env t o b w w' v r e = looked (is_bound_well g t o v) w' _
      (bound_value m d env t o b w w' v e (runs_goes r))

  unit_looked : (m d : ℕ) (env : Env) (v : Val) (w : World)
      → Goes (act_by g (L m) true env d (leaf (unit v)) w) → fills g env v ≡ true
  unfolding act
  unit_looked m d env v w go = need_looked (value_of g env v) w (fills g env v) (λ x. gives x w) go

  update_looked : (m d : ℕ) (env : Env) (a : Word) (v : Val) (w : World)
      → Goes (act_by g (L m) true env d (leaf (update a v)) w) → fills g env v ≡ true
  unfolding act
  update_looked m d env a v w go = need_went (and_then (word_of g env a) place_of) w _ _
      (λ x. need_went (slice_get w.cells x) w _ _
      (λ c. need_looked (node_of g env v) w (fills g env v)
      (λ y. gives (words []) (with_node x y c w)))) go

  store_looked : (m d : ℕ) (env : Env) (cs : List Cell) (b : Code) (w : World)
      → Goes (code_by g (L m) true env d (store cs b) w)
      → all_fill g (with_vars (places (length w.cells) cs) env) cs ≡ true
  unfolding act
  store_looked m d env cs b w go =
      let env' : Env = with_vars (places (length w.cells) cs) env in
      need_looked (cells_of g env' cs) w (all_fill g env' cs)
      (λ hs. code_by g (L m) true env' d b (with_state_seen env' (with_cells hs w))) go

  pub well : RunsWell g i n
  well = record {
    node_variables = λ m d env x o b w w' v r k e.
        delayed_not g v
        (where_true (not (is_fetch o)) _
        (and_right _ _ (looked_at m d env (to.Node x) o b w w' v r e)) (is_fetch-not o k));
    results = λ m f d xs w w' v r e. given_is g v
        (given_by m f d xs w w' v ((calls_agree g m).by f xs d w (called_goes r) ∙ e));
    blocks = λ m d env t o b w w' v r k e. given_is g v
        (where_true (has_block o) _ (and_left _ _ (looked_at m d env t o b w w' v r e))
        (has_block-so o k));
    units = λ m d env v w r. filled_val g env v (unit_looked m d env v w (does_goes r));
    updates = λ m d env a v w r. filled_val g env v (update_looked m d env a v w (does_goes r));
    stores = λ m d env cs b w r. filled_cells g (with_vars (places (length w.cells) cs) env) cs
        (store_looked m d env cs b w (runs_goes r));
  }
