-- The states that a run has passed through stay.
use Rattle.std.proofs.Common.{ℕ, zero, suc, List, [], ◌∷◌, ◌++◌, length, Bool, true, false, cond, Option, Some, None, slice_get}
use Rattle.grin_syntax.specs.Tree.{Code, end, store, bind, Act, leaf, unit, fetch, fetch_word, update, eval, apply, call, prim, read, write, case, nested, fail, Arms, no_arm, arm, Program}
use Rattle.grin_meaning.specs.Values.{Datum, number, words, Node, Value, Env, State, World, Answer, gives, stops, then_do, need, and_then, Binding, with_vars, one_each, MatchOutcome, fits, fits_not, unclear, fit_of, as_node, made_node, word_of, words_of, value_of, node_of, bindings_of}
use Rattle.grin_meaning.specs.Run.{Calls, act_by, code_by, arms_by, code, calls, calls_by, require_if_checked, require_value_if_checked, choose, byte_or_end, after_read, spend, spent, with_state_seen, places, cells_of, with_cells, place_of, number_of, apply_arithmetic, eval_cell, updated, apply_node, apply_part, is_fun_kind, is_part_kind, is_evaluated, part_from}
use Rattle.grin_meaning.specs.Keeps.{world_of}
use Rattle.grin_meaning.specs.Follows.{HoldsInEveryState}

module _ (P : State → Type 0) where
  pub every_front : (xs ys : List State) → HoldsInEveryState P (xs ++ ys) → HoldsInEveryState P xs
  every_front [] ys h = tt
  every_front (x ∷ xs) ys h = (h.0, every_front xs ys h.1)

  pub every_last : (xs : List State) (s : State) → HoldsInEveryState P (xs ++ s ∷ []) → P s
  every_last [] s h = h.0
  every_last (x ∷ xs) s h = every_last xs s h.1

  -- where a block goes on, its state is as P says
  pub at_entry : (w : World) (s : State) (a : Answer)
      → (HoldsInEveryState P (world_of a).seen → HoldsInEveryState P (w.seen ++ s ∷ []))
      → HoldsInEveryState P (world_of a).seen → P s
  at_entry w s a b e = every_last w.seen s (b e)

  -- what holds of each state in the end held of each before
  abbrev pub Back : World → Answer → Type 0
  Back w a = HoldsInEveryState P (world_of a).seen → HoldsInEveryState P w.seen

  pub need_back : {A : Type 0} (o : Option A) (w : World) (k : A → Answer)
      → ((a : A) → Back w (k a)) → Back w (need o w k)
  need_back None w k h = λ e. e
  need_back (Some a) w k h = h a

  pub then_back : (a : Answer) (w : World) (k : Value → World → Answer) → Back w a
      → ((v : Value) (w' : World) → Back w' (k v w')) → Back w (then_do a k)
  then_back (gives v w') w k b h = λ e. b (h v w' e)
  then_back (stops s w') w k b h = b

  cond_back : (b : Bool) (w : World) (x y : Answer) → Back w x → Back w y → Back w (cond b x y)
  cond_back true w x y hx hy = hx
  cond_back false w x y hx hy = hy

  choose_back : (f : MatchOutcome) (w : World) (k : List Binding → Answer) (x : Answer)
      → ((bs : List Binding) → Back w (k bs)) → Back w x → Back w (choose f w k x)
  choose_back (fits bs) w k x h hx = h bs
  choose_back fits_not w k x h hx = hx
  choose_back unclear w k x h hx = λ e. e

  pub looking_back : (looks b : Bool) (w : World) (a : Answer) → Back w a
      → Back w (require_if_checked looks b w a)
  looking_back false b w a h = h
  looking_back true b w a h = cond_back b w a _ h (λ e. e)

  pub given_back : (looks : Bool) (f : Value → Bool) (w : World) (a : Answer) → Back w a
      → Back w (require_value_if_checked looks f a)
  given_back false f w a h = h
  given_back true f w a h = then_back a w _ h (λ v w'. cond_back (f v) w' _ _ (λ e. e) (λ e. e))

  pub record CallsBack (c : Calls) : Type 0 where
    pub by : (f : ℕ) (xs : List Datum) (d : ℕ) (w : World) → Back w (c f xs d w)

  module _ (p : Program) (c : Calls) (cb : CallsBack c) where
    pub updated_back : (a : ℕ) (v : Value) (w : World) → Back w (updated p c a v w)
    updated_back a v w = need_back (as_node p v) w _
        (λ n. need_back (slice_get w.cells a) w _
        (λ x. cond_back (is_evaluated p n) w _ _ (λ e. e) (λ e. e)))

    pub eval_back : (d a : ℕ) (w : World) → Back w (eval_cell p c d a w)
    eval_back d a w = need_back (slice_get w.cells a) w _
        (λ x. need_back (slice_get p.tags x.node.tag) w _ (λ t.
        cond_back (is_fun_kind t.kind) w _ _
        (need_back t.proc w _
        (λ f. then_back (c f.0 x.node.fields (suc d) w) w _ (cb.by f.0 x.node.fields (suc d) w)
        (λ v w'. updated_back a v w')))
        (λ e. e)))

    part_back : (d : ℕ) (n : Node) (x : Datum) (f r : ℕ) (w : World)
        → Back w (apply_part p c d n x f r w)
    part_back d n x f zero w = λ e. e
    part_back d n x f (suc zero) w = cb.by f (n.fields ++ x ∷ []) d w
    part_back d n x f (suc (suc r)) w = need_back (part_from 0 p.tags f (suc r)) w _
        (λ t. need_back (made_node p t (n.fields ++ x ∷ [])) w _ (λ m e. e))

    apply_back : (d : ℕ) (n : Node) (x : Datum) (w : World) → Back w (apply_node p c d n x w)
    apply_back d n x w = need_back (slice_get p.tags n.tag) w _
        (λ t. cond_back (is_part_kind t.kind) w _ _
        (need_back t.proc w _ (λ f. part_back d n x f.0 t.missing w)) (λ e. e))

    read_back : (i : List ℕ) (w : World) → Back w
        (gives (words (number (byte_or_end i) ∷ [])) (after_read i w))
    read_back [] w = λ e. e
    read_back (k ∷ rest) w = λ e. e

    module _ (looks : Bool) where
      mutual
        unfolding act_by

        pub act_back : (env : Env) (d : ℕ) (o : Act) (w : World)
            → Back w (act_by p c looks env d o w)
        act_back env d (leaf (unit v)) w = need_back (value_of p env v) w _
            (λ x. looking_back looks _ w _ (λ e. e))
        act_back env d (leaf (fetch a)) w = need_back (and_then (word_of p env a) place_of) w _
            (λ i. need_back (slice_get w.cells i) w _ (λ x e. e))
        act_back env d (leaf (fetch_word a k)) w = need_back (and_then (word_of p env a) place_of) w
            _ (λ i. need_back (slice_get w.cells i) w _ (λ x e. e))
        act_back env d (leaf (update a v)) w = need_back (and_then (word_of p env a) place_of) w _
            (λ i. need_back (slice_get w.cells i) w _
            (λ x. need_back (node_of p env v) w _ (λ n. looking_back looks _ w _ (λ e. e))))
        act_back env d (leaf (eval a)) w = need_back (and_then (word_of p env a) place_of) w _
            (λ i. eval_back d i w)
        act_back env d (leaf (apply v a)) w = need_back (node_of p env v) w _
            (λ n. need_back (word_of p env a) w _ (λ x. apply_back d n x w))
        act_back env d (leaf (call f ws)) w = need_back (words_of p env ws) w _
            (λ xs. cb.by f.0 xs d w)
        act_back env d (leaf (prim f a b)) w = need_back (word_of p env a) w _
            (λ x. need_back (word_of p env b) w _
            (λ y. need_back (apply_arithmetic f x y) w _ (λ v e. e)))
        act_back env d (leaf read) w = read_back w.input w
        act_back env d (leaf (write a)) w = need_back (and_then (word_of p env a) number_of) w _
            (λ k e. e)
        act_back env d (case v as') w = need_back (value_of p env v) w _
            (λ x. arms_back env d x as' w)
        act_back env d (nested b) w = code_by_back env d b w
        act_back env d (leaf fail) w = λ e. e

        pub code_by_back : (env : Env) (d : ℕ) (b : Code) (w : World)
            → Back w (code_by p c looks env d b w)
        code_by_back env d (end o) w = act_back env d o w
        code_by_back env d (store cs b) w = need_back
            (cells_of p (with_vars (places (length w.cells) cs) env) cs) w _
            (λ hs. looking_back looks _ w _ (λ e.
            every_front w.seen _
            (code_by_back (with_vars (places (length w.cells) cs) env) d b
            (with_state_seen (with_vars (places (length w.cells) cs) env) (with_cells hs w))
            e)))
        code_by_back env d (bind t o b) w = then_back (act_by p c looks env (suc d) o w) w _
            (act_back env (suc d) o w) (λ v w'. looking_back looks _ w' _
            (need_back (bindings_of p t v) w' _
            (λ bs e. every_front w'.seen _
            (code_by_back (with_vars bs env) d b (with_state_seen (with_vars bs env) w') e))))

        pub arms_back : (env : Env) (d : ℕ) (v : Value) (as' : Arms) (w : World)
            → Back w (arms_by p c looks env d v as' w)
        arms_back env d v no_arm w = λ e. e
        arms_back env d v (arm s b as') w = choose_back (fit_of p s v) w _ _
            (λ bs e. every_front w.seen _
            (code_by_back (with_vars bs env) d b (with_state_seen (with_vars bs env) w) e))
            (arms_back env d v as' w)

    pub code_back : (env : Env) (d : ℕ) (b : Code) (w : World) → Back w (code p c env d b w)
    code_back = code_by_back false

  spend_back : (l : ℕ) (w : World) (k : ℕ → Answer) → ((m : ℕ) → Back w (k m))
      → Back w (spend l w k)
  spend_back zero w k h = λ e. e
  spend_back (suc m) w k h = h m

  pub calls_by_back : (p : Program) (looks : Bool) (n : ℕ) → CallsBack (calls_by p looks n)
  unfolding calls_by
  calls_by_back p looks zero = record { by = λ f xs d w e. e }
  calls_by_back p looks (suc n) = record {
    by = λ f xs d w. spend_back w.left w _
        (λ m. need_back (slice_get p.procs f) w _
        (λ q. need_back (one_each q.params xs) w _ (λ bs. given_back looks _ w _ (λ e.
        every_front w.seen _
        (code_by_back p (calls_by p looks n) (calls_by_back p looks n) looks
        (with_vars bs (λ y. None)) d q.body
        (with_state_seen (with_vars bs (λ y. None)) (spent f d m w)) e)))));
  }

  pub calls_back : (p : Program) (n : ℕ) → CallsBack (calls p n)
  unfolding calls
  calls_back p n = calls_by_back p false n
