-- The sites of the heap of each state of a run are the first ones of the heap at its end.
use Rattle.std.proofs.Common.{◌≡◌, ℕ, zero, suc, Bool, true, false, cond, List, [], ◌∷◌, ◌++◌, length, Option, Some, None, slice_get, slice_set, refl}
use Rattle.seq.proofs.Lists.{all_get}
use Rattle.grin_syntax.specs.Tree.{Code, end, store, bind, Act, leaf, unit, fetch, fetch_word, update, eval, apply, call, prim, read, write, case, nested, fail, Arms, no_arm, arm, Program}
use Rattle.grin_meaning.specs.Values.{Datum, number, words, Value, Env, HeapCell, State, World, Answer, gives, stops, missing, then_do, need, and_then, Binding, with_vars, one_each, MatchOutcome, fits, fits_not, unclear, fit_of, word_of, words_of, value_of, node_of, bindings_of}
use Rattle.grin_meaning.specs.Run.{Calls, act_by, code_by, arms_by, calls_by, run_by, require_if_checked, require_value_if_checked, choose, byte_or_end, after_read, spend, spent, with_state_seen, places, cells_of, with_cells, with_node, place_of, number_of, apply_arithmetic, global_cells, start_words, start_world}
use Rattle.grin_meaning.specs.Checks.{is_given}
use Rattle.grin_meaning.specs.Keeps.{world_of}
use Rattle.grin_meaning.specs.Looking.{checked_run}
use Rattle.grin_meaning.specs.Follows.{HoldsInEveryState}
use Rattle.grin_meaning.specs.Ready.{EachAct, EachCode, EachArms, IsInlined, inlined_kind}
use Rattle.grin_meaning.proofs.Fullness.{every_and}
use Rattle.dead_store.proofs.Heaps.{Begins, begins_self, begins_on, begins_more, begins_set}

-- where all states begin one heap, they begin every one that this begins
begin_on : (h h' : List HeapCell) → Begins h h' → (ss : List State)
    → HoldsInEveryState (λ s. Begins s.heap h) ss → HoldsInEveryState (λ s. Begins s.heap h') ss
begin_on h h' b [] all = tt
begin_on h h' b (s ∷ ss) all = (begins_on s.heap h h' all.0 b, begin_on h h' b ss all.1)

-- the second world comes later
record Grown (w w' : World) : Type 0 where
  pub cells : Begins w.cells w'.cells
  pub seen : HoldsInEveryState (λ s. Begins s.heap w.cells) w.seen
      → HoldsInEveryState (λ s. Begins s.heap w'.cells) w'.seen

still : (w : World) → Grown w w
still w = record { cells = begins_self w.cells; seen = λ all. all }

grown_on : {w w' w'' : World} → Grown w w' → Grown w' w'' → Grown w w''
grown_on {w} {w'} {w''} x y = record {
  cells = begins_on w.cells w'.cells w''.cells x.cells y.cells;
  seen
      = λ all. y.seen (x.seen all);
}

abbrev Grows : World → Answer → Type 0
Grows w a = Grown w (world_of a)

need_grows : {B : Type 0} (o : Option B) (w : World) (k : B → Answer)
    → ((b : B) → o ≡ Some b → Grows w (k b)) → Grows w (need o w k)
need_grows None w k f = still w
need_grows (Some b) w k f = f b refl

cond_grows : (b : Bool) (w : World) (x y : Answer) → Grows w x → Grows w y → Grows w (cond b x y)
cond_grows true w x y f h = f
cond_grows false w x y f h = h

looking_grows : (looks b : Bool) (w : World) (a : Answer) → Grows w a
    → Grows w (require_if_checked looks b w a)
looking_grows false b w a f = f
looking_grows true b w a f = cond_grows b w a (stops missing w) f (still w)

choose_grows : (q : MatchOutcome) (w : World) (k : List Binding → Answer) (x : Answer)
    → ((bs : List Binding) → Grows w (k bs)) → Grows w x → Grows w (choose q w k x)
choose_grows (fits bs) w k x h m = h bs
choose_grows fits_not w k x h m = m
choose_grows unclear w k x h m = still w

spend_grows : (l : ℕ) (w : World) (k : ℕ → Answer) → ((m : ℕ) → Grows w (k m))
    → Grows w (spend l w k)
spend_grows zero w k f = still w
spend_grows (suc m) w k f = f m

then_grows : (w : World) (a : Answer) (k : Value → World → Answer) → Grows w a
    → ((v : Value) (w' : World) → Grows w' (k v w')) → Grows w (then_do a k)
then_grows w (gives v w') k f h = grown_on f (h v w')
then_grows w (stops s w') k f h = f

given_grows : (looks : Bool) (w : World) (t : Value → Bool) (a : Answer) → Grows w a
    → Grows w (require_value_if_checked looks t a)
given_grows false w t a m = m
given_grows true w t a m = then_grows w a _ m
    (λ v w'. cond_grows (t v) w' _ _ (still w') (still w'))

passed : (env : Env) (w : World) → Grown w (with_state_seen env w)
passed env w = record {
  cells = begins_self w.cells;
  seen = λ all. every_and (λ s. Begins s.heap w.cells) w.seen
      (record { env = env; heap = w.cells }) all (begins_self w.cells);
}

stored : (hs : List HeapCell) (w : World) → Grown w (with_cells hs w)
stored hs w = record {
  cells = begins_more w.cells hs;
  seen = begin_on w.cells (w.cells ++ hs)
      (begins_more w.cells hs) w.seen;
}

record CallsGrow (c : Calls) : Type 0 where
  pub by : (f : ℕ) (xs : List Datum) (d : ℕ) (w : World) → Grows w (c f xs d w)

read_grows : (i : List ℕ) (w : World) → Grows w
    (gives (words (number (byte_or_end i) ∷ [])) (after_read i w))
read_grows [] w = still w
read_grows (k ∷ rest) w = record { cells = begins_self w.cells; seen = λ all. all }

module _ (g : Program) where
  module _ (looks : Bool) (c : Calls) (cm : CallsGrow c) where
    put_grows : (w : World) (i : ℕ) (y : HeapCell) (n : _) → slice_get w.cells i ≡ Some y
        → Grows w (gives (words []) (with_node i n y w))
    put_grows w i y n e = record {
      cells = begins_set w.cells i y n e;
      seen = begin_on w.cells
          (slice_set w.cells i (record { site = y.site; node = n })) (begins_set w.cells i y n e)
          w.seen;
    }

    mutual
      unfolding act_by EachAct

      act_grows : (env : Env) (d : ℕ) (o : Act) (w : World) → EachAct inlined_kind o
          → Grows w (act_by g c looks env d o w)
      act_grows env d (leaf (unit v)) w l = need_grows (value_of g env v) w _
          (λ y e. looking_grows looks _ w _ (still w))
      act_grows env d (leaf (fetch a)) w l = need_grows (and_then (word_of g env a) place_of) w _
          (λ i e. need_grows (slice_get w.cells i) w _ (λ y q. still w))
      act_grows env d (leaf (fetch_word a k)) w l = need_grows (and_then (word_of g env a) place_of)
          w _ (λ i e. need_grows (slice_get w.cells i) w _ (λ y q. still w))
      act_grows env d (leaf (update a v)) w l = need_grows (and_then (word_of g env a) place_of) w _
          (λ i e. need_grows (slice_get w.cells i) w _ (λ y q.
          need_grows (node_of g env v) w _
          (λ n r. looking_grows looks _ w _ (put_grows w i y n q))))
      act_grows env d (leaf (eval a)) w l = absurd l
      act_grows env d (leaf (apply v a)) w l = absurd l.0
      act_grows env d (leaf (call f ws)) w l = need_grows (words_of g env ws) w _
          (λ xs e. cm.by f.0 xs d w)
      act_grows env d (leaf (prim f a b)) w l = need_grows (word_of g env a) w _
          (λ x e. need_grows (word_of g env b) w _
          (λ y q. need_grows (apply_arithmetic f x y) w _ (λ v r. still w)))
      act_grows env d (leaf read) w l = read_grows w.input w
      act_grows env d (leaf (write a)) w l = need_grows (and_then (word_of g env a) number_of) w _
          (λ k e. record { cells = begins_self w.cells; seen = λ all. all })
      act_grows env d (case v as') w l = need_grows (value_of g env v) w _
          (λ y e. arms_grow env d y as' w l.2)
      act_grows env d (nested b) w l = code_grows env d b w l.1
      act_grows env d (leaf fail) w l = still w

      code_grows : (env : Env) (d : ℕ) (b : Code) (w : World) → EachCode inlined_kind b
          → Grows w (code_by g c looks env d b w)
      code_grows env d (end o) w l = act_grows env d o w l
      code_grows env d (store cs b) w l = need_grows
          (cells_of g (with_vars (places (length w.cells) cs) env) cs) w _
          (λ hs e. looking_grows looks _ w _
          (grown_on (stored hs w)
          (grown_on (passed (with_vars (places (length w.cells) cs) env) (with_cells hs w))
          (code_grows (with_vars (places (length w.cells) cs) env) d b
          (with_state_seen (with_vars (places (length w.cells) cs) env) (with_cells hs w))
          l.1))))
      code_grows env d (bind t o b) w l = then_grows w (act_by g c looks env (suc d) o w) _
          (act_grows env (suc d) o w l.1)
          (λ v w'. looking_grows looks _ w' _ (need_grows (bindings_of g t v) w' _ (λ bs e.
          grown_on (passed (with_vars bs env) w')
          (code_grows (with_vars bs env) d b (with_state_seen (with_vars bs env) w') l.2))))

      arms_grow : (env : Env) (d : ℕ) (v : Value) (as' : Arms) (w : World)
          → EachArms inlined_kind as' → Grows w (arms_by g c looks env d v as' w)
      arms_grow env d v no_arm w l = still w
      arms_grow env d v (arm s b as') w l = choose_grows (fit_of g s v) w _ _
          (λ bs. grown_on (passed (with_vars bs env) w)
          (code_grows (with_vars bs env) d b (with_state_seen (with_vars bs env) w) l.1))
          (arms_grow env d v as' w l.2)

  module _ (inlined : IsInlined g) where
    calls_grow : (looks : Bool) (n : ℕ) → CallsGrow (calls_by g looks n)
    unfolding calls_by
    calls_grow looks zero = record { by = λ f xs d w. still w }
    calls_grow looks (suc n) = record {
      by = λ f xs d w. spend_grows w.left w _
          (λ m. need_grows (slice_get g.procs f) w _
          (λ q e. need_grows (one_each q.params xs) w _ (λ bs r.
          let env : Env = with_vars bs (λ y. None) in
          given_grows looks w (is_given g)
          (code_by g (calls_by g looks n) looks env d q.body
          (with_state_seen env (spent f d m w)))
          (grown_on {w' = spent f d m w} (record { cells = begins_self w.cells; seen = λ all. all })
          (grown_on (passed env (spent f d m w))
          (code_grows looks (calls_by g looks n) (calls_grow looks n) env d q.body
          (with_state_seen env (spent f d m w))
          (all_get (λ q. EachCode inlined_kind q.body) g.procs f q inlined e)))))));
    }

    run_grows : (i : List ℕ) (n : ℕ) → Grown (start_world g i n) (world_of (checked_run g i n))
    unfolding run_by
    run_grows i n = (calls_grow true n).by g.start.0 (start_words g.argument) 0 (start_world g i n)

    -- each state that a looking run passes through, and the heap with which it starts
    pub all_begin : (i : List ℕ) (n : ℕ) → HoldsInEveryState
        (λ s. Begins s.heap (world_of (checked_run g i n)).cells)
        (world_of (checked_run g i n)).seen
    all_begin i n = (run_grows i n).seen tt

    pub start_begins : (i : List ℕ) (n : ℕ) → Begins (global_cells g)
        (world_of (checked_run g i n)).cells
    start_begins i n = (run_grows i n).cells
