-- Programs whose procedures follow each other, each with its own relation of variables, run side by
-- side.
use Rattle.std.proofs.Common.{◌≡◌, ℕ, zero, suc, ◌+◌, max, List, [], ◌∷◌, Option, Some, slice_get, subst, arith}
use Rattle.grin_syntax.specs.Tree.{Procedure, Program}
use Rattle.grin_meaning.specs.Values.{Value, Datum, Env, HeapCell, World, Answer, need, one_each, Binding, with_vars}
use Rattle.grin_meaning.specs.Checks.{is_given}
use Rattle.grin_meaning.specs.Run.{Calls, code_by, calls_by, run_by, require_value_if_checked, spent, with_state_seen, global_cells, start_words, start_world}
use Rattle.grin_meaning.specs.Keeps.{world_of}
use Rattle.grin_meaning.specs.Follows.{HoldsInEveryState}
use Rattle.grin_meaning.proofs.Back.{CallsBack, calls_by_back, code_by_back, given_back, every_last}
use Rattle.grin_meaning.proofs.Beside.{Beside, beside, Likewise, free, stops_too, Seen, Sim, need_is, need_first, spend_sim, given_sim}
use Rattle.grin_meaning.proofs.Rules.{Relation, Plan, CallsFollow, Setting, CodeFollows, enter}
use Rattle.grin_meaning.proofs.Paired.{nothing}

-- procedure f: its parameters take related arguments to related variables, its body follows, and
-- what it gives then is its result
pub record BodyFollows (s : Setting) (f : ℕ) (q r : Procedure) : Type 1 where
  pub R : Relation
  pub V : Value → Value → Type 0
  pub enters : (c : List HeapCell) (xs xs' : List Datum) (bs : List Binding) → s.plan.Args f xs xs'
      → one_each q.params xs ≡ Some bs → s.plan.P (record { env = with_vars bs nothing; heap = c })
      → (bs' : List Binding) × (one_each r.params xs' ≡ Some bs')
      × R c (with_vars bs nothing) (with_vars bs' nothing)
  pub body : CodeFollows s R V q.body r.body
  pub given : (v v' : Value) → V v v' → Seen s.plan.looks (is_given s.plan.g v)
      → Seen s.plan.looks (is_given s.plan.g v') × s.plan.Result f v v'

-- the procedures from number f on
pub data BodiesFollow (s : Setting) : ℕ → List Procedure → List Procedure → Type 1 where
  no_more : {f : ℕ} → BodiesFollow s f [] []
  one_more : {f : ℕ} {q r : Procedure} {qs rs : List Procedure} → BodyFollows s f q r
      → BodiesFollow s (suc f) qs rs → BodiesFollow s f (q ∷ qs) (r ∷ rs)

module _ (p : Plan) where
  open p use {looks, K, P, Args, Result, g, procs}

  abbrev pub side_by_side : (c c' : Calls) → CallsBack P c → CallsFollow p c c' → Setting
  side_by_side c c' cb cf = record { plan = p; c = c; c' = c'; back = cb; follow = cf }

  abbrev pub second : Program
  second = record g { procs = procs }

  abbrev entry : Program → (n m x : ℕ) → ℕ → World → Procedure → List Binding → Answer
  entry q n m x d w r bs = require_value_if_checked looks (is_given q)
      (code_by q (calls_by q looks n) looks (with_vars bs nothing) d r.body
      (with_state_seen (with_vars bs nothing) (spent x d m w)))

  abbrev called : Program → (n m x : ℕ) → List Datum → ℕ → World → Option Procedure → Answer
  called q n m x xs d w o = need o w (λ r. need (one_each r.params xs) w (entry q n m x d w r))

  abbrev pub at : (n : ℕ) → CallsFollow p (calls_by g looks n) (calls_by second looks n) → Setting
  at n cf = side_by_side (calls_by g looks n) (calls_by second looks n) (calls_by_back P g looks n)
      cf

  body_follows : (n m x : ℕ) (cf : CallsFollow p (calls_by g looks n) (calls_by second looks n))
      (f : ℕ) (q r : Procedure) → BodyFollows (at n cf) f q r
      → (xs xs' : List Datum) (d d' : ℕ) (w : World) (b : Beside K w)
      → Args f xs xs' → K.Deep d' d → Sim P K (Result f) (called g n m x xs d w (Some q))
      (called second n m x xs' d' (beside b) (Some r))
  body_follows n m x cf f q r y xs xs' d d' w b a nest
      = need_first P K (Result f) (one_each q.params xs) w _ _ (λ bs e all.
      let env : Env = with_vars bs nothing in
      let w1 : World = spent x d m w in
      let known : P (record { env = env; heap = w.cells })
      = every_last P w.seen _
      (given_back P looks (is_given g) (with_state_seen env w1) _
      (code_by_back P g (calls_by g looks n) (calls_by_back P g looks n) looks env d q.body
      (with_state_seen env w1)) all) in
      let too : (bs' : List Binding) × (one_each r.params xs' ≡ Some bs')
      × y.R w.cells env (with_vars bs' nothing) = y.enters w.cells xs xs' bs a e known in
      let n1 : Beside K w1 = record {
        cells = b.cells;
        seen = b.seen;
        depth = max b.depth d';
        heaps = b.heaps;
        deep
            = K.greater b.deep nest;
      } in
      subst (Likewise K (Result f) (entry g n m x d w q bs))
      (need_is (one_each r.params xs') too.0 (beside b) (entry second n m x d' (beside b) r)
      too.1)
      (given_sim P K y.V (Result f) looks (is_given g) (is_given second) _ _
      (enter (at n cf) y.R y.V q.body r.body y.body env (with_vars too.0 nothing) d d' w1 n1
      nest (λ _. too.2)) y.given all))

  one_follows : (n m x : ℕ) (cf : CallsFollow p (calls_by g looks n) (calls_by second looks n))
      (xs xs' : List Datum) (d d' : ℕ) (w : World) (b : Beside K w) → K.Deep d' d
      → (f : ℕ) (qs rs : List Procedure) → BodiesFollow (at n cf) f qs rs → (i : ℕ) → x ≡ f + i
      → Args x xs xs' → Sim P K (Result x) (called g n m x xs d w (slice_get qs i))
      (called second n m x xs' d' (beside b) (slice_get rs i))
  one_follows n m x cf xs xs' d d' w b nest f [] [] no_more i h a = λ _. free
  one_follows n m x cf xs xs' d d' w b nest f [] (r ∷ rs) y i h a = elim y [ ]
  one_follows n m x cf xs xs' d d' w b nest f (q ∷ qs) [] y i h a = elim y [ ]
  one_follows n m x cf xs xs' d d' w b nest f (q ∷ qs) (r ∷ rs) (one_more y ys) zero h a =
      let here : f ≡ x = omega (arith, h) in
      subst (λ k. Args k xs xs' → Sim P K (Result k) (called g n m x xs d w (Some q))
      (called second n m x xs' d' (beside b) (Some r))) here
      (λ a'. body_follows n m x cf f q r y xs xs' d d' w b a' nest) a
  one_follows n m x cf xs xs' d d' w b nest f (q ∷ qs) (r ∷ rs) (one_more y ys) (suc i) h a
      = one_follows n m x cf xs xs' d d' w b nest (suc f) qs rs ys i (omega (arith, h)) a

  -- bodies follow with the calls of any number of units, of which more may be known than of all
  -- calls
  module _ (each : (n : ℕ) (cf : CallsFollow p (calls_by g looks n) (calls_by second looks n))
      → BodiesFollow (at n cf) 0 g.procs procs) where
    calls_too : (n : ℕ) → CallsFollow p (calls_by g looks n) (calls_by second looks n)
    unfolding calls_by
    calls_too zero = record { by = λ x xs xs' d d' w b a nest _. stops_too b }
    calls_too (suc n) = record {
      by = λ x xs xs' d d' w b a nest. spend_sim P K (Result x) w.left w b _ _
          (λ m. one_follows n m x (calls_too n) xs xs' d d' w b nest 0 g.procs procs
          (each n (calls_too n)) x (omega arith) a);
    }

    -- the run on i with n units, where the start takes its argument to itself; the plan may be one
    -- for this run
    pub run_too : (i : List ℕ) (n : ℕ) → Args g.start.0 (start_words g.argument)
        (start_words g.argument) → K.Heaps (global_cells g) (global_cells g)
        → HoldsInEveryState P (world_of (run_by g looks i n)).seen
        → Likewise K (Result g.start.0) (run_by g looks i n) (run_by second looks i n)
    unfolding run_by
    run_too i n a heaps all = (calls_too n).by g.start.0 (start_words g.argument)
        (start_words g.argument) 0 0 (start_world g i n)
        (record { cells = global_cells g; seen = []; depth = 0; heaps = heaps; deep = K.start }) a
        K.start all

  module _ (each : (c c' : Calls) (cb : CallsBack P c) (cf : CallsFollow p c c')
      → BodiesFollow (side_by_side c c' cb cf) 0 g.procs procs) where
    each_at : (n : ℕ) (cf : CallsFollow p (calls_by g looks n) (calls_by second looks n))
        → BodiesFollow (at n cf) 0 g.procs procs
    each_at n cf = each (calls_by g looks n) (calls_by second looks n) (calls_by_back P g looks n)
        cf

    pub all_follow : (n : ℕ) → CallsFollow p (calls_by g looks n) (calls_by second looks n)
    all_follow = calls_too each_at

    pub run_follows : (i : List ℕ) (n : ℕ) → Args g.start.0 (start_words g.argument)
        (start_words g.argument) → K.Heaps (global_cells g) (global_cells g)
        → HoldsInEveryState P (world_of (run_by g looks i n)).seen
        → Likewise K (Result g.start.0) (run_by g looks i n) (run_by second looks i n)
    run_follows = run_too each_at
