-- Two programs whose procedures go side by side, one by one: each takes related arguments to
-- related results.
use Rattle.std.proofs.Common.{◌≡◌, ℕ, zero, suc, ◌+◌, max, List, [], ◌∷◌, Option, Some, None, slice_get, refl, subst, arith}
use Rattle.grin_syntax.specs.Tree.{Procedure, Program}
use Rattle.grin_meaning.specs.Values.{Value, Datum, Env, State, World, Answer, need, one_each, Binding, with_vars}
use Rattle.grin_meaning.specs.Run.{Calls, code, calls, run, spent, with_state_seen, start_words, start_world}
use Rattle.grin_meaning.specs.Keeps.{world_of, Keeps}
use Rattle.grin_meaning.specs.Follows.{DepthComparison, other, Follows, free, stops_too, HoldsInEveryState}
use Rattle.grin_meaning.proofs.Back.{CallsBack, calls_back}
use Rattle.grin_meaning.proofs.Related.{Sim, spend_sim, CallsFollow, Setting, CodeFollows, enter}
use Rattle.grin_meaning.proofs.Following.{keeps_following}

-- where a procedure begins no variable is bound
abbrev pub nothing : Env
nothing = λ y. None

-- procedure f: its parameters take related arguments to related environments, and its body follows
pub record BodyFollows (s : Setting) (f : ℕ) (q r : Procedure) : Type 1 where
  pub R : Env → Env → Type 0
  pub enters : (xs xs' : List Datum) (bs : List Binding) → s.Args f xs xs'
      → one_each q.params xs ≡ Some bs
      → (bs' : List Binding) ×
      ((one_each r.params xs' ≡ Some bs') × R (with_vars bs nothing) (with_vars bs' nothing))
  pub body : CodeFollows s R (s.Result f) q.body r.body

-- the procedures from number f on
pub data BodiesFollow (s : Setting) : ℕ → List Procedure → List Procedure → Type 1 where
  no_more : {f : ℕ} → BodiesFollow s f [] []
  one_more : {f : ℕ} {q r : Procedure} {qs rs : List Procedure} → BodyFollows s f q r
      → BodiesFollow s (suc f) qs rs → BodiesFollow s f (q ∷ qs) (r ∷ rs)

module _ (P : State → Type 0) (K : DepthComparison) (Args : ℕ → List Datum → List Datum → Type 0)
    (Result : ℕ → Value → Value → Type 0) (g : Program) (procs : List Procedure) where
  abbrev pub side_by_side : (c c' : Calls) → CallsBack P c → CallsFollow P K Args Result c c'
      → Setting
  side_by_side c c' cb cf = record {
    P = P;
    K = K;
    Args = Args;
    Result = Result;
    g = g;
    procs = procs;
    c = c;
    c' = c';
    back
        = cb;
    follow = cf;
  }

  abbrev pub second : Program
  second = record g { procs = procs }

  abbrev first_body : (n m x : ℕ) → List Datum → ℕ → World → Option Procedure → Answer
  first_body n m x xs d w o = need o w
      (λ q. need (one_each q.params xs) w
      (λ bs. code g (calls g n) (with_vars bs nothing) d q.body
      (with_state_seen (with_vars bs nothing) (spent x d m w))))

  abbrev second_body : (n m x : ℕ) → List Datum → ℕ → World → Option Procedure → Answer
  second_body n m x xs d w o = need o w
      (λ q. need (one_each q.params xs) w
      (λ bs. code second (calls second n) (with_vars bs nothing) d q.body
      (with_state_seen (with_vars bs nothing) (spent x d m w))))

  body_follows : (n m x : ℕ) (cf : CallsFollow P K Args Result (calls g n) (calls second n)) (f : ℕ)
      (q r : Procedure) → BodyFollows
      (side_by_side (calls g n) (calls second n) (calls_back P g n) cf) f q r
      → (xs xs' : List Datum) (d d' : ℕ) (w : World) (ss : List State) (e : ℕ) → Args f xs xs'
      → K.Deep d' d → K.Deep e w.depth
      → Sim P K (Result f) (first_body n m x xs d w (Some q))
      (second_body n m x xs' d' (other w ss e) (Some r))
  body_follows n m x cf f q r b xs xs' d d' w ss e a dd de = by_bound (one_each q.params xs) refl
    where
      by_bound : (o : Option (List Binding)) → one_each q.params xs ≡ o
          → Sim P K (Result f) (first_body n m x xs d w (Some q))
          (second_body n m x xs' d' (other w ss e) (Some r))
      by_bound None h = rw h (λ _. free)
      by_bound (Some bs) h =
          let too = b.enters xs xs' bs a h in
          rw (h, too.1.0)
          (enter (side_by_side (calls g n) (calls second n) (calls_back P g n) cf) b.R
          (Result f) q.body r.body b.body
          (with_vars bs nothing) (with_vars too.0 nothing) d d' (spent x d m w) ss (max e d')
          too.1.1 dd (K.greater de dd))

  one_follows : (n m x : ℕ) (cf : CallsFollow P K Args Result (calls g n) (calls second n))
      (xs xs' : List Datum) (d d' : ℕ) (w : World) (ss : List State) (e : ℕ) → K.Deep d' d
      → K.Deep e w.depth
      → (f : ℕ) (qs rs : List Procedure) → BodiesFollow
      (side_by_side (calls g n) (calls second n) (calls_back P g n) cf) f qs rs → (i : ℕ)
      → x ≡ f + i → Args x xs xs'
      → Sim P K (Result x) (first_body n m x xs d w (slice_get qs i))
      (second_body n m x xs' d' (other w ss e) (slice_get rs i))
  one_follows n m x cf xs xs' d d' w ss e dd de f [] [] no_more i h a = λ _. free
  one_follows n m x cf xs xs' d d' w ss e dd de f [] (r ∷ rs) b i h a = elim b [ ]
  one_follows n m x cf xs xs' d d' w ss e dd de f (q ∷ qs) [] b i h a = elim b [ ]
  one_follows n m x cf xs xs' d d' w ss e dd de f (q ∷ qs) (r ∷ rs) (one_more b bs) zero h a =
      let here : f ≡ x = omega (arith, h) in
      subst (λ k. Args k xs xs' → Sim P K (Result k) (first_body n m x xs d w (Some q))
      (second_body n m x xs' d' (other w ss e) (Some r))) here
      (λ a'. body_follows n m x cf f q r b xs xs' d d' w ss e a' dd de) a
  one_follows n m x cf xs xs' d d' w ss e dd de f (q ∷ qs) (r ∷ rs) (one_more b bs) (suc i) h a
      = one_follows n m x cf xs xs' d d' w ss e dd de (suc f) qs rs bs i (omega (arith, h)) a

  module _ (each : (c c' : Calls) (cb : CallsBack P c) (cf : CallsFollow P K Args Result c c')
      → BodiesFollow (side_by_side c c' cb cf) 0 g.procs procs) where
    pub all_follow : (n : ℕ) → CallsFollow P K Args Result (calls g n) (calls second n)
    unfolding calls
    all_follow zero = record { by = λ x xs xs' d d' w ss e a dd de _. stops_too ss e de }
    all_follow (suc n) = record {
      by = λ x xs xs' d d' w ss e a dd de. spend_sim P K (Result x) w.left w ss e _ _ de (λ m.
          one_follows n m x (all_follow n) xs xs' d d' w ss e dd de 0 g.procs procs
          (each (calls g n) (calls second n) (calls_back P g n) (all_follow n)) x (omega arith)
          a);
    }

    -- the runs, where the start takes its argument to itself
    pub related_follow : Args g.start.0 (start_words g.argument) (start_words g.argument)
        → ((i : List ℕ) (n : ℕ) → HoldsInEveryState P (world_of (run g i n)).seen)
        → (i : List ℕ) (n : ℕ) → Follows K (Result g.start.0) (run g i n) (run second i n)
    unfolding run
    related_follow a all i n = (all_follow n).by g.start.0 (start_words g.argument)
        (start_words g.argument) 0 0 (start_world g i n) [] 0 a K.start K.start (all i n)

    pub related_keep : Args g.start.0 (start_words g.argument) (start_words g.argument)
        → ((i : List ℕ) (n : ℕ) → HoldsInEveryState P (world_of (run g i n)).seen) → Keeps g second
    related_keep a all = keeps_following K (Result g.start.0) g second (related_follow a all)
