-- Two runs side by side: where one goes on, so does the other, and with values that are related.
use Rattle.std.proofs.Common.{◌≡◌, ℕ, zero, suc, max, ◌≤◌, Bool, true, false, cond, List, length, Option, Some, None, refl, sym, ap, subst, arith}
use Rattle.seq.proofs.Truth.{false_not_true}
use Rattle.grin_meaning.specs.Values.{Value, HeapCell, State, World, Stop, missing, Answer, gives, stops, then_do, need}
use Rattle.grin_meaning.specs.Run.{require_if_checked, require_value_if_checked, spend}
use Rattle.grin_meaning.specs.Keeps.{world_of}
use Rattle.grin_meaning.specs.Follows.{Same, same, HoldsInEveryState}
use Rattle.grin_meaning.proofs.Back.{Back}

-- how the nestings of two runs compare, and their heaps
pub record Compared : Type 1 where
  pub Deep : ℕ → ℕ → Type 0
  pub start : Deep 0 0
  pub up : {d d' : ℕ} → Deep d' d → Deep (suc d') (suc d)
  pub greater : {d d' e e' : ℕ} → Deep e' e → Deep d' d → Deep (max e' d') (max e d)
  pub at_most : {d d' : ℕ} → Deep d' d → d' ≤ d
  pub Heaps : List HeapCell → List HeapCell → Type 0
  pub fewer : {c c' : List HeapCell} → Heaps c c' → length c' ≤ length c

-- where the heaps are the same, and the nesting is at most what it was, or equal
abbrev pub no_deeper : Compared
no_deeper = record {
  Deep = λ e d. e ≤ d;
  start = omega arith;
  up = λ h. omega arith;
  greater
      = λ h k. omega arith;
  at_most = λ h. h;
  Heaps = Same;
  fewer = same_length;
}
  where
    same_length : {c c' : List HeapCell} → Same c c' → length c' ≤ length c
    same_length same = omega arith

abbrev pub as_deep : Compared
as_deep = record {
  Deep = λ e d. e ≡ d;
  start = refl;
  up = λ h. omega arith;
  greater
      = λ h k. omega arith;
  at_most = λ h. omega arith;
  Heaps = Same;
  fewer = no_deeper.fewer;
}

-- a world beside w: the same but for the heap, the states passed through and the greatest nesting
pub record Beside (K : Compared) (w : World) : Type 0 where
  pub cells : List HeapCell
  pub seen : List State
  pub depth : ℕ
  pub heaps : K.Heaps w.cells cells
  pub deep : K.Deep depth w.depth

abbrev pub beside : {K : Compared} {w : World} → Beside K w → World
beside {w = w} b = record w { cells = b.cells; seen = b.seen; depth = b.depth }

-- the second answer is like the first, with a value that V relates to its value, in a world beside;
-- after a missing one anything may come
pub data Likewise (K : Compared) (V : Value → Value → Type 0) : Answer → Answer → Type 0 where
  free : {w : World} {a : Answer} → Likewise K V (stops missing w) a
  gives_too : {v v' : Value} {w : World} (b : Beside K w) → V v v'
      → Likewise K V (gives v w) (gives v' (beside b))
  stops_too : {s : Stop} {w : World} (b : Beside K w)
      → Likewise K V (stops s w) (stops s (beside b))

-- a looking run has seen this
abbrev pub Seen : Bool → Bool → Type 0
Seen looks b = looks ≡ true → b ≡ true

-- a run that does not look has

pub need_is : {A : Type 0} (o : Option A) (a : A) (w : World) (k : A → Answer) → o ≡ Some a
    → k a ≡ need o w k
need_is o a w k e = ap (λ q. need q w k) (sym e)

module _ (P : State → Type 0) (K : Compared) where
  -- where the states of the first are as P says, the second answers likewise
  abbrev pub Sim : (Value → Value → Type 0) → Answer → Answer → Type 0
  Sim V a a' = HoldsInEveryState P (world_of a).seen → Likewise K V a a'

  like_more : {U : Value → Value → Type 0} {a a' : Answer} (V : Value → Value → Type 0)
      → ((v v' : Value) → U v v' → V v v') → Likewise K U a a' → Likewise K V a a'
  like_more V h free = free
  like_more V h (gives_too {v} {v'} b u) = gives_too b (h v v' u)
  like_more V h (stops_too b) = stops_too b

  pub sim_more : (U V : Value → Value → Type 0) (a a' : Answer) → ((v v' : Value) → U v v' → V v v')
      → Sim U a a' → Sim V a a'
  sim_more U V a a' h s = λ all. like_more V h (s all)

  -- what is there in the first is there in the second
  pub need_sim : {A A' : Type 0} (V : Value → Value → Type 0) (o : Option A) (o' : Option A')
      (w w' : World) (k : A → Answer) (k' : A' → Answer)
      → ((a : A) → o ≡ Some a → (a' : A') × (o' ≡ Some a') × Sim V (k a) (k' a'))
      → Sim V (need o w k) (need o' w' k')
  need_sim V None o' w w' k k' h = λ _. free
  need_sim V (Some a) o' w w' k k' h = let x : (a' : _) × (o' ≡ Some a') × Sim V (k a) (k' a')
      = h a refl in subst (λ q. Sim V (k a) (need q w' k')) (sym x.1) x.2

  pub need_both : {A : Type 0} (V : Value → Value → Type 0) (o : Option A) (w w' : World)
      (k k' : A → Answer) → ((a : A) → o ≡ Some a → Sim V (k a) (k' a))
      → Sim V (need o w k) (need o w' k')
  need_both V None w w' k k' h = λ _. free
  need_both V (Some a) w w' k k' h = h a refl

  -- where something is missing in the first anything may come
  pub need_first : {A : Type 0} (V : Value → Value → Type 0) (o : Option A) (w : World)
      (k : A → Answer) (a' : Answer) → ((a : A) → o ≡ Some a → Sim V (k a) a')
      → Sim V (need o w k) a'
  need_first V None w k a' h = λ _. free
  need_first V (Some a) w k a' h = h a refl

  pub cond_sim : (V : Value → Value → Type 0) (b : Bool) (x y x' y' : Answer) → Sim V x x'
      → Sim V y y' → Sim V (cond b x y) (cond b x' y')
  cond_sim V true x y x' y' hx hy = hx
  cond_sim V false x y x' y' hx hy = hy

  pub looking_sim : (V : Value → Value → Type 0) (looks b b' : Bool) (w w' : World) (a a' : Answer)
      → (Seen looks b → Seen looks b' × Sim V a a')
      → Sim V (require_if_checked looks b w a) (require_if_checked looks b' w' a')
  looking_sim V false b b' w w' a a' h = (h (λ e. false_not_true e)).1
  looking_sim V true true b' w w' a a' h = let x : Seen true b' × Sim V a a' = h (λ _. refl)
      in subst (λ q. Sim V a (cond q a' (stops missing w'))) (sym (x.0 refl)) x.1
  looking_sim V true false b' w w' a a' h = λ _. free

  pub spend_sim : (V : Value → Value → Type 0) (l : ℕ) (w : World) (b : Beside K w)
      (k k' : ℕ → Answer) → ((m : ℕ) → Sim V (k m) (k' m))
      → Sim V (spend l w k) (spend l (beside b) k')
  spend_sim V zero w b k k' h = λ _. stops_too b
  spend_sim V (suc m) w b k k' h = h m

  before : (a : Answer) (k : Value → World → Answer) → ((v : Value) (w : World) → Back P w (k v w))
      → HoldsInEveryState P (world_of (then_do a k)).seen → HoldsInEveryState P (world_of a).seen
  before (gives v w) k b h = b v w h
  before (stops s w) k b h = h

  go_on : {U : Value → Value → Type 0} {a a' : Answer} (V : Value → Value → Type 0)
      (k k' : Value → World → Answer) →
      ((v v' : Value) (w : World) (b : Beside K w) → a ≡ gives v w → U v v'
      → Sim V (k v w) (k' v' (beside b)))
      → Likewise K U a a' → HoldsInEveryState P (world_of (then_do a k)).seen
      → Likewise K V (then_do a k) (then_do a' k')
  go_on V k k' h free = λ _. free
  go_on V k k' h (gives_too {v} {v'} {w} b u) = h v v' w b refl u
  go_on V k k' h (stops_too b) = λ _. stops_too b

  pub then_sim : (U V : Value → Value → Type 0) (a a' : Answer) (k k' : Value → World → Answer)
      → ((v : Value) (w : World) → Back P w (k v w)) → Sim U a a'
      → ((v v' : Value) (w : World) (b : Beside K w) → a ≡ gives v w → U v v'
      → Sim V (k v w) (k' v' (beside b))) → Sim V (then_do a k) (then_do a' k')
  then_sim U V a a' k k' b s h = λ all. go_on V k k' h (s (before a k b all)) all

  pub given_sim : (U V : Value → Value → Type 0) (looks : Bool) (f f' : Value → Bool)
      (a a' : Answer) → Sim U a a' →
      ((v v' : Value) → U v v' → Seen looks (f v) → Seen looks (f' v') × V v v')
      → Sim V (require_value_if_checked looks f a) (require_value_if_checked looks f' a')
  given_sim U V false f f' a a' s h = sim_more U V a a'
      (λ v v' u. (h v v' u (λ e. false_not_true e)).1) s
  given_sim U V true f f' a a' s h = then_sim U V a a' _ _ (λ v w. back (f v) v w) s
      (λ v v' w b e u. looking_sim V true (f v) (f' v') w (beside b) (gives v w)
      (gives v' (beside b)) (λ seen.
      let x : Seen true (f' v') × V v v' = h v v' u seen in (x.0, λ _. gives_too b x.1)))
    where
      back : (b : Bool) (v : Value) (w : World) → Back P w (cond b (gives v w) (stops missing w))
      back true v w = λ e. e
      back false v w = λ e. e

  -- where the first looks and goes on with what is there, the second does
  pub looked_need_sim : {A A' : Type 0} (V : Value → Value → Type 0) (looks b b' : Bool)
      (o : Option A) (o' : Option A') (w w' : World) (k : A → Answer) (k' : A' → Answer)
      → ((a : A) → o ≡ Some a → Seen looks b → HoldsInEveryState P (world_of (k a)).seen
      → Seen looks b' × (a' : A') × (o' ≡ Some a') × Likewise K V (k a) (k' a'))
      → Sim V (require_if_checked looks b w (need o w k))
      (require_if_checked looks b' w' (need o' w' k'))
  looked_need_sim V false b b' None o' w w' k k' h = λ _. free
  looked_need_sim V false b b' (Some a) o' w w' k k' h = λ all. let x : Seen false b' × (a' : _)
      × (o' ≡ Some a') × Likewise K V (k a) (k' a') = h a refl (λ e. false_not_true e) all
      in subst (λ q. Likewise K V (k a) (need q w' k')) (sym x.2) x.3
  looked_need_sim V true false b' o o' w w' k k' h = λ _. free
  looked_need_sim V true true b' None o' w w' k k' h = λ _. free
  looked_need_sim V true true b' (Some a) o' w w' k k' h = λ all. let x : Seen true b' × (a' : _)
      × (o' ≡ Some a') × Likewise K V (k a) (k' a') = h a refl (λ _. refl) all in
      subst (λ q. Likewise K V (k a) (cond q (need o' w' k') (stops missing w'))) (sym (x.0 refl))
      (subst (λ q. Likewise K V (k a) (need q w' k')) (sym x.2) x.3)

  pub need_looked_sim : {A A' : Type 0} (V : Value → Value → Type 0) (looks b b' : Bool)
      (o : Option A) (o' : Option A') (w w' : World) (k : A → Answer) (k' : A' → Answer)
      → ((a : A) → o ≡ Some a → Seen looks b → HoldsInEveryState P (world_of (k a)).seen
      → Seen looks b' × (a' : A') × (o' ≡ Some a') × Likewise K V (k a) (k' a'))
      → Sim V (need o w (λ a. require_if_checked looks b w (k a)))
      (need o' w' (λ a. require_if_checked looks b' w' (k' a)))
  need_looked_sim V looks b b' None o' w w' k k' h = λ _. free
  need_looked_sim V false b b' (Some a) o' w w' k k' h = λ all. let x : Seen false b' × (a' : _)
      × (o' ≡ Some a') × Likewise K V (k a) (k' a') = h a refl (λ e. false_not_true e) all
      in subst (λ q. Likewise K V (k a) (need q w' k')) (sym x.2) x.3
  need_looked_sim V true false b' (Some a) o' w w' k k' h = λ _. free
  need_looked_sim V true true b' (Some a) o' w w' k k' h = λ all. let x : Seen true b' × (a' : _)
      × (o' ≡ Some a') × Likewise K V (k a) (k' a') = h a refl (λ _. refl) all in
      subst (λ q. Likewise K V (k a) (need q w' (λ a. cond b' (k' a) (stops missing w')))) (sym x.2)
      (subst (λ q. Likewise K V (k a) (cond q (k' x.1) (stops missing w'))) (sym (x.0 refl))
      x.3)
