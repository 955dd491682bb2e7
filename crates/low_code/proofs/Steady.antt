-- A run with more units, or without limits, gives the same answer, or goes on from where it stood.
--
-- One proof compares two runs of which the second has more units or no limits. Either both answer
-- alike, or the first stopped, out of units or full, and the second goes on from that point.
use Rattle.std.proofs.Common.{◌≡◌, ◌⊎◌, inl, inr, ℕ, zero, suc, ◌+◌, ◌*◌, ◌%◌, ◌≤◌, Bool, true, false, cond, List, [], ◌∷◌, ◌++◌, length, replicate, Option, Some, None, refl, sym, ap, ◌∙◌, subst, arith, length-append, append-nil, append_assoc}
use Rattle.std.specs.Prelude.{nat_eq, slice_get, slice_set}
use Rattle.std.proofs.Math.Nat.{le-max_left, le-max_right}
use Rattle.std.proofs.lemmas.Bool.{ltb-true, lt-ltb}
use Rattle.std.proofs.lemmas.List.{length-set, length-replicate, length-map}
use Rattle.headline.specs.Carries.{IsPrefixOf}
use Rattle.low_code.specs.Tree.{Code, set, prim, load, save, take, put, get, call, join, give, tail, choose, fail, Arms, otherwise, arm, Procedure, Program}
use Rattle.low_code.specs.Arithmetic.{arithmetic}
use Rattle.low_code.specs.Values.{Word, number, Env, World, Stop, no_alternative, out_of_units, missing, heap_full, stack_full, Room, is_over, Answer, gives, stops, then_do, need, with_var, with_vars, no_vars}
use Rattle.low_code.specs.Run.{Calls, written, next_byte, byte_taken, with_word, with_cells, spent, spend, places, start_words, within_limit, operand, operands, number_in, cell_in, holds, empty_cell, code, arms, with_result_count, body, calls, run_in, global_cell, start_world, world_of}
use Rattle.low_code.specs.Laws.{with_more_units}

-- nothing is lost: output, entries, cells, frames and bytes taken
pub record Grows (s t : World) : Type 0 where
  pub output : IsPrefixOf s.out t.out
  pub entered : IsPrefixOf s.entered t.entered
  pub cells : length s.cells ≤ length t.cells
  pub frames : s.frames ≤ t.frames
  pub used : s.used ≤ t.used

begins_same : (xs : List ℕ) → IsPrefixOf xs xs
begins_same xs = ([], sym (append-nil xs))

pub begins_on : (xs ys zs : List ℕ) → IsPrefixOf xs ys → IsPrefixOf ys zs → IsPrefixOf xs zs
begins_on xs ys zs a b = (a.0 ++ b.0, b.1 ∙ ap (λ l. l ++ b.0) a.1 ∙ append_assoc xs a.0 b.0)

pub grows_same : (s : World) → Grows s s
grows_same s = record {
  output = begins_same s.out;
  entered = begins_same s.entered;
  cells = omega arith;
  frames
      = omega arith;
  used = omega arith;
}

pub grows_on : (s t u : World) → Grows s t → Grows t u → Grows s u
grows_on s t u a b = record {
  output = begins_on s.out t.out u.out a.output b.output;
  entered = begins_on s.entered t.entered u.entered a.entered b.entered;
  cells = omega (arith, a.cells, b.cells);
  frames = omega (arith, a.frames, b.frames);
  used = omega (arith, a.used, b.used);
}

-- the units spent and those left
abbrev pub units : World → ℕ
units w = length w.entered + w.left

-- how a second run differs from a first: it has more units, or no limits
pub data Change : Type 0 where
  units_more : ℕ → Change
  no_limits : Change

abbrev pub more : Change → World → World
more (units_more m) w = with_more_units m w
more no_limits w = w

abbrev pub extra : Change → ℕ
extra (units_more m) = m
extra no_limits = 0

abbrev pub room_after : Change → Room → Room
room_after (units_more m) room = room
room_after no_limits room = record { cells = None; stack = None }

-- whether the second run goes on where the first one stops so
abbrev pub goes_past : Change → Stop → Bool
goes_past (units_more m) out_of_units = true
goes_past no_limits heap_full = true
goes_past no_limits stack_full = true
goes_past _ _ = false

over_more : (limit : Option ℕ) (k n : ℕ) → k ≤ n → is_over k limit ≡ true → is_over n limit ≡ true
over_more None k n le h = h
over_more (Some most) k n le h = lt-ltb most n (omega (arith, le, ltb-true most k h))

missing_stays : (h : Change) → goes_past h missing ≡ false
missing_stays (units_more m) = refl
missing_stays no_limits = refl

no_alternative_stays : (h : Change) → goes_past h no_alternative ≡ false
no_alternative_stays (units_more m) = refl
no_alternative_stays no_limits = refl

-- how the limits of the two runs compare
data Limits (h : Change) (s : Stop) (limit : Option ℕ) : Option ℕ → Type 0 where
  same_limit : goes_past h s ≡ false → Limits h s limit limit
  no_limit : goes_past h s ≡ true → Limits h s limit None

cells_limits : (h : Change) (room : Room) → Limits h heap_full room.cells (room_after h room).cells
cells_limits (units_more m) room = same_limit refl
cells_limits no_limits room = no_limit refl

stack_limits : (h : Change) (room : Room) → Limits h stack_full room.stack (room_after h room).stack
stack_limits (units_more m) room = same_limit refl
stack_limits no_limits room = no_limit refl

-- where the second run has more units, the first one ends for want of them
units_past : (h : Change) → (goes_past h out_of_units ≡ true)
    ⊎ ((goes_past h out_of_units ≡ false) × (extra h ≡ 0))
units_past (units_more m) = inl refl
units_past no_limits = inr (refl, refl)

grows_more : (h : Change) (w v : World) → Grows (more h w) v → Grows w v
grows_more (units_more m) w v g = record
    { output = g.output; entered = g.entered; cells = g.cells; frames = g.frames; used = g.used }
grows_more no_limits w v g = g

more_left : (h : Change) (w : World) → (more h w).left ≡ w.left + extra h
more_left (units_more m) w = refl
more_left no_limits w = omega arith

-- a step of a run that loses nothing and spends nothing
record Step (f : World → World) : Type 0 where
  same : (h : Change) (w : World) → f (more h w) ≡ more h (f w)
  grows : (w : World) → Grows w (f w)
  counts : (w : World) → units (f w) ≡ units w

step_written : (k : ℕ) → Step (written k)
step_written k = record {
  same = λ h w. same h w;
  grows = λ w. let g = grows_same w in record {
    output = (k % 256 ∷ [], refl);
    entered = g.entered;
    cells = g.cells;
    frames = g.frames;
    used
        = g.used;
  };
  counts = λ w. refl;
}
  where
    same : (h : Change) (w : World) → written k (more h w) ≡ more h (written k w)
    same (units_more m) w = refl
    same no_limits w = refl

step_taken : (i : List ℕ) → Step (byte_taken i)
step_taken [] = record { same = λ h w. refl; grows = grows_same; counts = λ w. refl }
step_taken (b ∷ i) = record {
  same = λ h w. same h w;
  grows = λ w. let g = grows_same w in record {
    output = g.output;
    entered = g.entered;
    cells = g.cells;
    frames = g.frames;
    used
        = omega arith;
  };
  counts = λ w. refl;
}
  where
    same : (h : Change) (w : World) → byte_taken (b ∷ i) (more h w) ≡ more h (byte_taken (b ∷ i) w)
    same (units_more m) w = refl
    same no_limits w = refl

step_word : (a k : ℕ) (v : Word) (c : List Word) → Step (with_word a k v c)
step_word a k v c = record {
  same = λ h w. same h w;
  grows = λ w. let g = grows_same w in record {
    output = g.output;
    entered = g.entered;
    cells
        = omega (arith, length-set w.cells a (slice_set c k v));
    frames = g.frames;
    used = g.used;
  };
  counts = λ w. refl;
}
  where
    same : (h : Change) (w : World) → with_word a k v c (more h w) ≡ more h (with_word a k v c w)
    same (units_more m) w = refl
    same no_limits w = refl

step_cells : (cs : List (List Word)) → Step (with_cells cs)
step_cells cs = record {
  same = λ h w. same h w;
  grows = λ w. let g = grows_same w in record {
    output = g.output;
    entered = g.entered;
    cells
        = omega (arith, length-append w.cells cs);
    frames = g.frames;
    used = g.used;
  };
  counts = λ w. refl;
}
  where
    same : (h : Change) (w : World) → with_cells cs (more h w) ≡ more h (with_cells cs w)
    same (units_more m) w = refl
    same no_limits w = refl

reads_input : (h : Change) (w : World) → (more h w).input ≡ w.input
reads_input (units_more m) w = refl
reads_input no_limits w = refl

reads_cells : (h : Change) (w : World) → (more h w).cells ≡ w.cells
reads_cells (units_more m) w = refl
reads_cells no_limits w = refl

-- new cells have a variable each
pub placed : (a : ℕ) (xs : List ℕ) (env : Env) → (env' : Env)
    × (with_vars xs (places a xs) env ≡ Some env')
placed a [] env = (env, refl)
placed a (x ∷ xs) env = placed (suc a) xs _

pub within_grows : (limit : Option ℕ) (k : ℕ) (s : Stop) (w : World) (a : Answer)
    → Grows w (world_of a) → Grows w (world_of (within_limit limit k (stops s w) a))
within_grows limit k s w a g = by (is_over k limit)
  where
    by : (b : Bool) → Grows w (world_of (elim b [ true ↦ stops s w | false ↦ a ]))
    by true = grows_same w
    by false = g

pub within_counts : (limit : Option ℕ) (k : ℕ) (s : Stop) (w : World) (a : Answer)
    → units (world_of a) ≡ units w → units (world_of (within_limit limit k (stops s w) a)) ≡ units w
within_counts limit k s w a e = by (is_over k limit)
  where
    by : (b : Bool) → units (world_of (elim b [ true ↦ stops s w | false ↦ a ])) ≡ units w
    by true = refl
    by false = e

module _ (change : Change) (room : Room) where
  -- what the second run has then come to
  abbrev pub Past : Stop → World → Type 0
  Past heap_full w = is_over (length w.cells) room.cells ≡ true
  Past stack_full w = is_over (4 * w.frames) room.stack ≡ true
  Past _ w = Unit {0}

  -- the answer of the second run
  pub data Later : Answer → Answer → Type 0 where
    same_words : {vs : List Word} {w : World} → Later (gives vs w) (gives vs (more change w))
    same_stop : {s : Stop} {w : World} → goes_past change s ≡ false
        → Later (stops s w) (stops s (more change w))
    goes_on : {s : Stop} {w : World} {r : Answer} → goes_past change s ≡ true → Grows w (world_of r)
        → Past s (world_of r) → Later (stops s w) r

  -- c' does in the second run what c does in the first; it loses nothing, and spends a unit for
  -- each entry
  pub record Steady (c c' : World → Answer) : Type 0 where
    pub later : (w : World) → Later (c w) (c' (more change w))
    pub grows : (w : World) → Grows w (world_of (c' w))
    pub counts : (w : World) → units (world_of (c' w)) ≡ units w

  past_on : (s : Stop) (w v : World) → Past s w → Grows w v → Past s v
  past_on heap_full w v p g = over_more room.cells _ _ g.cells p
  past_on stack_full w v p g = over_more room.stack _ _ (omega (arith, g.frames)) p
  past_on no_alternative w v p g = tt
  past_on out_of_units w v p g = tt
  past_on missing w v p g = tt

  steady_gives : (vs : List Word) → Steady (gives vs) (gives vs)
  steady_gives vs = record { later = λ w. same_words; grows = grows_same; counts = λ w. refl }

  steady_stops : (s : Stop) → goes_past change s ≡ false → Steady (stops s) (stops s)
  steady_stops s h = record { later = λ w. same_stop h; grows = grows_same; counts = λ w. refl }

  steady_need : {A : Type 0} (o : Option A) (k k' : A → World → Answer)
      → ((a : A) → Steady (k a) (k' a)) → Steady (λ w. need o w (λ a. k a w))
      (λ w. need o w (λ a. k' a w))
  steady_need None k k' g = steady_stops missing (missing_stays change)
  steady_need (Some a) k k' g = g a

  -- what is read from the world is the same in the second run
  steady_read : {A : Type 0} (r : World → A) (c c' : A → World → Answer)
      → ((w : World) → r (more change w) ≡ r w) → ((a : A) → Steady (c a) (c' a))
      → Steady (λ w. c (r w) w) (λ w. c' (r w) w)
  steady_read r c c' same g = record {
    later = λ w. subst (λ a. Later (c (r w) w) (c' a (more change w))) (sym (same w))
        ((g (r w)).later w);
    grows = λ w. (g (r w)).grows w;
    counts = λ w. (g (r w)).counts w;
  }

  steady_step : (f : World → World) (c c' : World → Answer) → Step f → Steady c c'
      → Steady (λ w. c (f w)) (λ w. c' (f w))
  steady_step f c c' s g = record {
    later = λ w. subst (λ v. Later (c (f w)) (c' v)) (sym (s.same change w)) (g.later (f w));
    grows = λ w. grows_on w (f w) _ (s.grows w) (g.grows (f w));
    counts = λ w. g.counts (f w) ∙ s.counts w;
  }

  then_grows : (w : World) (r : Answer) (go : List Word → World → Answer) → Grows w (world_of r)
      → ((vs : List Word) (w : World) → Grows w (world_of (go vs w)))
      → Grows w (world_of (then_do r go))
  then_grows w (gives vs v) go a g = grows_on w v _ a (g vs v)
  then_grows w (stops s v) go a g = a

  then_counts : (w : World) (r : Answer) (go : List Word → World → Answer)
      → units (world_of r) ≡ units w →
      ((vs : List Word) (w : World) → units (world_of (go vs w)) ≡ units w)
      → units (world_of (then_do r go)) ≡ units w
  then_counts w (gives vs v) go a g = g vs v ∙ a
  then_counts w (stops s v) go a g = a

  then_past : (s : Stop) (r : Answer) (go : List Word → World → Answer) → Past s (world_of r)
      → ((vs : List Word) (w : World) → Grows w (world_of (go vs w)))
      → Past s (world_of (then_do r go))
  then_past s (gives vs v) go p g = past_on s v _ p (g vs v)
  then_past s (stops t v) go p g = p

  then_later : (r r' : Answer) (go go' : List Word → World → Answer) → Later r r'
      → ((vs : List Word) → Steady (go vs) (go' vs)) → Later (then_do r go) (then_do r' go')
  then_later _ _ go go' (same_words {vs = vs} {w = w}) g = (g vs).later w
  then_later _ _ go go' (same_stop h) g = same_stop h
  then_later _ _ go go' (goes_on {s = s} {w = w} {r = r} h a p) g
      = goes_on h (then_grows w r go' a (λ vs. (g vs).grows))
      (then_past s r go' p (λ vs. (g vs).grows))

  steady_then : (c c' : World → Answer) (go go' : List Word → World → Answer) → Steady c c'
      → ((vs : List Word) → Steady (go vs) (go' vs))
      → Steady (λ w. then_do (c w) go) (λ w. then_do (c' w) go')
  steady_then c c' go go' a g = record {
    later = λ w. then_later (c w) (c' (more change w)) go go' (a.later w) g;
    grows = λ w. then_grows w (c' w) go' (a.grows w) (λ vs. (g vs).grows);
    counts = λ w. then_counts w (c' w) go' (a.counts w) (λ vs. (g vs).counts);
  }

  steady_cases : (b : Bool) (c c' d d' : World → Answer) → Steady c c' → Steady d d'
      → Steady (λ w. elim b [ true ↦ c w | false ↦ d w ])
      (λ w. elim b [ true ↦ c' w | false ↦ d' w ])
  steady_cases true c c' d d' a b = a
  steady_cases false c c' d d' a b = b

  steady_many : (n : ℕ) (c c' : World → Answer) → Steady c c'
      → Steady (λ w. with_result_count n (c w)) (λ w. with_result_count n (c' w))
  steady_many n c c' g = steady_then c c' _ _ g (λ vs. counted (nat_eq (length vs) n) vs)
    where
      counted : (b : Bool) (vs : List Word) → Steady (λ w. cond b (gives vs w) (stops missing w))
          (λ w. cond b (gives vs w) (stops missing w))
      counted true vs = steady_gives vs
      counted false vs = steady_stops missing (missing_stays change)

  within_later : (limit limit' : Option ℕ) (k : ℕ) (s : Stop) (w : World) (a a' : Answer)
      → Limits change s limit limit' → Later a a' → Grows w (world_of a')
      → (is_over k limit ≡ true → Past s (world_of a'))
      → Later (within_limit limit k (stops s w) a)
      (within_limit limit' k (stops s (more change w)) a')
  within_later limit _ k s w a a' (same_limit h) l g past = by (is_over k limit)
    where
      by : (b : Bool) → Later (elim b [ true ↦ stops s w | false ↦ a ])
          (elim b [ true ↦ stops s (more change w) | false ↦ a' ])
      by true = same_stop h
      by false = l
  within_later limit _ k s w a a' (no_limit h) l g past = by (is_over k limit) refl
    where
      by : (b : Bool) → is_over k limit ≡ b → Later (elim b [ true ↦ stops s w | false ↦ a ]) a'
      by true e = goes_on h g (past e)
      by false e = l

  within_steady : (limit limit' : Option ℕ) (k : World → ℕ) (s : Stop) (c c' : World → Answer)
      → Limits change s limit limit' → ((w : World) → k (more change w) ≡ k w) → Steady c c'
      → ((w : World) → is_over (k w) limit ≡ true → Past s (world_of (c' w)))
      → Steady (λ w. within_limit limit (k w) (stops s w) (c w))
      (λ w. within_limit limit' (k w) (stops s w) (c' w))
  within_steady limit limit' k s c c' l same g past = record {
    later = λ w. subst
        (λ n. Later (within_limit limit (k w) (stops s w) (c w))
        (within_limit limit' n (stops s (more change w)) (c' (more change w)))) (sym (same w))
        (within_later limit limit' (k w) s w _ _ l (g.later w)
        (grows_more change w _ (g.grows (more change w)))
        (λ h. past (more change w) (ap (λ n. is_over n limit) (same w) ∙ h)));
    grows = λ w. within_grows limit' (k w) s w _ (g.grows w);
    counts = λ w. within_counts limit' (k w) s w _ (g.counts w);
  }

  steady_take : (xs : List ℕ) (env : Env) (cs : List (List Word)) (k k' : Env → World → Answer)
      → length cs ≡ length xs → ((env' : Env) → Steady (k env') (k' env'))
      → Steady (λ w. within_limit room.cells (length w.cells + length xs) (stops heap_full w)
      (need (with_vars xs (places (length w.cells) xs) env) w
      (λ env'. k env' (with_cells cs w))))
      (λ w. within_limit (room_after change room).cells (length w.cells + length xs)
      (stops heap_full w)
      (need (with_vars xs (places (length w.cells) xs) env) w
      (λ env'. k' env' (with_cells cs w))))
  steady_take xs env cs k k' many g = within_steady _ _ (λ w. length w.cells + length xs) heap_full
      _ _ (cells_limits change room) (λ w. ap (λ c. length c + length xs) (reads_cells change w))
      (steady_read (λ w. with_vars xs (places (length w.cells) xs) env) _ _
      (λ w. ap (λ c. with_vars xs (places (length c) xs) env) (reads_cells change w))
      (λ o. steady_need o _ _
      (λ env'. steady_step (with_cells cs) _ _ (step_cells cs) (g env'))))
      past
    where
      past : (w : World) → is_over (length w.cells + length xs) room.cells ≡ true
          → Past heap_full
          (world_of
          (need (with_vars xs (places (length w.cells) xs) env) w
          (λ env'. k' env' (with_cells cs w))))
      past w h = let e = placed (length w.cells) xs env in
          rw e.1 (over_more room.cells _ _
          (omega (
            arith,
            ((g e.0).grows (with_cells cs w)).cells,
            length-append w.cells cs,
            many,
          )) h)

  module _ (p : Program) (frame_words : ℕ → ℕ) (these those : Calls)
      (on : (f : ℕ) (vs : List Word) (u : ℕ) → Steady (these f vs u) (those f vs u)) where
    mutual
      unfolding code arms

      steady_code : (c : Code) (env : Env) (top : ℕ) (under : Option ℕ)
          → Steady (code p frame_words room these env top under c)
          (code p frame_words (room_after change room) those env top under c)
      steady_code (set x a c) env top under = steady_need (operand p frame_words env a) _ _
          (λ v. steady_code c (with_var x v env) top under)
      steady_code (prim f x a b c) env top under = steady_need (number_in p frame_words env a) _ _
          (λ i. steady_need (number_in p frame_words env b) _ _
          (λ j. steady_code c (with_var x (number (arithmetic f i j)) env) top under))
      steady_code (load x a k c) env top under =
          steady_need (cell_in p frame_words env a) _ _
          (λ i. steady_read (λ w. slice_get w.cells i) _ _
          (λ w. ap (λ c. slice_get c i) (reads_cells change w))
          (λ o. steady_need o _ _
          (λ ws. steady_need (slice_get ws k) _ _
          (λ v. steady_code c (with_var x v env) top under))))
      steady_code (save a k b c) env top under =
          steady_need (cell_in p frame_words env a) _ _
          (λ i. steady_read (λ w. slice_get w.cells i) _ _
          (λ w. ap (λ c. slice_get c i) (reads_cells change w))
          (λ o. steady_need o _ _ (λ ws. steady_need (slice_get ws k) _ _ (λ old.
          steady_need (operand p frame_words env b) _ _
          (λ v. steady_step (with_word i k v ws) _ _ (step_word i k v ws)
          (steady_code c env top under))))))
      steady_code (take xs c) env top under = steady_take xs env
          (replicate (length xs) (empty_cell p frame_words)) _ _ (length-replicate (length xs) _)
          (λ env'. steady_code c env' top under)
      steady_code (put a c) env top under = steady_need (number_in p frame_words env a) _ _
          (λ k. steady_step (written k) _ _ (step_written k) (steady_code c env top under))
      steady_code (get x c) env top under = steady_read (λ w. w.input)
          (λ i w. code p frame_words room these (with_var x (number (next_byte i)) env) top under c
          (byte_taken i w))
          (λ i w. code p frame_words (room_after change room) those
          (with_var x (number (next_byte i)) env) top under c (byte_taken i w))
          (λ w. reads_input change w)
          (λ i. steady_step (byte_taken i) _ _ (step_taken i) (steady_code c _ top under))
      steady_code (call f site as' xs c) env top under =
          steady_need (operands p frame_words env as') _ _
          (λ vs. steady_then _ _ _ _ (on f vs top)
          (λ rs. steady_need (with_vars xs rs env) _ _ (λ env'. steady_code c env' top under)))
      steady_code (join xs b c) env top under = steady_then _ _ _ _ (steady_code b env top None)
          (λ rs. steady_need (with_vars xs rs env) _ _ (λ env'. steady_code c env' top under))
      steady_code (give as') env top under = steady_need (operands p frame_words env as') _ _
          (λ vs. steady_gives vs)
      steady_code (tail f site as') env top under = steady_need under _ _
          (λ u. steady_need (operands p frame_words env as') _ _ (λ vs. on f vs u))
      steady_code (choose as') env top under = steady_arms as' env top under
      steady_code fail env top under = steady_stops no_alternative (no_alternative_stays change)

      steady_arms : (as' : Arms) (env : Env) (top : ℕ) (under : Option ℕ)
          → Steady (arms p frame_words room these env top under as')
          (arms p frame_words (room_after change room) those env top under as')
      steady_arms (otherwise c) env top under = steady_code c env top under
      steady_arms (arm ts c as') env top under = steady_need (holds p frame_words env ts) _ _
          (λ yes. steady_cases yes _ _ _ _ (steady_code c env top under)
          (steady_arms as' env top under))

    -- what holds of one entry
    record Enters (c c' : ℕ → World → Answer) : Type 0 where
      later : (n : ℕ) (w : World) → Later (c n w) (c' (n + extra change) (more change w))
      grows : (n : ℕ) (w : World) → Grows w (world_of (c' n w))
      counts : (n : ℕ) (w : World) → w.left ≡ suc n → units (world_of (c' n w)) ≡ units w

    enters_missing : Enters (λ n. stops missing) (λ n. stops missing)
    enters_missing = record {
      later = λ n w. same_stop (missing_stays change);
      grows = λ n. grows_same;
      counts
          = λ n w e. refl;
    }

    spent_grows : (f top n : ℕ) (w : World) → Grows w (spent f top n w)
    spent_grows f top n w = let g = grows_same w in record {
      output = g.output;
      entered = (f ∷ [], refl);
      cells = g.cells;
      frames
          = le-max_left w.frames top;
      used = g.used;
    }

    spent_more : (f top n : ℕ) (w : World) → spent f top (n + extra change) (more change w) ≡ more
        change (spent f top n w)
    spent_more f top n w = by change
      where
        by : (h : Change) → spent f top (n + extra h) (more h w) ≡ more h (spent f top n w)
        by (units_more m) = refl
        by no_limits = ap (λ k. spent f top k w) (omega arith)

    enters_body : (f under : ℕ) (q : Procedure) (env : Env)
        → Enters (λ n w. body p frame_words room these f under n q env w)
        (λ n w. body p frame_words (room_after change room) those f under n q env w)
    enters_body f under q env =
        let top : ℕ = under + frame_words f in
        let s = steady_many q.results _ _ (steady_code q.body env top (Some under)) in
        record {
          later = λ n w. rw (spent_more f top n w)
              (within_later room.stack (room_after change room).stack (4 * top) stack_full
              (spent f top n w) _ _ (stack_limits change room) (s.later (spent f top n w))
              (grows_more change _ _ (s.grows (more change (spent f top n w))))
              (λ h. over_more room.stack _ _
              (omega (
                arith,
                le-max_right w.frames top,
                (grows_more change _ _ (s.grows (more change (spent f top n w)))).frames,
              )) h));
          grows = λ n w. grows_on w (spent f top n w) _ (spent_grows f top n w)
              (within_grows (room_after change room).stack (4 * top) stack_full (spent f top n w) _
              (s.grows (spent f top n w)));
          counts = λ n w e. within_counts (room_after change room).stack (4 * top) stack_full
              (spent f top n w) _ (s.counts (spent f top n w)) ∙ omega
              (arith, e, length-append w.entered (f ∷ []));
        }

    enters_with : (f under : ℕ) (q : Procedure) (o : Option Env)
        → Enters (λ n w. need o w (λ env. body p frame_words room these f under n q env w))
        (λ n w. need o w
        (λ env. body p frame_words (room_after change room) those f under n q env w))
    enters_with f under q None = enters_missing
    enters_with f under q (Some env) = enters_body f under q env

    enters : (f under : ℕ) (vs : List Word) (o : Option Procedure) → Enters
        (λ n w. need o w
        (λ q. need (with_vars q.params vs no_vars) w
        (λ env. body p frame_words room these f under n q env w)))
        (λ n w. need o w
        (λ q. need (with_vars q.params vs no_vars) w
        (λ env. body p frame_words (room_after change room) those f under n q env w)))
    enters f under vs None = enters_missing
    enters f under vs (Some q) = enters_with f under q (with_vars q.params vs no_vars)

    spend_grows : (c c' : ℕ → World → Answer) → Enters c c' → (n : ℕ) (w : World)
        → Grows w (world_of (spend n w (λ k. c' k w)))
    spend_grows c c' e zero w = grows_same w
    spend_grows c c' e (suc n) w = e.grows n w

    spend_counts : (c c' : ℕ → World → Answer) → Enters c c' → (n : ℕ) (w : World) → w.left ≡ n
        → units (world_of (spend n w (λ k. c' k w))) ≡ units w
    spend_counts c c' e zero w h = refl
    spend_counts c c' e (suc n) w h = e.counts n w h

    spend_later : (c c' : ℕ → World → Answer) → Enters c c' → (n : ℕ) (w : World)
        → Later (spend n w (λ k. c k w))
        (spend (n + extra change) (more change w) (λ k. c' k (more change w)))
    spend_later c c' e zero w = elim (units_past change) [
      | inl h ↦ goes_on h
          (grows_more change w _ (spend_grows c c' e (0 + extra change) (more change w))) tt
      | inr h ↦ rw h.1 (same_stop h.0)
    ]
    spend_later c c' e (suc n) w = let h : suc n + extra change ≡ suc (n + extra change)
        = omega arith in rw h (e.later n w)

    steady_spend : (c c' : ℕ → World → Answer) → Enters c c'
        → Steady (λ w. spend w.left w (λ n. c n w)) (λ w. spend w.left w (λ n. c' n w))
    steady_spend c c' e = record {
      later = λ w. rw (more_left change w) (spend_later c c' e w.left w);
      grows = λ w. spend_grows c c' e w.left w;
      counts = λ w. spend_counts c c' e w.left w refl;
    }

-- calls that go nowhere
abbrev stuck : Calls
stuck f vs u w = stops out_of_units w

module _ (p : Program) (frame_words : ℕ → ℕ) where
  pub record Sound (room : Room) (n : ℕ) : Type 0 where
    pub grows : (f : ℕ) (vs : List Word) (u : ℕ) (w : World)
        → Grows w (world_of (calls p frame_words room n f vs u w))
    pub counts : (f : ℕ) (vs : List Word) (u : ℕ) (w : World)
        → units (world_of (calls p frame_words room n f vs u w)) ≡ units w

  pub calls_sound : (room : Room) (n : ℕ) → Sound room n
  unfolding calls
  calls_sound room zero = record { grows = λ f vs u. grows_same; counts = λ f vs u w. refl }
  calls_sound room (suc n) =
      let s = calls_sound room n in
      let on : (f : ℕ) (vs : List Word) (u : ℕ) → Steady (units_more 0) room (stuck f vs u)
      (calls p frame_words room n f vs u) = λ f vs u. record {
        later = λ w. goes_on refl
            (grows_more (units_more 0) w _ (s.grows f vs u (with_more_units 0 w))) tt;
        grows = s.grows f vs u;
        counts = s.counts f vs u;
      } in
      let step : (f : ℕ) (vs : List Word) (u : ℕ) → _
      = λ f vs u. steady_spend (units_more 0) room p frame_words stuck
      (calls p frame_words room n) on _ _
      (enters (units_more 0) room p frame_words stuck (calls p frame_words room n) on f u vs
      (slice_get p.procs f)) in
      record { grows = λ f vs u. (step f vs u).grows; counts = λ f vs u. (step f vs u).counts }

  pub steady_calls : (change : Change) (room : Room) (n : ℕ) (f : ℕ) (vs : List Word) (u : ℕ)
      → Steady change room (calls p frame_words room n f vs u)
      (calls p frame_words (room_after change room) (n + extra change) f vs u)
  unfolding calls
  steady_calls change room zero f vs u =
      let s = calls_sound (room_after change room) (0 + extra change) in
      record {
        later = λ w. elim (units_past change) [
          | inl h ↦ goes_on h (grows_more change w _ (s.grows f vs u (more change w))) tt
          | inr h ↦ rw h.1 (same_stop h.0)
        ];
        grows = s.grows f vs u;
        counts = s.counts f vs u;
      }
  steady_calls change room (suc n) f vs u =
      let h : suc n + extra change ≡ suc (n + extra change) = omega arith in
      rw h (steady_spend change room p frame_words (calls p frame_words room n)
      (calls p frame_words (room_after change room) (n + extra change))
      (steady_calls change room n) _ _
      (enters change room p frame_words (calls p frame_words room n)
      (calls p frame_words (room_after change room) (n + extra change))
      (steady_calls change room n) f u vs (slice_get p.procs f)))

  started : (change : Change) (i : List ℕ) (n : ℕ) → start_world p frame_words i (n + extra change)
      ≡ more change (start_world p frame_words i n)
  started (units_more m) i n = refl
  started no_limits i n = ap (start_world p frame_words i) (omega arith)

  -- the whole run
  pub steady_run : (change : Change) (room : Room) (i : List ℕ) (n : ℕ)
      → Later change room (run_in p frame_words room i n)
      (run_in p frame_words (room_after change room) i (n + extra change))
  unfolding run_in
  steady_run change room i n =
      let w : World = start_world p frame_words i n in
      let s = steady_calls change room n p.start (start_words p.argument) 0 in
      let g = s.grows in
      rw (started change i n)
      (within_later change room room.cells (room_after change room).cells (length p.globals)
      heap_full w _ _ (cells_limits change room)
      (s.later w) (grows_more change w _ (s.grows (more change w)))
      (λ h. over_more room.cells _ _
      (omega (
        arith,
        (grows_more change w _ (s.grows (more change w))).cells,
        length-map p.globals (global_cell p frame_words),
      )) h))
