-- A run in some room, unless it is full, has bound no more cells and has made no more frames than
-- there is room for.
use Rattle.std.proofs.Common.{◌≡◌, ℕ, zero, suc, ◌+◌, ◌*◌, ◌≤◌, Bool, true, false, cond, List, [], ◌∷◌, length, replicate, Option, Some, None, refl, arith, length-append}
use Rattle.std.specs.Prelude.{nat_eq, nat_lt, max, slice_get, slice_set}
use Rattle.std.proofs.lemmas.Bool.Decides.{nat_tests}
use Rattle.std.proofs.lemmas.List.{length-set, length-replicate, length-map}
use Rattle.low_code.specs.Tree.{Code, set, prim, load, save, take, put, get, call, join, give, tail, choose, fail, Arms, otherwise, arm, Procedure, Program}
use Rattle.low_code.specs.Arithmetic.{arithmetic}
use Rattle.low_code.specs.Values.{Word, number, Env, World, no_alternative, out_of_units, missing, heap_full, stack_full, Room, Answer, gives, stops, then_do, need, with_var, with_vars, no_vars}
use Rattle.low_code.specs.Run.{Calls, written, next_byte, byte_taken, with_word, with_cells, spent, spend, start_words, within_limit, operand, operands, number_in, cell_in, holds, empty_cell, code, arms, with_result_count, body, calls, run_in, limited, global_cell, start_world}

module _ (cells stack : ℕ) where
  abbrev room : Room
  room = record { cells = Some cells; stack = Some stack }

  pub record Fits (w : World) : Type 0 where
    pub cells_fit : length w.cells ≤ cells
    pub frames_fit : 4 * w.frames ≤ stack

  abbrev pub FitsRoom : Answer → Type 0
  FitsRoom (gives vs w) = Fits w
  FitsRoom (stops heap_full w) = Unit {0}
  FitsRoom (stops stack_full w) = Unit {0}
  FitsRoom (stops no_alternative w) = Fits w
  FitsRoom (stops out_of_units w) = Fits w
  FitsRoom (stops missing w) = Fits w

  fits_then : (a : Answer) (go : List Word → World → Answer) → FitsRoom a
      → ((vs : List Word) (w : World) → Fits w → FitsRoom (go vs w)) → FitsRoom (then_do a go)
  fits_then (gives vs w) go h more = more vs w h
  fits_then (stops heap_full w) go h more = tt
  fits_then (stops stack_full w) go h more = tt
  fits_then (stops no_alternative w) go h more = h
  fits_then (stops out_of_units w) go h more = h
  fits_then (stops missing w) go h more = h

  fits_need : {A : Type 0} (o : Option A) (w : World) (k : A → Answer) → Fits w
      → ((a : A) → FitsRoom (k a)) → FitsRoom (need o w k)
  fits_need None w k h more = h
  fits_need (Some a) w k h more = more a

  fits_choice : (b : Bool) (a a' : Answer) → FitsRoom a → FitsRoom a'
      → FitsRoom (elim b [ true ↦ a | false ↦ a' ])
  fits_choice true a a' h h' = h
  fits_choice false a a' h h' = h'

  fits_count : (n : ℕ) (a : Answer) → FitsRoom a → FitsRoom (with_result_count n a)
  fits_count n a h = fits_then a _ h (λ vs w. counted (nat_eq (length vs) n) vs w)
    where
      counted : (b : Bool) (vs : List Word) (w : World) → Fits w
          → FitsRoom (cond b (gives vs w) (stops missing w))
      counted true vs w h = h
      counted false vs w h = h

  word_fits : (i k : ℕ) (v : Word) (ws : List Word) (w : World) → Fits w
      → Fits (with_word i k v ws w)
  word_fits i k v ws w h = record {
    cells_fit = let e = length-set w.cells i (slice_set ws k v) in omega (arith, e, h.cells_fit);
    frames_fit = h.frames_fit;
  }

  written_fits : (k : ℕ) (w : World) → Fits w → Fits (written k w)
  written_fits k w h = record { cells_fit = h.cells_fit; frames_fit = h.frames_fit }

  taken_fits : (i : List ℕ) (w : World) → Fits w → Fits (byte_taken i w)
  taken_fits [] w h = h
  taken_fits (b ∷ i) w h = record { cells_fit = h.cells_fit; frames_fit = h.frames_fit }

  -- new cells fit where they are within the limit
  fits_take : (n : ℕ) (w : World) (cs : List (List Word)) (o : Option Env) (k : Env → World → Answer)
      → length cs ≡ n → Fits w → ((env : Env) (w' : World) → Fits w' → FitsRoom (k env w'))
      → FitsRoom (within_limit (Some cells) (length w.cells + n) (stops heap_full w)
      (need o w (λ env. k env (with_cells cs w))))
  fits_take n w cs o k many h more = by (nat_lt cells (length w.cells + n)) refl
    where
      by : (b : Bool) → nat_lt cells (length w.cells + n) ≡ b
          → FitsRoom (elim b [
            | true ↦ stops heap_full w
            | false ↦ need o w (λ env. k env (with_cells cs w))
          ])
      by true e = tt
      by false e =
          let le : length w.cells + n ≤ cells = grind (arith, nat_tests) in
          let both = length-append w.cells cs in
          fits_need o w _ h (λ env. more env (with_cells cs w)
          (record { cells_fit = omega (arith, le, both, many); frames_fit = h.frames_fit }))

  module _ (p : Program) (frame_words : ℕ → ℕ) where
    module _ (these : Calls)
        (on : (f : ℕ) (vs : List Word) (u : ℕ) (w : World) → Fits w → FitsRoom (these f vs u w))
      where
        mutual
          unfolding code arms

          fits_code : (c : Code) (env : Env) (top : ℕ) (under : Option ℕ) (w : World) → Fits w
              → FitsRoom (code p frame_words room these env top under c w)
          fits_code (set x a c) env top under w h = fits_need (operand p frame_words env a) w _ h
              (λ v. fits_code c (with_var x v env) top under w h)
          fits_code (prim f x a b c) env top under w h =
              fits_need (number_in p frame_words env a) w _ h
              (λ i. fits_need (number_in p frame_words env b) w _ h
              (λ j. fits_code c (with_var x (number (arithmetic f i j)) env) top under w h))
          fits_code (load x a k c) env top under w h =
              fits_need (cell_in p frame_words env a) w _ h
              (λ i. fits_need (slice_get w.cells i) w _ h
              (λ ws. fits_need (slice_get ws k) w _ h
              (λ v. fits_code c (with_var x v env) top under w h)))
          fits_code (save a k b c) env top under w h =
              fits_need (cell_in p frame_words env a) w _ h
              (λ i. fits_need (slice_get w.cells i) w _ h
              (λ ws. fits_need (slice_get ws k) w _ h
              (λ old. fits_need (operand p frame_words env b) w _ h
              (λ v. fits_code c env top under (with_word i k v ws w) (word_fits i k v ws w h)))))
          fits_code (take xs c) env top under w h =
              fits_take (length xs) w (replicate (length xs) (empty_cell p frame_words)) _
              (λ env' w'. code p frame_words room these env' top under c w')
              (length-replicate (length xs) _) h
              (λ env' w' h'. fits_code c env' top under w' h')
          fits_code (put a c) env top under w h =
              fits_need (number_in p frame_words env a) w _ h
              (λ k. fits_code c env top under (written k w) (written_fits k w h))
          fits_code (get x c) env top under w h =
              fits_code c (with_var x (number (next_byte w.input)) env) top under
              (byte_taken w.input w) (taken_fits w.input w h)
          fits_code (call f site as' xs c) env top under w h =
              fits_need (operands p frame_words env as') w _ h
              (λ vs. fits_then (these f vs top w) _ (on f vs top w h)
              (λ rs w' h'. fits_need (with_vars xs rs env) w' _ h'
              (λ env'. fits_code c env' top under w' h')))
          fits_code (join xs b c) env top under w h =
              fits_then (code p frame_words room these env top None b w) _
              (fits_code b env top None w h)
              (λ rs w' h'. fits_need (with_vars xs rs env) w' _ h'
              (λ env'. fits_code c env' top under w' h'))
          fits_code (give as') env top under w h =
              fits_need (operands p frame_words env as') w _ h (λ vs. h)
          fits_code (tail f site as') env top under w h = fits_need under w _ h
              (λ u. fits_need (operands p frame_words env as') w _ h (λ vs. on f vs u w h))
          fits_code (choose as') env top under w h = fits_arms as' env top under w h
          fits_code fail env top under w h = h

          fits_arms : (as' : Arms) (env : Env) (top : ℕ) (under : Option ℕ) (w : World) → Fits w
              → FitsRoom (arms p frame_words room these env top under as' w)
          fits_arms (otherwise c) env top under w h = fits_code c env top under w h
          fits_arms (arm ts c as') env top under w h =
              fits_need (holds p frame_words env ts) w _ h
              (λ yes. fits_choice yes _ _ (fits_code c env top under w h)
              (fits_arms as' env top under w h))

        fits_body : (f under left : ℕ) (q : Procedure) (env : Env) (w : World) → Fits w
            → FitsRoom (body p frame_words room these f under left q env w)
        fits_body f under left q env w h =
            by (nat_lt stack (4 * (under + frame_words f))) refl
          where
            top : ℕ
            top = under + frame_words f

            by : (b : Bool) → nat_lt stack (4 * (under + frame_words f)) ≡ b
                → FitsRoom (elim b [
                  | true ↦ stops stack_full (spent f (under + frame_words f) left w)
                  | false ↦ with_result_count q.results
                      (code p frame_words room these env (under + frame_words f) (Some under)
                      q.body (spent f (under + frame_words f) left w))
                ])
            by true e = tt
            by false e =
                let le : 4 * (under + frame_words f) ≤ stack = grind (arith, nat_tests) in
                let z : 4 * max w.frames (under + frame_words f) ≤ stack = omega
                (arith, le, h.frames_fit) in
                fits_count q.results _
                (fits_code q.body env (under + frame_words f) (Some under)
                (spent f (under + frame_words f) left w)
                (record { cells_fit = h.cells_fit; frames_fit = z }))

    fits_calls : (n f : ℕ) (vs : List Word) (under : ℕ) (w : World) → Fits w
        → FitsRoom (calls p frame_words room n f vs under w)
    unfolding calls
    fits_calls zero f vs under w h = h
    fits_calls (suc n) f vs under w h = by (fits_calls n) w.left
      where
        by :
            ((f : ℕ) (vs : List Word) (under : ℕ) (w : World) → Fits w
            → FitsRoom (calls p frame_words room n f vs under w))
            → (left : ℕ) → FitsRoom (spend left w (λ m. need (slice_get p.procs f) w (λ q.
            need (with_vars q.params vs no_vars) w
            (λ env. body p frame_words room (calls p frame_words room n) f under m q env w))))
        by on zero = h
        by on (suc m) = fits_need (slice_get p.procs f) w _ h
            (λ q. fits_need (with_vars q.params vs no_vars) w _ h
            (λ env. fits_body (calls p frame_words room n) on f under m q env w h))

    pub run_fits : (i : List ℕ) (n : ℕ) → FitsRoom (limited p frame_words cells stack i n)
    unfolding run_in
    run_fits i n = by (nat_lt cells (length p.globals)) refl
      where
        by : (b : Bool) → nat_lt cells (length p.globals) ≡ b
            → FitsRoom (elim b [
              | true ↦ stops heap_full (start_world p frame_words i n)
              | false ↦ calls p frame_words room n p.start (start_words p.argument) 0
                  (start_world p frame_words i n)
            ])
        by true e = tt
        by false e =
            let le : length p.globals ≤ cells = grind (arith, nat_tests) in
            let many = length-map p.globals (global_cell p frame_words) in
            fits_calls n p.start (start_words p.argument) 0 (start_world p frame_words i n)
            (record { cells_fit = omega (arith, le, many); frames_fit = omega arith })
