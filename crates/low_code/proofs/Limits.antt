-- The limits of a run's room change nothing but that it may be full.
use Rattle.std.proofs.Common.{◌≡◌, ◌≢◌, ℕ, zero, suc, ◌+◌, ◌-◌, true, false, List, Some, refl, sym, ap, ◌∙◌, subst, arith}
use Rattle.std.proofs.lemmas.Bool.{ltb-true}
use Rattle.headline.specs.Carries.{IsPrefixOf, ExtendsShorterRun}
use Rattle.low_code.specs.Tree.{Program}
use Rattle.low_code.specs.Values.{World, Room, Stop, no_alternative, out_of_units, missing, heap_full, stack_full, Answer, gives, stops}
use Rattle.low_code.specs.Run.{ended, run, limited, end_of, world_of}
use Rattle.low_code.specs.Told.{meaning_of_low}
use Rattle.low_code.specs.Laws.{AgreesUpToLimits, LimitsOnlyStop}
use Rattle.low_code.proofs.Steady.{Grows, grows_same, no_limits, Later, Past, same_words, same_stop, goes_on, goes_past, steady_run}
use Rattle.low_code.proofs.MoreUnits.{more_units_extend}

module _ (cells stack : ℕ) where
  abbrev room : Room
  room = record { cells = Some cells; stack = Some stack }

  same_run : (a : Answer) → end_of a ≢ ended heap_full → end_of a ≢ ended stack_full
      → AgreesUpToLimits cells stack a a
  same_run a h s = let g = grows_same (world_of a) in record {
    not_full = λ _ _. refl;
    heap_full = λ e. absurd (h e);
    stack_full = λ e. absurd (s e);
    output = g.output;
    entered = g.entered;
    used = g.used;
  }

  stopped : (s : Stop) (w : World) → goes_past no_limits s ≡ false
      → AgreesUpToLimits cells stack (stops s w) (stops s w)
  stopped s w h = same_run (stops s w) (λ e. differs s heap_full h e refl)
      (λ e. differs s stack_full h e refl)
    where
      differs : (s t : Stop) → goes_past no_limits s ≡ false → ended s ≡ ended t
          → goes_past no_limits t ≡ true → ⊥
      differs s t h e k = let q : s ≡ t = cc in let z : true ≡ false
          = sym k ∙ ap (goes_past no_limits) (sym q) ∙ h in cc

  past : (s : Stop) (w : World) (r : Answer) → goes_past no_limits s ≡ true → Grows w (world_of r)
      → Past no_limits room s (world_of r) → AgreesUpToLimits cells stack (stops s w) r
  past heap_full w r h g p = record {
    not_full = λ a b. absurd (a refl);
    heap_full = λ e. ltb-true _ _ p;
    stack_full = λ e. cc;
    output = g.output;
    entered = g.entered;
    used = g.used;
  }
  past stack_full w r h g p = record {
    not_full = λ a b. absurd (b refl);
    heap_full = λ e. cc;
    stack_full = λ e. ltb-true _ _ p;
    output = g.output;
    entered = g.entered;
    used = g.used;
  }
  past no_alternative w r h g p = cc
  past out_of_units w r h g p = cc
  past missing w r h g p = cc

  within : (a b : Answer) → Later no_limits room a b → AgreesUpToLimits cells stack a b
  within _ _ (same_words {vs = vs} {w = w}) = same_run (gives vs w) (λ e. cc) (λ e. cc)
  within _ _ (same_stop {s = s} {w = w} h) = stopped s w h
  within _ _ (goes_on {s = s} {w = w} {r = r} h g p) = past s w r h g p

  module _ (p : Program) (frame_words : ℕ → ℕ) (i : List ℕ) where
    run_within : (n : ℕ) → AgreesUpToLimits cells stack (limited p frame_words cells stack i n)
        (run p frame_words i n)
    run_within n = within _ _
        (subst (λ k. Later no_limits room (limited p frame_words cells stack i n)
        (run p frame_words i k)) (omega arith) (steady_run p frame_words no_limits room i n))

    -- an answer that is not for want of units has a unit left with one more
    over : (n : ℕ) (a : Answer) → a ≡ limited p frame_words cells stack i n
        → end_of a ≢ ended out_of_units →
        (world_of (limited p frame_words cells stack i (suc n))).left ≡ zero → ⊥
    over n a e h z =
        let x = (more_units_extend p frame_words room i n (suc n) (omega arith)).same_world
        (λ q. h (ap end_of e ∙ q)) in
        let left : (world_of (limited p frame_words cells stack i n)).left + (suc n - n) ≡ zero
        = sym (ap (λ w. w.left) x) ∙ z in
        let one : suc n - n ≡ 1 = omega arith in
        let none : (world_of (limited p frame_words cells stack i n)).left + 1 ≡ zero
        = ap (λ k. (world_of (limited p frame_words cells stack i n)).left + k) (sym one) ∙ left
        in
        omega (arith, none)

    -- a run that has used its last unit wanted it
    wanted : (n : ℕ) (a : Answer) → a ≡ limited p frame_words cells stack i n
        → (world_of (limited p frame_words cells stack i (suc n))).left ≡ zero
        → end_of a ≡ ended out_of_units
    wanted n (stops out_of_units w) e h = refl
    wanted n (gives vs w) e h = absurd (over n _ e (λ q. cc) h)
    wanted n (stops no_alternative w) e h = absurd (over n _ e (λ q. cc) h)
    wanted n (stops missing w) e h = absurd (over n _ e (λ q. cc) h)
    wanted n (stops heap_full w) e h = absurd (over n _ e (λ q. cc) h)
    wanted n (stops stack_full w) e h = absurd (over n _ e (λ q. cc) h)

    after : (n : ℕ) → (world_of (limited p frame_words cells stack i n)).left ≡ zero
        → ExtendsShorterRun (meaning_of_low p frame_words i) n
        (world_of (limited p frame_words cells stack i n)).out
    after zero h = tt
    after (suc n) h =
        let w = wanted n _ refl h in
        subst (λ a. IsPrefixOf (world_of a).out
        (world_of (limited p frame_words cells stack i (suc n))).out)
        ((run_within n).not_full
        (λ e. let q : ended heap_full ≡ ended out_of_units = sym e ∙ w in cc)
        (λ e. let q : ended stack_full ≡ ended out_of_units = sym e ∙ w in cc))
        (more_units_extend p frame_words room i n (suc n) (omega arith)).output

pub limits_only_stop : LimitsOnlyStop
limits_only_stop p frame_words cells stack i n =
    (run_within cells stack p frame_words i n, after cells stack p frame_words i n)
