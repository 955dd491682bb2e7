-- More units extend a run, and each entry costs one.
use Rattle.std.proofs.Common.{◌≡◌, ℕ, ◌+◌, ◌-◌, true, length, refl, sym, ◌∙◌, subst, arith, zero-add}
use Rattle.seq.proofs.Truth.{true_not_false}
use Rattle.low_code.specs.Values.{World, Room, Stop, no_alternative, out_of_units, missing, heap_full, stack_full, Answer, stops}
use Rattle.low_code.specs.Run.{start_words, run_in, start_world, world_of}
use Rattle.low_code.specs.Laws.{with_more_units, RunExtends, MoreUnitsExtend, OneEntryAUnit}
use Rattle.low_code.proofs.Steady.{Grows, grows_same, units_more, Later, same_words, same_stop, goes_on, goes_past, within_counts, calls_sound, steady_run}

only_units : (m : ℕ) (s : Stop) → goes_past (units_more m) s ≡ true → s ≡ out_of_units
only_units m no_alternative h = absurd (true_not_false (sym h))
only_units m missing h = absurd (true_not_false (sym h))
only_units m heap_full h = absurd (true_not_false (sym h))
only_units m stack_full h = absurd (true_not_false (sym h))
only_units m out_of_units h = refl

extends_like : (m : ℕ) (s : Stop) (w : World) → RunExtends m (stops s w)
    (stops s (with_more_units m w))
extends_like m s w = let g = grows_same w in record {
  output = g.output;
  entered = g.entered;
  cells = g.cells;
  frames = g.frames;
  used
      = g.used;
  same_end = λ h. refl;
  same_world = λ h. refl;
}

extends_past : (m : ℕ) (w : World) (r : Answer) → Grows w (world_of r)
    → RunExtends m (stops out_of_units w) r
extends_past m w r g = record {
  output = g.output;
  entered = g.entered;
  cells = g.cells;
  frames = g.frames;
  used
      = g.used;
  same_end = λ h. absurd (h refl);
  same_world = λ h. absurd (h refl);
}

extends_later : (m : ℕ) (room : Room) (a b : Answer) → Later (units_more m) room a b
    → RunExtends m a b
extends_later m room _ _ (same_words {w = w}) = let g = grows_same w
    in record {
      output = g.output;
      entered = g.entered;
      cells = g.cells;
      frames = g.frames;
      used
          = g.used;
      same_end = λ h. refl;
      same_world = λ h. refl;
    }
extends_later m room _ _ (same_stop {s = s} {w = w} h) = extends_like m s w
extends_later m room _ _ (goes_on {s = s} {w = w} {r = r} h g past)
    = subst (λ t. RunExtends m (stops t w) r) (sym (only_units m s h)) (extends_past m w r g)

pub more_units_extend : MoreUnitsExtend
more_units_extend p frame_words room i m n le =
    let e : m + (n - m) ≡ n = omega (arith, le) in
    subst (λ k. RunExtends (n - m) (run_in p frame_words room i m) (run_in p frame_words room i k))
    e (extends_later (n - m) room _ _ (steady_run p frame_words (units_more (n - m)) room i m))

pub one_entry_a_unit : OneEntryAUnit
unfolding run_in
one_entry_a_unit p frame_words room i n =
    within_counts room.cells (length p.globals) heap_full (start_world p frame_words i n) _
    ((calls_sound p frame_words room n).counts p.start (start_words p.argument) 0
    (start_world p frame_words i n)) ∙ zero-add n
