-- An image that was not full runs the same with more room.
use Rattle.std.proofs.Common.{◌≡◌, ◌≢◌, ◌⊎◌, inl, inr, ℕ, ◌*◌, ◌≤◌, List, length, None, sym, ap, ◌∙◌, subst, arith}
use Rattle.seq.proofs.Order.{le_or_lt}
use Rattle.headline.specs.Carries.{End, going, done, no_alternative, missing, MeaningResult, MachineObservation, exits, IsBytes, RanOutOfRoom, EndMatchesExit, ReachesResult, Finishes, Comes}
use Rattle.arity_check.specs.Program as core
use Rattle.grin_syntax.specs.Tree.{Program}
use Rattle.flow_system.specs.Solution.{Solution}
use Rattle.low_code.specs.Tree as low
use Rattle.low_code.specs.Values as values
use Rattle.low_code.specs.Values.{World, Answer, gives, stops}
use Rattle.low_code.specs.Run as run
use Rattle.low_code.specs.Run.{end_of, world_of, limited}
use Rattle.low_code.specs.Told.{told_end, meaning_of_low}
use Rattle.low_code.proofs.MoreUnits.{more_units_extend}
use Rattle.rv32_machine.specs.Steps.{State}
use Rattle.rv32_machine.specs.Runs.{MachineEnd, Going, Exited, Stopped, run as run'}
use Rattle.rv32_steps.specs.Seen.{finish_of, observed_machine}
use Rattle.rv32_steps.specs.Trace.{trace, procedures_at}
use Rattle.grin_compile.specs.Limits.{HeapIsExceeded, FramesAreExceeded, frame_words, heap_bytes}
use Rattle.grin_compile.specs.Code.{image_start_state}
use Rattle.grin_compile.specs.Made.{IsImageOf}
use Rattle.grin_compile.specs.Room.{MoreRoomRunsSame}
use Rattle.grin_compile.proofs.Fitting.{Fits, FitsRoom, run_fits}

-- what a machine shows that exited is where it stood
stood : (e : MachineEnd) (exit : ℕ) → finish_of e ≡ exits exit → (s : State) × (e ≡ Exited exit s)
stood (Going s) exit h = absurd (cc)
stood (Exited code s) exit h = let same : code ≡ exit = cc in (s, ap (λ c. Exited c s) same)
stood (Stopped kind s) exit h = absurd (cc)

-- an end that a machine shows by 0 or 3
abbrev IsOver : End → Type 0
IsOver going = ⊥
IsOver done = Unit {0}
IsOver no_alternative = Unit {0}
IsOver missing = ⊥

-- a run that is over fits
fits_over : (cells stack : ℕ) (a : Answer) → FitsRoom cells stack a → IsOver (told_end (end_of a))
    → Fits cells stack (world_of a)
fits_over cells stack (gives vs w) h over = h
fits_over cells stack (stops values.no_alternative w) h over = h
fits_over cells stack (stops values.out_of_units w) h over = absurd over
fits_over cells stack (stops values.missing w) h over = absurd over
fits_over cells stack (stops values.heap_full w) h over = absurd over
fits_over cells stack (stops values.stack_full w) h over = absurd over

wants_none : (a : Answer) → IsOver (told_end (end_of a)) → end_of a ≢ run.ended values.out_of_units
wants_none (gives vs w) over e = cc
wants_none (stops values.no_alternative w) over e = cc
wants_none (stops values.out_of_units w) over e = absurd over
wants_none (stops values.missing w) over e = absurd over
wants_none (stops values.heap_full w) over e = absurd over
wants_none (stops values.stack_full w) over e = absurd over

module _ (l : low.Program) (words : ℕ → ℕ) (i : List ℕ) where
  abbrev told : ℕ → MeaningResult
  told = meaning_of_low l words i

  abbrev ran : ℕ → Answer
  ran n = run.run l words i n

  -- with whatever units, a run needs no more than one that is over
  record NoMore (n k : ℕ) : Type 0 where
    pub cells : (told k).cells ≤ (told n).cells
    pub depth : (told k).depth ≤ (told n).depth
    pub used : IsOver (told k).end → (told k).used ≡ (told n).used

  no_more : (n k : ℕ) → IsOver (told n).end → NoMore n k
  no_more n k over = elim (le_or_lt k n) [
    | inl le ↦
        let x = more_units_extend l words (record { cells = None; stack = None }) i k n le in
        record {
          cells = x.cells;
          depth = x.frames;
          used = λ too. ap (λ w. w.used) (sym (x.same_world (wants_none (ran k) too)));
        }
    | inr lt ↦
        let x = more_units_extend l words (record { cells = None; stack = None }) i n k
        (omega (arith, lt)) in
        let same = x.same_world (wants_none (ran n) over) in
        record {
          cells = let c = ap (λ w. length w.cells) same in omega (arith, c);
          depth = let d = ap (λ w. w.frames) same in omega (arith, d);
          used = λ too. ap (λ w. w.used) same;
        }
  ]

-- what an exit with 0 or 3 says of the program
record SaysOver (told : ℕ → MeaningResult) (n exit : ℕ) (s : MachineObservation) : Type 0 where
  pub out : s.out ≡ (told n).out
  pub used : s.used ≡ (told n).used
  pub over : IsOver (told n).end
  pub matched : (t : MachineObservation) → EndMatchesExit (told n).end (told n) t
      → (t.out ≡ (told n).out) × (t.finish ≡ exits exit)

module _ (Heap Stack : MeaningResult → Type 0) (told : ℕ → MeaningResult) (n : ℕ)
    (s : MachineObservation) where
  says_over : (exit : ℕ) → (exit ≡ 0) ⊎ (exit ≡ 3)
      → Finishes Heap Stack told n s (exits exit) → SaysOver told n exit s
  says_over exit (inl zero) f =
      let g = subst (λ e. Finishes Heap Stack told n s (exits e)) zero f in record {
        out = g.0;
        used = g.1;
        over = subst IsOver (sym g.2) tt;
        matched = λ t h. subst (λ e. (t.out ≡ (told n).out) × (t.finish ≡ exits e)) (sym zero)
            (subst (λ e. EndMatchesExit e (told n) t) g.2 h);
      }
  says_over exit (inr three) f =
      let g = subst (λ e. Finishes Heap Stack told n s (exits e)) three f in record {
        out = g.0;
        used = g.1;
        over = subst IsOver (sym g.2) tt;
        matched = λ t h. subst (λ e. (t.out ≡ (told n).out) × (t.finish ≡ exits e)) (sym three)
            (subst (λ e. EndMatchesExit e (told n) t) g.2 h);
      }

same_seen : (s t : MachineObservation) → s.out ≡ t.out → s.used ≡ t.used → s.finish ≡ t.finish
    → s ≡ t
same_seen s t out used finish = λ j. record { out = out j; used = used j; finish = finish j }

not_four : (exit : ℕ) → (exit ≡ 0) ⊎ (exit ≡ 3) → exit ≢ 4
not_four exit (inl zero) four = omega (arith, zero, four)
not_four exit (inr three) four = omega (arith, three, four)

not_five : (exit : ℕ) → (exit ≡ 0) ⊎ (exit ≡ 3) → exit ≢ 5
not_five exit (inl zero) five = omega (arith, zero, five)
not_five exit (inr three) five = omega (arith, three, five)

module _ (p : core.Program) (A : Solution) (g : Program) (l : low.Program) (frames : List ℕ)
    (i : List ℕ) (bytes : IsBytes i) where
  abbrev tells : ℕ → MeaningResult
  tells = meaning_of_low l (frame_words frames) i

  -- an image with this room has come to such an exit
  module _ (cells stack : ℕ) (code addresses file : List ℕ)
      (image : IsImageOf p A g l frames cells stack code addresses file) where
    abbrev start : State
    start = image_start_state code (heap_bytes g cells) stack

    abbrev units : ℕ → ℕ
    units m = length (procedures_at addresses (trace m i start))

    abbrev comes : (m : ℕ) → Comes (HeapIsExceeded cells) (FramesAreExceeded stack) tells (units m)
        (observed_machine start i m)
    comes m = (image.within_frames.runs i bytes m).comes

    over : (m exit : ℕ) → (exit ≡ 0) ⊎ (exit ≡ 3)
        → (observed_machine start i m).finish ≡ exits exit
        → SaysOver tells (units m) exit (observed_machine start i m)
    over m exit well h = says_over (HeapIsExceeded cells) (FramesAreExceeded stack) tells (units m)
        (observed_machine start i m) exit well
        (subst (λ f. Finishes (HeapIsExceeded cells) (FramesAreExceeded stack) tells (units m)
        (observed_machine start i m) f) h (comes m).finish)

    fits : (m exit : ℕ) → (exit ≡ 0) ⊎ (exit ≡ 3)
        → (observed_machine start i m).finish ≡ exits exit
        → ((tells (units m)).cells ≤ cells) × (4 * (tells (units m)).depth ≤ stack)
    fits m exit well h =
        let s = stood (run' m i start).end exit h in
        let t = image.tells_cells_bound i bytes m exit s.0 (not_four exit well) s.1 in
        let whole = t.whole (not_five exit well) in
        let f = fits_over cells stack (run.run l (frame_words frames) i (units m))
        (subst (FitsRoom cells stack) whole
        (run_fits cells stack l (frame_words frames) i (units m)))
        (over m exit well h).over in
        (f.cells_fit, f.frames_fit)

    -- it isn't full where the program needs no more than there is
    never_full : (m : ℕ) → ((tells (units m)).cells ≤ cells)
        → (4 * (tells (units m)).depth ≤ stack) → RanOutOfRoom (observed_machine start i m).finish
        → ⊥
    never_full m few low (inl four) =
        let f = subst (λ f. Finishes (HeapIsExceeded cells) (FramesAreExceeded stack) tells
        (units m) (observed_machine start i m) f) four (comes m).finish in
        omega (arith, f.0, few)
    never_full m few low (inr five) =
        let f = subst (λ f. Finishes (HeapIsExceeded cells) (FramesAreExceeded stack) tells
        (units m) (observed_machine start i m) f) five (comes m).finish in
        omega (arith, f.0, low)

pub more_room_runs_same : MoreRoomRunsSame
more_room_runs_same p A g l frames cells cells' stack stack' code addresses file code' addresses'
    file' image image' le le' i bytes m exit well h =
    let first = over p A g l frames i bytes cells stack code addresses file image m exit well h in
    let n = units p A g l frames i bytes cells stack code addresses file image m in
    let room = fits p A g l frames i bytes cells stack code addresses file image m exit well h in
    let r = image'.within_frames.carries.reaches i bytes n in
    (r.0, by_result n first room r.0 r.1)
  where
    seen : MachineObservation
    seen = observed_machine (image_start_state code (heap_bytes g cells) stack) i m

    seen' : ℕ → MachineObservation
    seen' m' = observed_machine (image_start_state code' (heap_bytes g cells') stack') i m'

    told' : ℕ → MeaningResult
    told' = meaning_of_low l (frame_words frames) i

    by_result : (n : ℕ) → SaysOver told' n exit seen
        → ((told' n).cells ≤ cells) × (4 * (told' n).depth ≤ stack)
        → (m' : ℕ) → ReachesResult (told' n) (seen' m') → seen' m' ≡ seen
    by_result n first room m' (inl r) =
        let matched = first.matched (seen' m') r.1 in
        let second = over p A g l frames i bytes cells' stack' code' addresses' file' image' m' exit
        well matched.1 in
        let k = units p A g l frames i bytes cells' stack' code' addresses' file' image' m' in
        let less = no_more l (frame_words frames) i n k first.over in
        same_seen (seen' m') seen (matched.0 ∙ sym first.out)
        (second.used ∙ less.used second.over ∙ sym first.used) (matched.1 ∙ sym h)
    by_result n first room m' (inr r) =
        let k = units p A g l frames i bytes cells' stack' code' addresses' file' image' m' in
        let less = no_more l (frame_words frames) i n k first.over in
        absurd (never_full p A g l frames i bytes cells' stack' code' addresses' file' image' m'
        (omega (arith, less.cells, room.0, le)) (omega (arith, less.depth, room.1, le')) r.0)
