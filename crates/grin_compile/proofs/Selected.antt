-- What was selected carries its low code.
use Rattle.std.proofs.Common.{◌≡◌, ◌≢◌, inl, inr, ℕ, zero, ◌-◌, List, length, Some, refl, sym, ap, ◌∙◌, subst, arith}
use Rattle.headline.specs.Carries.{IsBytes, IsPrefixOf, MeaningResult, MachineObservation, exits, EndMatchesExit, ReachesResult, ExtendsShorterRun, Finishes, Comes}
use Rattle.low_code.specs.Tree.{Program}
use Rattle.low_code.specs.Values.{no_alternative, out_of_units, missing, heap_full, stack_full, Answer}
use Rattle.low_code.specs.Run.{RunEnd, done, ended, run, limited, end_of, world_of, NeverMissing}
use Rattle.low_code.specs.Told.{told_end, meaning_of_low}
use Rattle.low_code.specs.Laws.{AgreesUpToLimits}
use Rattle.low_code.proofs.Limits.{limits_only_stop}
use Rattle.low_code.proofs.MoreUnits.{one_entry_a_unit}
use Rattle.register_alloc.specs.Assignment.{Assignment, words_at}
use Rattle.rv32_items.specs.Course.{CourseEnd as CourseEnd, Going, Exited, Stopped, Course, course}
use Rattle.rv32_items.specs.Told.{finish_of, observed_items}
use Rattle.rv32_steps.specs.Trace.{procedures_at}
use Rattle.rv32_select.specs.Selects as select
use Rattle.rv32_select.specs.Selects.{exit_of, SameOutputAndInput, Follows, ReachesAnswer, start_point}
use Rattle.grin_compile.specs.Limits.{HeapIsExceeded, FramesAreExceeded}
use Rattle.grin_compile.specs.Layers.{SelectionCarriesLowCode}
use Rattle.low_code.proofs.Steady.{begins_on}

module _ (l : Program) (a : Assignment) (cells stack : ℕ) (never : NeverMissing l) (i : List ℕ)
    (bytes : IsBytes i) where
  abbrev within_room : ℕ → Answer
  within_room n = limited l (words_at a) cells stack i n

  abbrev unlimited : ℕ → Answer
  unlimited n = run l (words_at a) i n

  abbrev told : ℕ → MeaningResult
  told = meaning_of_low l (words_at a) i

  abbrev between : (n : ℕ) → AgreesUpToLimits cells stack (within_room n) (unlimited n)
  between n = (limits_only_stop l (words_at a) cells stack i n).0

  -- a run that has ended without being full is the run without limits
  same : (n : ℕ) (e : RunEnd) → end_of (within_room n) ≡ e → e ≢ ended heap_full
      → e ≢ ended stack_full → within_room n ≡ unlimited n
  same n e is h s = (between n).not_full (λ f. h (sym is ∙ f)) (λ f. s (sym is ∙ f))

  abbrev seen : Course → MachineObservation
  seen c = record { out = c.out; used = length i - length c.left; finish = finish_of c.end }

  finished : (n : ℕ) (c : Course) (e : RunEnd) (code : ℕ) → end_of (within_room n) ≡ e
      → exit_of e ≡ Some code → SameOutputAndInput i (within_room n) c
      → ((world_of (within_room n)).left ≡ zero) → Finishes (HeapIsExceeded cells)
      (FramesAreExceeded stack) told n (seen c) (exits code)
  finished n c done code is exit s left =
      let q : code ≡ 0 = cc in
      let r : within_room n ≡ unlimited n = same n done is (λ e. cc) (λ e. cc) in
      subst (λ k. Finishes (HeapIsExceeded cells) (FramesAreExceeded stack) told n (seen c)
      (exits k)) (sym q) (
        s.0 ∙ ap (λ x. (world_of x).out) r,
        s.1 ∙ ap (λ x. (world_of x).used) r,
        ap told_end (ap end_of (sym r) ∙ is),
      )
  finished n c (ended no_alternative) code is exit s left =
      let q : code ≡ 3 = cc in
      let r : within_room n ≡ unlimited n = same n (ended no_alternative) is (λ e. cc) (λ e. cc) in
      subst (λ k. Finishes (HeapIsExceeded cells) (FramesAreExceeded stack) told n (seen c)
      (exits k)) (sym q) (
        s.0 ∙ ap (λ x. (world_of x).out) r,
        s.1 ∙ ap (λ x. (world_of x).used) r,
        ap told_end (ap end_of (sym r) ∙ is),
      )
  finished n c (ended heap_full) code is exit s left =
      let q : code ≡ 4 = cc in
      subst (λ k. Finishes (HeapIsExceeded cells) (FramesAreExceeded stack) told n (seen c)
      (exits k)) (sym q) (
        (between n).heap_full is,
        subst (λ o. ExtendsShorterRun told n o) (sym s.0)
            ((limits_only_stop l (words_at a) cells stack i n).1 left),
      )
  finished n c (ended stack_full) code is exit s left =
      let q : code ≡ 5 = cc in
      subst (λ k. Finishes (HeapIsExceeded cells) (FramesAreExceeded stack) told n (seen c)
      (exits k)) (sym q) (
        (between n).stack_full is,
        subst (λ o. ExtendsShorterRun told n o) (sym s.0)
            ((limits_only_stop l (words_at a) cells stack i n).1 left),
      )
  finished n c (ended out_of_units) code is exit s left = cc
  finished n c (ended missing) code is exit s left = cc

  finishes : (n : ℕ) (c : Course) (e : CourseEnd) → ((world_of (within_room n)).left ≡ zero)
      → select.EndsLikeRun i (within_room n) c e
      → Finishes (HeapIsExceeded cells) (FramesAreExceeded stack) told n (seen c) (finish_of e)
  finishes n c (Going p) left h = tt
  finishes n c (Exited code) left h = finished n c (end_of (within_room n)) code refl h.0 h.1 left
  finishes n c (Stopped kind) left h = absurd h

  pub comes : (begins : List ℕ) (c : Course) → let n = length (procedures_at begins c.passed) in
      Follows begins i (within_room n) c → Comes (HeapIsExceeded cells) (FramesAreExceeded stack)
      told n (seen c)
  comes begins c f =
      let n = length (procedures_at begins c.passed) in
      let units = one_entry_a_unit l (words_at a)
      (record { cells = Some cells; stack = Some stack }) i n in
      let many : n ≡ length (world_of (within_room n)).entered = ap length f.entered in
      let left : (world_of (within_room n)).left ≡ zero = omega (arith, units, many) in
      record {
        output = begins_on c.out (world_of (within_room n)).out (told n).out f.output
            (between n).output;
        used = omega (arith, f.used, (between n).used);
        finish = finishes n c c.end left f.finish;
      }

  reached : (n : ℕ) (c : Course) (e : RunEnd) → end_of (within_room n) ≡ e
      → IsPrefixOf (world_of (within_room n)).out c.out
      → select.Matches i (within_room n) c (exit_of e) → ReachesResult (told n) (seen c)
  reached n c done is out h =
      let r : within_room n ≡ unlimited n = same n done is (λ e. cc) (λ e. cc) in
      let e : (told n).end ≡ told_end done = ap told_end (ap end_of (sym r) ∙ is) in
      inl (
        subst (λ x. IsPrefixOf (world_of x).out c.out) r out,
        subst (λ x. EndMatchesExit x (told n) (seen c)) (sym e)
            (h.1.0 ∙ ap (λ x. (world_of x).out) r, ap finish_of h.0),
      )
  reached n c (ended no_alternative) is out h =
      let r : within_room n ≡ unlimited n = same n (ended no_alternative) is (λ e. cc) (λ e. cc) in
      let e : (told n).end ≡ told_end (ended no_alternative) = ap told_end (ap end_of (sym r) ∙ is)
      in
      inl (
        subst (λ x. IsPrefixOf (world_of x).out c.out) r out,
        subst (λ x. EndMatchesExit x (told n) (seen c)) (sym e)
            (h.1.0 ∙ ap (λ x. (world_of x).out) r, ap finish_of h.0),
      )
  reached n c (ended out_of_units) is out h =
      let r : within_room n ≡ unlimited n = same n (ended out_of_units) is (λ e. cc) (λ e. cc) in
      let e : (told n).end ≡ told_end (ended out_of_units) = ap told_end (ap end_of (sym r) ∙ is) in
      inl (
        subst (λ x. IsPrefixOf (world_of x).out c.out) r out,
        subst (λ x. EndMatchesExit x (told n) (seen c)) (sym e) tt,
      )
  reached n c (ended missing) is out h =
      let r : within_room n ≡ unlimited n = same n (ended missing) is (λ e. cc) (λ e. cc) in
      absurd (never (words_at a) i bytes n (ap end_of (sym r) ∙ is))
  reached n c (ended heap_full) is out h =
      inr (
        inl (ap finish_of h.0),
        subst (λ o. IsPrefixOf o (told n).out) (sym h.1.0)
            (between n).output,
      )
  reached n c (ended stack_full) is out h =
      inr (
        inr (ap finish_of h.0),
        subst (λ o. IsPrefixOf o (told n).out) (sym h.1.0)
            (between n).output,
      )

  pub reaches : (begins : List ℕ) (n : ℕ) (c : Course) → ReachesAnswer begins i (within_room n) c
      → ReachesResult (told n) (seen c)
  reaches begins n c h = reached n c (end_of (within_room n)) refl h.output h.ended

pub selection_carries : SelectionCarriesLowCode
selection_carries l a cells stack items never s lay rises below = (
  record {
    reaches = λ i bytes n.
        let r = s.arrives lay rises below i bytes n in (
          r.0,
          reaches l a cells stack never i bytes s.begins n
              (course lay items r.0 i (start_point l.width cells stack lay)) r.1,
        );
    comes = λ i bytes k. (
      length (procedures_at s.begins
          (course lay items k i (start_point l.width cells stack lay)).passed),
      shown i bytes k,
    );
  },
  shown,
)
  where
    shown : (i : List ℕ) → IsBytes i → (k : ℕ) →
        let n = length
        (procedures_at s.begins
        (course lay items k i (start_point l.width cells stack lay)).passed) in
        Comes (HeapIsExceeded cells) (FramesAreExceeded stack) (meaning_of_low l (words_at a) i) n
        (observed_items lay items (start_point l.width cells stack lay) i k)
    shown i bytes k =
        comes l a cells stack never i bytes s.begins
        (course lay items k i (start_point l.width cells stack lay))
        (s.follows lay rises below i bytes k)
