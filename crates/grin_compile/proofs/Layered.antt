-- Placed items that were selected for low code are code for what the low code tells.
--
-- Each layer tells or shows what the one above does, so the theorems are composed without looking
-- into any layer: evaluation by need, GRIN and its stages, low code, items, words.
use Rattle.std.proofs.Common.{◌≡◌, ◌≢◌, ℕ, ◌+◌, ◌*◌, ◌≤◌, Some, None, List, [], ◌∷◌, ◌++◌, length, refl, sym, ap, ◌∙◌, subst, arith}
use Rattle.std.proofs.lemmas.Grind.{common_steps}
use Rattle.seq.proofs.Lists.{length_map}
use Rattle.headline.specs.Carries.{IsBytes, IsPrefixOf, exits, MeaningResult, Meaning, ReachesResult, Comes, Carries, MeaningRefines}
use Rattle.elf32.specs.File.{program}
use Rattle.low_code.specs.Tree.{Program}
use Rattle.low_code.specs.Values.{Answer, gives, stops, no_alternative, out_of_units, missing, heap_full, stack_full}
use Rattle.low_code.specs.Run.{ended, run, limited, end_of, world_of, NeverMissing}
use Rattle.low_code.specs.Told.{meaning_of_low, entered_by_low}
use Rattle.low_code.proofs.Limits.{limits_only_stop}
use Rattle.low_code.proofs.MoreUnits.{one_entry_a_unit}
use Rattle.register_alloc.specs.Assignment.{Assignment, words_at}
use Rattle.rv32_machine.specs.Steps.{State, start_of}
use Rattle.rv32_machine.specs.Runs.{Exited as Exited', run as run'}
use Rattle.rv32_steps.specs.Seen.{finish_of as finish_of', observed_machine}
use Rattle.rv32_steps.specs.Trace.{trace, procedures_at}
use Rattle.rv32_items.specs.declared.Item.{Item}
use Rattle.rv32_items.specs.Course.{Layout, Point, CourseEnd, Going, Exited, Stopped, state_at, course, NeverTrapsOn}
use Rattle.rv32_items.specs.Placed.{Placed}
use Rattle.rv32_items.specs.Told.{finish_of, observed_items}
use Rattle.rv32_items.specs.Laws.{addresses_of, MachineMeetsItems}
use Rattle.rv32_items.proofs.Enters.{items_enter}
use Rattle.rv32_items.proofs.Reached.{items_are_reached}
use Rattle.rv32_items.proofs.Forward.{items_go_forward}
use Rattle.rv32_items.proofs.LastStep.{items_leave, exit_keeps, stops_are_behind, stops_are_last}
use Rattle.rv32_select.specs.Selects as select
use Rattle.rv32_select.specs.Selects.{Selects, BelowHeap, start_point, exit_of, HasNextCell}
use Rattle.grin_compile.specs.Limits.{HeapIsExceeded, FramesAreExceeded, StackIsExceeded}
use Rattle.grin_compile.specs.Code.{TellsLastStep, HasStops, Runs, IsCodeFor, IsBehindCells, TellsCellsBound}
use Rattle.grin_compile.specs.Layers.{LowCodeIsCarried, LayersCompose, CodeHasStops, CodeTellsCellsBound}
use Rattle.limits.specs.Limits.{heap_start}
use Rattle.grin_compile.proofs.Composed.{reaches_kept, comes_kept}
use Rattle.grin_compile.proofs.Selected.{comes, reaches}
use Rattle.grin_compile.proofs.Images.{starts, code_ends, below_heap, different, in_code}

-- a course that shows an exit has come to it
exit_is : (e : CourseEnd) (code : ℕ) → exits code ≡ finish_of e → e ≡ Exited code
exit_is (Going q) code h = cc
exit_is (Exited c) code h = cc
exit_is (Stopped kind) code h = cc

-- a front that is as long as the whole
whole : (xs ys : List ℕ) → IsPrefixOf xs ys → length ys ≤ length xs → ys ≡ xs
whole xs ys b l = b.1 ∙ ap (λ z. xs ++ z) (none b.0 (omega (arith, added xs b.0, ap length b.1, l)))
    ∙ nothing_more xs
  where
    none : (zs : List ℕ) → length zs ≡ 0 → zs ≡ []
    none [] h = refl
    none (z ∷ zs) h = absurd (omega arith)

    added : (xs ys : List ℕ) → length (xs ++ ys) ≡ length xs + length ys
    added xs ys = grind (arith, common_steps)

    nothing_more : (xs : List ℕ) → xs ++ [] ≡ xs
    nothing_more xs = grind (arith, common_steps)

module _ (l : Program) (a : Assignment) (cells stack : ℕ) (items : List Item) (words : List ℕ)
    (s : Selects l a cells stack items) (placed : Placed items words)
    (few : length words ≤ 268435456) where
  abbrev lay : Layout
  lay = placed.lay

  abbrev start : Point
  start = start_point l.width cells stack lay

  abbrev addresses : List ℕ
  addresses = addresses_of lay items s.begins

  below : BelowHeap lay
  below = below_heap items words placed few

  never_traps : (i : List ℕ) → IsBytes i → NeverTrapsOn lay items i start
  never_traps i bytes n kind e = subst (select.EndsLikeRun i
      (limited l (words_at a) cells stack i
      (length (procedures_at s.begins (course lay items n i start).passed)))
      (course lay items n i start)) e (s.follows lay placed.rises below i bytes n).finish

  abbrev image : State
  image = start_of (program words (4 * l.width * cells) stack)

  begun : state_at lay items start ≡ image
  begun = sym (starts items words placed l.width cells stack)

  pub has_stops : HasStops words image addresses
  has_stops = record {
    stops = lay.address s.flows.stops;
    nine_stop = let last = stops_are_last items words placed s.begins s.flows
        in omega (arith, s.nine_stop, code_ends items words placed);
    before_stops = stops_are_behind items words placed s.begins s.stand s.flows;
    tells_last = λ i bytes m. subst (λ t. TellsLastStep (lay.address s.flows.stops) t i m) begun
        (items_leave items words placed start i s.flows.stops 5 3 (_, refl) (never_traps i bytes)
        (s.leaves lay placed.rises below i bytes) m);
  }

  -- where the machine has exited, so has the course; and there x3 is behind the cells of the run
  module _ (i : List ℕ) (bytes : IsBytes i) (m code : ℕ) (s' : State) (other : code ≢ 4)
      (exited : (run' m i (state_at lay items start)).end ≡ Exited' code s') where
    -- what an answer of the run says of the state
    record Behind (x : Answer) : Type 0 where
      pub fits : length (world_of x).cells ≤ cells
      pub next : s'.regs 3 ≡ heap_start + 4 * l.width * length (world_of x).cells
      pub not_full : code ≢ 5
          → (end_of x ≢ ended heap_full) × (end_of x ≢ ended stack_full)

    -- a run ends with this code
    behind : (x : Answer) → exit_of (end_of x) ≡ Some code
        → HasNextCell lay items l.width cells i start x → Behind x
    behind (gives vs w) e h = record {
      fits = h.0;
      next = exit_keeps items words placed start i 0 3
          (heap_start + 4 * l.width * length w.cells) code (_, refl) (never_traps i bytes) h.1 m
          s' exited;
      not_full = λ ne. ((λ f. cc), (λ f. cc));
    }
    behind (stops no_alternative w) e h = record {
      fits = h.0;
      next = exit_keeps items words placed start i 3 3
          (heap_start + 4 * l.width * length w.cells) code (_, refl) (never_traps i bytes) h.1 m
          s' exited;
      not_full = λ ne. ((λ f. cc), (λ f. cc));
    }
    behind (stops stack_full w) e h = record {
      fits = h.0;
      next = exit_keeps items words placed start i 5 3
          (heap_start + 4 * l.width * length w.cells) code (_, refl) (never_traps i bytes) h.1 m
          s' exited;
      not_full = λ ne. let same : code ≡ 5 = cc in absurd (ne same);
    }
    behind (stops heap_full w) e h = let same : code ≡ 4 = cc in absurd (other same)
    behind (stops out_of_units w) e h = absurd (cc)
    behind (stops missing w) e h = absurd (cc)

    behind_cells : IsBehindCells l (words_at a) cells stack addresses (state_at lay items start) i m
        code s'
    behind_cells =
        let k = items_enter items words placed start i s.begins (_, refl) (never_traps i bytes) refl
        s.stand s.flows.instruction_behind m in
        let c = course lay items k.0 i start in
        let n = length (procedures_at s.begins c.passed) in
        let f = s.follows lay placed.rises below i bytes k.0 in
        let here = exit_is c.end code (sym (ap finish_of' exited) ∙ ap (λ o. o.finish) k.1.seen) in
        let x = limited l (words_at a) cells stack i n in
        let exit = (subst (λ e. select.EndsLikeRun i x c e) here f.finish).0 in
        let count : n ≡ length (procedures_at addresses (trace m i (state_at lay items start)))
        = ap length (sym k.1.entered) in
        let b = behind x exit (s.next_cell lay placed.rises below i bytes n) in
        let within = (limits_only_stop l (words_at a) cells stack i n).0 in
        record {
          fits = subst (λ units. length
              (world_of (limited l (words_at a) cells stack i units)).cells ≤ cells) count b.fits;
          next = subst (λ units. s'.regs 3 ≡ heap_start + 4 * l.width * length
              (world_of (limited l (words_at a) cells stack i units)).cells) count b.next;
          whole = λ ne. subst (λ units. limited l (words_at a) cells stack i units
              ≡ run l (words_at a) i units) count
              (let f = b.not_full ne in within.not_full f.0 f.1);
        }

  pub tells_cells_bound : TellsCellsBound l (words_at a) cells stack addresses image
  tells_cells_bound = subst (λ t. TellsCellsBound l (words_at a) cells stack addresses t) begun
      (λ i bytes m code s' other exited. behind_cells i bytes m code s' other exited)

  module _ (told : Meaning) (entered : List ℕ → ℕ → List ℕ) (StackFull : MeaningResult → Type 0)
      (tells : (i : List ℕ) → IsBytes i → (n : ℕ) → MeaningRefines (told i n)
      (meaning_of_low l (words_at a) i n))
      (enters : (i : List ℕ) → IsBytes i → (n : ℕ) → entered_by_low l (words_at a) i n ≡ entered i
      n)
      (frames : (i : List ℕ) → IsBytes i → (n : ℕ) → FramesAreExceeded stack
      (meaning_of_low l (words_at a) i n)
      → StackFull (told i n))
      (never : NeverMissing l) where
    module _ (i : List ℕ) (bytes : IsBytes i) where
      meets : (m : ℕ) → (n : ℕ) × MachineMeetsItems lay items s.begins i start m n
      meets m = items_enter items words placed start i s.begins (_, refl)
          (never_traps i bytes) refl s.stand s.flows.instruction_behind m

      kept : (n : ℕ) → HeapIsExceeded cells (meaning_of_low l (words_at a) i n)
          → HeapIsExceeded cells (told i n)
      kept n h = let t = (tells i bytes n).cells in omega (arith, h, t)

      framed : (n : ℕ) → FramesAreExceeded stack (meaning_of_low l (words_at a) i n)
          → StackFull (told i n)
      framed n h = frames i bytes n h

      -- what so many steps show is what as many units tell as procedures were met
      shown : (m : ℕ) → Comes (HeapIsExceeded cells) StackFull (told i)
          (length (procedures_at addresses (trace m i (state_at lay items start))))
          (observed_machine (state_at lay items start) i m)
      shown m =
          let k = meets m in
          let c = course lay items k.0 i start in
          let n = length (procedures_at s.begins c.passed) in
          let low = comes l a cells stack never i bytes s.begins c
          (s.follows lay placed.rises below i bytes k.0) in
          let up = comes_kept (told i) (meaning_of_low l (words_at a) i) (HeapIsExceeded cells)
          StackFull
          (HeapIsExceeded cells) (FramesAreExceeded stack) n (observed_items lay items start i k.0)
          (tells i bytes)
          (kept n) (framed n) low in
          let count : n ≡ length (procedures_at addresses (trace m i (state_at lay items start)))
          = ap length
          (sym k.1.entered) in
          subst (λ j. Comes (HeapIsExceeded cells) StackFull (told i) j
          (observed_machine (state_at lay items start) i m)) count
          (subst (Comes (HeapIsExceeded cells) StackFull (told i) n) (sym k.1.seen) up)

      -- the procedures that were met are those that low code enters
      met : (m : ℕ) → let ps = procedures_at addresses (trace m i (state_at lay items start))
          in ps ≡ entered i (length ps)
      met m =
          let k = meets m in
          let c = course lay items k.0 i start in
          let n = length (procedures_at s.begins c.passed) in
          let f = s.follows lay placed.rises below i bytes k.0 in
          let within = (limits_only_stop l (words_at a) cells stack i n).0 in
          let all = one_entry_a_unit l (words_at a) (record { cells = None; stack = None }) i n in
          let many : length (world_of (limited l (words_at a) cells stack i n)).entered ≡ n
          = ap length (sym f.entered)
          in
          let same : (world_of (run l (words_at a) i n)).entered ≡
          (world_of (limited l (words_at a) cells stack i n)).entered =
          whole _ _ within.entered (omega (arith, all, many)) in
          let ps : procedures_at s.begins c.passed ≡ entered i n
          = f.entered ∙ sym same ∙ enters i bytes n in
          subst (λ qs. qs ≡ entered i (length qs)) (sym k.1.entered) ps

      reached : (n : ℕ) → (m : ℕ) × ReachesResult (told i n)
          (observed_machine (state_at lay items start) i m)
      reached n =
          let r = s.arrives lay placed.rises below i bytes n in
          let low = reaches l a cells stack never i bytes s.begins n (course lay items r.0 i start)
          r.1 in
          let m = items_are_reached items words placed start i (_, refl) (never_traps i bytes) r.0
          in (
            m.0,
            subst (ReachesResult (told i n)) (sym m.1.1)
                (reaches_kept (told i n) (meaning_of_low l (words_at a) i n)
                (observed_items lay items start i r.0)
                (tells i bytes n) low),
          )

    pub code_for : IsCodeFor (HeapIsExceeded cells) StackFull told entered (length l.procs) words
        image addresses
    code_for = record {
      one_each = length_map _ s.begins ∙ s.one_each;
      different = different items words placed s.begins s.stand s.flows.instruction_behind
          s.different;
      in_code = in_code items words placed s.begins s.stand s.flows.instruction_behind;
      carries = subst (λ t. Carries (HeapIsExceeded cells) StackFull told (observed_machine t))
          begun (record {
            reaches = reached;
            comes = λ i bytes m. (
              length (procedures_at addresses (trace m i (state_at lay items start))),
              shown i bytes
                  m,
            );
          });
      runs = λ i bytes m. subst
          (λ t. Runs (HeapIsExceeded cells) StackFull told entered addresses t i m) begun
          (record {
            enters = met i bytes m;
            comes = shown i bytes m;
            forward = items_go_forward items words placed start i s.begins (_, refl) refl
                (λ n. s.home lay placed.rises below i bytes n) s.stand s.flows m;
          });
    }

pub low_code_is_carried : LowCodeIsCarried
low_code_is_carried l a cells stack items words never s placed few =
    code_for l a cells stack items words s placed few (meaning_of_low l (words_at a))
    (entered_by_low l (words_at a))
    (FramesAreExceeded stack)
    (λ i bytes n. tells_itself (meaning_of_low l (words_at a) i n)) (λ i bytes n. refl)
    (λ i bytes n h. h) never
  where
    tells_itself : (t : MeaningResult) → MeaningRefines t t
    tells_itself t = record { out = refl; end = refl; used = refl; cells = omega arith }

pub code_has_stops : CodeHasStops
code_has_stops l a cells stack items words s placed few
    = has_stops l a cells stack items words s placed few

pub code_tells_cells_bound : CodeTellsCellsBound
code_tells_cells_bound l a cells stack items words s placed few
    = tells_cells_bound l a cells stack items words s placed few

pub layers_compose : LayersCompose
layers_compose told entered l a frame cells stack items words tells enters frames never s placed few
    =
    code_for l a cells stack items words s placed few told entered (StackIsExceeded frame stack)
    tells enters
    (λ i bytes n h. let f = frames i bytes n in omega (arith, h, f)) never
