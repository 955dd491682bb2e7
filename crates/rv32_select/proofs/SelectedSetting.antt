-- What the simulation asks of items and layout, of selected items: where procedures, stops and the
-- start stand.
use Rattle.std.proofs.Common.{◌≡◌, ◌≢◌, ℕ, zero, suc, ◌+◌, ◌<◌, ◌≤◌, Bool, true, false, List, [], ◌∷◌, ◌++◌, length, Some, None, refl, sym, ap, ◌∙◌, subst, arith, append_assoc, length-append, ◌-◌}
use Rattle.std.specs.Prelude.{Option, nat_eq, if◌then◌else◌, slice_get}
use Rattle.std.specs.List.{range_with_len}
use Rattle.std.proofs.lemmas.Bool.Decides.{nat_tests}
use Rattle.rv32_steps.specs.Trace.{procedure_from}
use Rattle.low_code.specs.Tree.{Procedure, Program}
use Rattle.low_code.specs.Formed.{variables, IsStartWellFormed}
use Rattle.low_code.specs.Literals.{Small, AllSmall}
use Rattle.register_alloc.specs.Assignment.{Assignment, place_of, words_at}
use Rattle.register_alloc.specs.Fits.{slots_of}
use Rattle.rv32_items.specs.declared.Item.{Item}
use Rattle.rv32_items.specs.declared.Item.TheVariants.{Jump}
use Rattle.rv32_items.specs.Course.{Layout}
use Rattle.rv32_items.specs.Placed.{AddressesRise}
use Rattle.rv32_select.specs.declared.source.Continuation.TheVariants.{Returns}
use Rattle.rv32_select.specs.Emit.{plain, number_moves, result_spots, start_items, exit_with, stop_items, base_at_start}
use Rattle.rv32_select.specs.IsSelected.{heap_end, step, heap_full, no_alternative, first_label, params_of, sources, start_argument, EmitsProcedures, first_call, IsSelected, is_lasting}
use Rattle.limits.specs.Limits.{heap_start, stack_end}
use Rattle.rv32_select.specs.Selectable.{Selectable}
use Rattle.rv32_select.specs.Selects.{BelowHeap}
use Rattle.rv32_select.proofs.Courses.{Stands, front, back}
use Rattle.rv32_select.proofs.PlaceFacts.{StandsAt, Setting}
use Rattle.rv32_select.proofs.FittingPlaces.{procedure_fine}
use Rattle.rv32_select.proofs.EmittedLabels.{emits_up}
use Rattle.rv32_select.proofs.Statics.{begins, selected_found}
use Rattle.rv32_select.proofs.WholeRun.{Started}

-- ---- items stand behind those that come before them

stands_behind : (before items : List Item) → Stands (before ++ items) (length before) items
stands_behind before [] = tt
stands_behind before (i ∷ items) = (
  next before,
  subst (λ all. Stands all (suc (length before)) items) joined
      (subst (λ n. Stands ((before ++ i ∷ []) ++ items) n items) longer
      (stands_behind (before ++ i ∷ []) items)),
)
  where
    next : (xs : List Item) → slice_get (xs ++ i ∷ items) (length xs) ≡ Some i
    next [] = refl
    next (x ∷ xs) = next xs

    joined : (before ++ i ∷ []) ++ items ≡ before ++ i ∷ items
    joined = append_assoc before (i ∷ []) items

    longer : length (before ++ i ∷ []) ≡ suc (length before)
    longer = length-append before (i ∷ []) ∙ omega arith

-- ---- procedures are found by their numbers

numbers_here : (k n f : ℕ) → k ≤ f → f < k + n → procedure_from k (range_with_len k n) f ≡ f ∷ []
numbers_here k zero f low high = absurd (omega arith)
numbers_here k (suc n) f low high = by_test (nat_eq f k) refl
    (λ other. numbers_here (k + 1) n f (omega (arith, other)) (omega arith))
  where
    by_test : (t : Bool) → nat_eq f k ≡ t →
        (f ≢ k → procedure_from (k + 1) (range_with_len (k + 1) n) f ≡ f ∷ [])
        → (if t then k ∷ [] else procedure_from (suc k) (range_with_len (k + 1) n) f) ≡ f ∷ []
    by_test true e more = let same : k ≡ f = grind (arith, nat_tests) in ap (λ x. x ∷ []) same
    by_test false e more =
        let on : k + 1 ≡ suc k = omega arith in
        subst (λ j. procedure_from j (range_with_len (k + 1) n) f ≡ f ∷ []) on
        (more (grind (arith, nat_tests)))

numbers_above : (k n f : ℕ) → k + n ≤ f → procedure_from k (range_with_len k n) f ≡ []
numbers_above k zero f above = refl
numbers_above k (suc n) f above = by_test (nat_eq f k) refl
    (numbers_above (k + 1) n f (omega arith))
  where
    by_test : (t : Bool) → nat_eq f k ≡ t → procedure_from (k + 1) (range_with_len (k + 1) n) f ≡ []
        → (if t then k ∷ [] else procedure_from (suc k) (range_with_len (k + 1) n) f) ≡ []
    by_test true e more = let same : f ≡ k = grind (arith, nat_tests) in absurd (omega arith)
    by_test false e more =
        let on : k + 1 ≡ suc k = omega arith in
        subst (λ j. procedure_from j (range_with_len (k + 1) n) f ≡ []) on more

small_at : (qs : List Procedure) (f : ℕ) (q : Procedure) → slice_get qs f ≡ Some q → AllSmall qs
    → Small q.body
small_at [] f q e h = absurd (cc)
small_at (r ∷ qs) zero q e h = let same : r ≡ q = cc in subst (λ p. Small p.body) same h.0
small_at (r ∷ qs) (suc f) q e h = small_at qs f q e h.1

-- ---- where procedures stand

module _ (l : Program) (a : Assignment) (cells stack : ℕ) (items : List Item) where
  procedures_stand : (qs : List Procedure) (g n m p : ℕ) (piece : List Item)
      → EmitsProcedures l a cells stack g qs n m piece → Stands items p piece → first_label l ≤ n
      → (f : ℕ) (q : Procedure) → slice_get qs f ≡ Some q → StandsAt l a cells stack items (g + f) q
  procedures_stand [] g n m p piece h at above f q e = absurd (cc)
  procedures_stand (r ∷ qs) g n m p piece h at above zero q e =
      let same : r ≡ q = cc in
      let here : g ≡ g + 0 = omega arith in
      subst (λ (o : Procedure). StandsAt l a cells stack items (g + 0) o) same
      (subst (λ k. StandsAt l a cells stack items k r) here (record {
        place = p;
        first = n;
        last = h.0;
        piece = h.1;
        emits = h.3;
        stands = front items p h.1 h.2 (subst (Stands items p) h.5 at);
        above = above;
      }))
  procedures_stand (r ∷ qs) g n m p piece h at above (suc f) q e =
      let on : suc g + f ≡ g + suc f = omega arith in
      let up = emits_up l a cells stack (words_at a g) (slots_of (place_of a) (variables r))
      h.3.framed r.body (result_spots 10 r.results) Returns n h.0 h.3.block h.3.body in
      subst (λ k. StandsAt l a cells stack items k q) on
      (procedures_stand qs (suc g) h.0 m (p + length h.1) h.2 h.4
      (back items p h.1 h.2 (subst (Stands items p) h.5 at)) (omega arith) f q e)

module _ (l : Program) (a : Assignment) (cells stack : ℕ) (items : List Item)
    (fine : Selectable l a cells stack) (s : IsSelected l a cells stack items) where
  abbrev start_piece : List Item
  start_piece = start_items stack_end heap_start (heap_end l cells) (step l) (heap_full l) l.globals
      ++ first_call l a (stack_end - stack)

  abbrev stops_piece : List Item
  stops_piece = stop_items (no_alternative l)

  start_stands : Stands items 0 start_piece
  start_stands = front items 0 start_piece (s.procedures ++ stops_piece)
      (subst (λ is. Stands is 0 (start_piece ++ (s.procedures ++ stops_piece))) (sym s.is)
      (stands_behind [] (start_piece ++ (s.procedures ++ stops_piece))))

  behind_start : Stands items (length start_piece) (s.procedures ++ stops_piece)
  behind_start = subst (λ is. Stands is (length start_piece) (s.procedures ++ stops_piece))
      (sym s.is) (stands_behind start_piece (s.procedures ++ stops_piece))

  pub procedure_stands : (f : ℕ) (q : Procedure) → slice_get l.procs f ≡ Some q
      → StandsAt l a cells stack items f q
  procedure_stands f q is =
      let none : 0 + f ≡ f = omega arith in
      subst (λ k. StandsAt l a cells stack items k q) none
      (procedures_stand l a cells stack items l.procs 0 (first_label l) s.last (length start_piece)
      s.procedures s.each
      (front items (length start_piece) s.procedures stops_piece behind_start) (omega arith) f q is)

  all_items : length items ≡ length start_piece + length s.procedures + 12
  all_items =
      let whole = ap length s.is in
      let one = length-append start_piece (s.procedures ++ stops_piece) in
      let two = length-append s.procedures stops_piece in
      omega arith

  pub selected_setting : (lay : Layout) → AddressesRise items lay → BelowHeap lay
      → Setting l a cells stack lay items (begins (length l.procs))
  selected_setting lay rises below = record {
    width_some = fine.width.0;
    width_small = fine.width.1;
    cells_some = fine.few_cells.0;
    cells_few = fine.few_cells.1;
    stack_few = fine.stack_bytes.1;
    stack_some = fine.stack_bytes.0;
    stack_four = fine.stack_bytes.2;
    rises = rises;
    below = below;
    once = selected_found l a cells stack items fine s;
    procedures = procedure_stands;
    fine = λ f q is.
        procedure_fine l a fine.fits fine.formed fine.width.1 f q is
        (small_at l.procs f q is fine.formed.literals.procedures)
        (fine.few_params f q is) (fine.few_results f q is) fine.size (fine.frames f);
    begins_procedures = λ f lt. numbers_here 0 (length l.procs) f (omega arith) (omega arith);
    begins_no_other = λ n le. numbers_above 0 (length l.procs) n (omega arith);
    stops_at = length start_piece + length s.procedures;
    stops = back items (length start_piece) s.procedures stops_piece behind_start;
    last = all_items;
  }

  selected_started : (o : Option Procedure) → slice_get l.procs l.start ≡ o
      → IsStartWellFormed l o l.argument → Started l a cells stack items
  selected_started None e h = absurd h
  selected_started (Some q) e h = record {
    start = q;
    is_start = e;
    stands = subst
        (λ (o : Option Procedure). Stands items 0
        (start_items stack_end heap_start (heap_end l cells) (step l) (heap_full l) l.globals
        ++ (plain
        (number_moves (params_of a o) (sources l a (start_argument l.argument))
        ++ base_at_start (is_lasting a) (stack_end - stack)) ++ Jump 1 l.start ∷ exit_with 0)))
        e start_stands;
    argument = λ i is. global l.argument i is h;
    tags = fine.formed.literals.tags;
    few = fine.globals;
  }
    where
      global : (o : Option ℕ) (i : ℕ) → o ≡ Some i → IsStartWellFormed l (Some q) o
          → i < length l.globals
      global None i is h = absurd (cc)
      global (Some k) i is h = let same : k ≡ i = cc in subst (λ n. n < length l.globals) same h.1

  pub selected_start : Started l a cells stack items
  selected_start = selected_started (slice_get l.procs l.start) refl fine.formed.starts
