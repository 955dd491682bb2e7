-- The spots of a procedure's results, and what a call takes from them.
use Rattle.std.proofs.Common.{◌≡◌, ℕ, suc, ◌+◌, ◌*◌, ◌<◌, ◌≤◌, List, [], ◌∷◌, ◌++◌, map, length, refl, sym, ap, ◌∙◌, arith, zero, get_or, subst, Some}
use Rattle.std.specs.Prelude.{slice_get, nat_eq, ◌||◌, false}
use Rattle.std.proofs.lemmas.List.{length-map}
use Rattle.std.proofs.lemmas.Bool.Decides.{nat_tests}
use Rattle.std.proofs.lemmas.Grind.{common_steps}
use Rattle.parallel_move.specs.declared.Spot.{Spot}
use Rattle.parallel_move.specs.declared.Spot.TheVariants.{Reg}
use Rattle.low_code.specs.declared.program.Operand.{Operand}
use Rattle.low_code.specs.declared.program.LowProc.{LowProc}
use Rattle.low_code.specs.declared.program.Low.{Low}
use Rattle.low_code.specs.Tree.{Program, procedure_of, program_of}
use Rattle.register_alloc.specs.Assignment.{Assignment, place_of, saves_at}
use Rattle.rv32_items.specs.declared.Item.{Item}
use Rattle.rv32_items.specs.declared.Item.TheVariants.{Jump}
use Rattle.rv32_select.specs.Emit.{plain, moves_code, number_moves, save_moves, restore_moves, result_spots}
use Rattle.rv32_select.specs.IsSelected.{sources, argument_spots_of, result_spots_of, results_of, moves_between}
use Rattle.rv32_select.specs.Ranges.{AreSpots, AllInRange, is_spot_in, AllSpotsDiffer, AreTargets}
use Rattle.rv32_select.specs.Writable.{Writable, ProcedurePlaced}
use Rattle.rv32_select.specs.Emitting.{EmitsMoves, EmitsParallelMoves, Called}
use Rattle.rv32_select.proofs.Plain.{plain_append}
use Rattle.rv32_select.proofs.Sending.{spots_in_range, procedure_at}

-- what the pieces of a call ask, and what they are together
pub take_asks : (l : Program) (a : Assignment) (xs : List ℕ) (made spots : List Spot) → Writable l a
    → spots ≡ made → (made ≡ map (place_of a) xs) × AreSpots made
    → 4 * l.width * length xs < 4294967296 → (4 * l.width < 2048)
    × (4 * l.width * length spots < 4294967296) × AllInRange spots
take_asks l a xs made spots w e s lt =
    let size : length spots ≡ length xs = ap length (e ∙ s.0) ∙ length-map xs (place_of a) in (
      omega (arith, w.width.1),
      subst (λ n. 4 * l.width * n < 4294967296) (sym size) lt,
      subst AllInRange (sym e) (spots_in_range made s.1),
    )

pub result_at : (low : Low) (procs : List LowProc) (f : ℕ) (q : LowProc) → f < length low.procs
    → procs ≡ low.procs → q ≡ get_or procs f q → slice_get (program_of low).procs f ≡ Some
    (procedure_of q)
result_at low procs f q lt e is = procedure_at low.procs f q lt ∙ ap
    (λ ps. Some (procedure_of (get_or ps f q))) (sym e) ∙ ap (λ p. Some (procedure_of p)) (sym is)

-- a procedure whose items can be written, by its number
pub placed_at : (low : Low) (a : Assignment) (procs : List LowProc) (f : ℕ) (q : LowProc)
    → Writable (program_of low) a → f < length low.procs → procs ≡ low.procs → q ≡ get_or procs f q
    → ProcedurePlaced (program_of low) a (procedure_of q)
placed_at low a procs f q w lt e is = w.procedures f (procedure_of q)
    (result_at low procs f q lt e is)

pub few_results : (low : Low) (a : Assignment) (procs : List LowProc) (f : ℕ) (q : LowProc)
    → Writable (program_of low) a → f < length low.procs → procs ≡ low.procs → q ≡ get_or procs f q
    → q.results ≤ 13
few_results low a procs f q w lt e is = (placed_at low a procs f q w lt e is).few_results

results_are : (r n : ℕ) → r + n ≤ 32 → AreSpots (result_spots r n)
results_are r zero h = tt
results_are r (suc n) h = (
  (let lt : r < 32 = omega arith in grind (arith, nat_tests), λ e. cc),
  results_are (suc r) n (omega arith),
)

before_results : (k r n : ℕ) → k < r → is_spot_in (Reg k) (result_spots r n) ≡ false
before_results k r zero lt = refl
before_results k r (suc n) lt =
    let no : nat_eq k r ≡ false = grind (arith, nat_tests) in
    ap (λ b. b || is_spot_in (Reg k) (result_spots (suc r) n)) no ∙ before_results k (suc r) n
    (omega arith)

results_differ : (r n : ℕ) → AllSpotsDiffer (result_spots r n)
results_differ r zero = tt
results_differ r (suc n) = (before_results r (suc r) n (omega arith), results_differ (suc r) n)

pub result_targets : (n : ℕ) (made spots : List Spot) → n ≤ 13 → spots ≡ made
    → made ≡ result_spots 10 n → AreTargets spots
result_targets n made spots few e is = subst AreTargets (sym (e ∙ is))
    (record { spots = results_are 10 n (omega (arith, few)); different = results_differ 10 n })

pub result_spots_are : (low : Low) (a : Assignment) (procs : List LowProc) (f : ℕ) (q : LowProc)
    (spots : List Spot) → Writable (program_of low) a → f < length low.procs → procs ≡ low.procs
    → q ≡ get_or procs f q → spots ≡ result_spots 10 q.results → AreSpots spots
result_spots_are low a procs f q spots w lt e is s = rw s
    (results_are 10 q.results
    (let few = few_results low a procs f q w lt e is in omega (arith, few)))

pub results_taken : (low : Low) (a : Assignment) (procs : List LowProc) (f : ℕ) (q : LowProc)
    (xs : List ℕ) (to from : List Spot) (old new : List Item) → f < length low.procs
    → procs ≡ low.procs → q ≡ get_or procs f q
    → (to ≡ map (place_of a) xs) × AreSpots to → from ≡ result_spots 10 q.results
    → EmitsMoves (moves_between to from) old new
    → EmitsMoves (moves_between (map (place_of a) xs) (result_spots_of (program_of low) f)) old new
results_taken low a procs f q xs to from old new lt e is t r m =
    let all : from ≡ result_spots_of (program_of low) f
    = r ∙ ap (λ p. result_spots 10 (results_of p)) (sym (result_at low procs f q lt e is)) in
    rw (sym t.0, sym all) m

pub called_by : (l : Program) (a : Assignment) (saved f site : ℕ) (as' : List Operand) (xs : List ℕ)
    (registers : List ℕ) (old c1 c2 c3 c4 new : List Item) → registers ≡ saves_at a site → c1 ≡ old
    ++ plain (moves_code (save_moves saved registers))
    → EmitsParallelMoves (argument_spots_of l a f) (sources l a as') c1 c2 → c3 ≡ c2
    ++ Jump 1 f ∷ [] → EmitsMoves (moves_between (map (place_of a) xs) (result_spots_of l f)) c3
    c4 → new ≡ c4 ++ plain (moves_code (restore_moves saved registers))
    → Called l a saved f site as' xs old new
called_by l a saved f site as' xs registers old c1 c2 c3 c4 new e one sent jump moved two =
    let saves = plain (moves_code (save_moves saved (saves_at a site))) in
    let words = plain
    (moves_code sent.steps ++ number_moves (argument_spots_of l a f) (sources l a as')) in
    let results = plain (moves_code moved.steps) in
    let restores = plain (moves_code (restore_moves saved (saves_at a site))) in
    let first : c3 ≡ ((old ++ saves) ++ words) ++ Jump 1 f ∷ []
    = jump ∙ ap (λ x. x ++ Jump 1 f ∷ [])
    (sent.is ∙ ap (λ x. x ++ words)
    (one ∙ ap (λ rs. old ++ plain (moves_code (save_moves saved rs))) e)) in
    let whole : new ≡ ((((old ++ saves) ++ words) ++ Jump 1 f ∷ []) ++ results) ++ restores
    = two ∙ ap (λ rs. c4 ++ plain (moves_code (restore_moves saved rs))) e ∙ ap
    (λ x. x ++ restores) (moved.is ∙ ap (λ x. x ++ results) first) in
    let left : plain
    (moves_code (save_moves saved (saves_at a site))
    ++ (moves_code sent.steps ++ number_moves (argument_spots_of l a f) (sources l a as'))) ≡
    saves ++ words = plain_append _ _ in
    let right : plain (moves_code moved.steps ++ moves_code (restore_moves saved (saves_at a site)))
    ≡ results ++ restores = plain_append _ _ in
    let shape : ((((old ++ saves) ++ words) ++ Jump 1 f ∷ []) ++ results) ++ restores ≡ old
    ++ ((saves ++ words) ++ Jump 1 f ∷ (results ++ restores)) = grind (arith, common_steps) in
    record {
      arguments = sent.steps;
      results = moved.steps;
      order = sent.order;
      results_order = moved.order;
      is = whole ∙ shape ∙ (λ i. old ++ (sym left i ++ Jump 1 f ∷ sym right i));
    }
