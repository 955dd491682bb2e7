-- Moves that bring words to spots.
use Rattle.std.proofs.Common.{◌≡◌, ℕ, suc, ◌+◌, ◌-◌, ◌<◌, ◌≤◌, true, false, List, [], ◌∷◌, ◌++◌, ◌*◌, map, length, get_or, drop, zero, Some, append_assoc, append-nil, ◌⊎◌, refl, sym, ap, ◌∙◌, subst, arith, inl, inr}
use Rattle.std.proofs.lemmas.List.{length-map}
use Rattle.std.specs.Prelude.{◌||◌, slice_get}
use Rattle.seq.proofs.Truth.{two_ways}
use Rattle.seq.proofs.Lists.{is_empty, drop_past}
use Rattle.parallel_move.specs.declared.Spot.{Spot}
use Rattle.parallel_move.specs.declared.Spot.TheVariants.{Reg}
use Rattle.parallel_move.specs.declared.Move.{Move}
use Rattle.parallel_move.specs.Moves.{same, is_target, DistinctTargets, NoScratch, MovesInParallel, ends, UsesOnlyMoveSpots, AllMoveEnds}
use Rattle.low_code.specs.declared.program.Operand.{Operand}
use Rattle.low_code.specs.declared.program.Operand.TheVariants.{Var, Num, Cell}
use Rattle.low_code.specs.declared.program.LowProc.{LowProc}
use Rattle.low_code.specs.declared.program.Low.{Low}
use Rattle.low_code.specs.Tree.{Program, procedure_of, program_of}
use Rattle.register_alloc.specs.Assignment.{Assignment, place_of}
use Rattle.rv32_items.specs.declared.Item.{Item}
use Rattle.rv32_select.specs.declared.source.Source.{Source}
use Rattle.rv32_select.specs.declared.source.Source.TheVariants.{At, Number}
use Rattle.rv32_select.specs.Emit.{plain, moves_code, spot_moves, number_moves, result_spots, argument_spots}
use Rattle.rv32_select.specs.IsSelected.{moves_between, sources, argument_spots_of, params_of}
use Rattle.rv32_select.specs.Emitting.{EmitsMoves, EmitsParallelMoves}
use Rattle.rv32_select.specs.Ranges.{in_range, AllInRange, AreSpots, AreSources, is_spot_in, AllSpotsDiffer, AreTargets}
use Rattle.rv32_select.specs.Writable.{Writable, OperandsPlaced, HavePlaces, TargetsPlaced}
use Rattle.rv32_select.proofs.Plain.{plain_append}

-- a spot that isn't in a list is no target of moves to it
not_sent : (s : Spot) (to : List Spot) (from : List Source) → is_spot_in s to ≡ false
    → is_target s (spot_moves to from) ≡ false
not_sent s [] from h = refl
not_sent s (t ∷ to) [] h = refl
not_sent s (t ∷ to) (At u ∷ from) h = elim (two_ways (same s t)) [
  | inl e ↦ let no : true ≡ false = ap (λ b. b || is_spot_in s to) (sym e) ∙ h in cc
  | inr e ↦ ap (λ b. b || is_target s (spot_moves to from)) e ∙ not_sent s to from
      (ap (λ b. b || is_spot_in s to) (sym e) ∙ h)
]
not_sent s (t ∷ to) (Number n ∷ from) h = elim (two_ways (same s t)) [
  | inl e ↦ let no : true ≡ false = ap (λ b. b || is_spot_in s to) (sym e) ∙ h in cc
  | inr e ↦ not_sent s to from (ap (λ b. b || is_spot_in s to) (sym e) ∙ h)
]

sent_apart : (to : List Spot) (from : List Source) → AllSpotsDiffer to
    → DistinctTargets (spot_moves to from)
sent_apart [] from d = tt
sent_apart (t ∷ to) [] d = tt
sent_apart (t ∷ to) (At u ∷ from) d = (not_sent t to from d.0, sent_apart to from d.1)
sent_apart (t ∷ to) (Number n ∷ from) d = sent_apart to from d.1

sent_clean : (to : List Spot) (from : List Source) → AreSpots to → AreSources from
    → NoScratch (spot_moves to from)
sent_clean [] from h k = tt
sent_clean (t ∷ to) [] h k = tt
sent_clean (t ∷ to) (At u ∷ from) h k = (h.0.1, k.0.1, sent_clean to from h.1 k.1)
sent_clean (t ∷ to) (Number n ∷ from) h k = sent_clean to from h.1 k.1

sent_in_range : (to : List Spot) (from : List Source) → AreSpots to → AreSources from
    → AllMoveEnds in_range (spot_moves to from)
sent_in_range [] from h k = tt
sent_in_range (t ∷ to) [] h k = tt
sent_in_range (t ∷ to) (At u ∷ from) h k = (h.0.0, k.0.0, sent_in_range to from h.1 k.1)
sent_in_range (t ∷ to) (Number n ∷ from) h k = sent_in_range to from h.1 k.1

-- the same between spots
not_between : (s : Spot) (to from : List Spot) → is_spot_in s to ≡ false
    → is_target s (moves_between to from) ≡ false
not_between s [] from h = refl
not_between s (t ∷ to) [] h = refl
not_between s (t ∷ to) (u ∷ from) h = elim (two_ways (same s t)) [
  | inl e ↦ let no : true ≡ false = ap (λ b. b || is_spot_in s to) (sym e) ∙ h in cc
  | inr e ↦ ap (λ b. b || is_target s (moves_between to from)) e ∙ not_between s to from
      (ap (λ b. b || is_spot_in s to) (sym e) ∙ h)
]

between_apart : (to from : List Spot) → AllSpotsDiffer to → DistinctTargets (moves_between to from)
between_apart [] from d = tt
between_apart (t ∷ to) [] d = tt
between_apart (t ∷ to) (u ∷ from) d = (not_between t to from d.0, between_apart to from d.1)

between_clean : (to from : List Spot) → AreSpots to → AreSpots from
    → NoScratch (moves_between to from)
between_clean [] from h k = tt
between_clean (t ∷ to) [] h k = tt
between_clean (t ∷ to) (u ∷ from) h k = (h.0.1, k.0.1, between_clean to from h.1 k.1)

between_in_range : (to from : List Spot) → AreSpots to → AreSpots from
    → AllMoveEnds in_range (moves_between to from)
between_in_range [] from h k = tt
between_in_range (t ∷ to) [] h k = tt
between_in_range (t ∷ to) (u ∷ from) h k = (h.0.0, k.0.0, between_in_range to from h.1 k.1)

-- moves that were made from these lists can be done at once
pub sent_targets : (moves : List Move) (to : List Spot) (from : List Source)
    → moves ≡ spot_moves to from → AreTargets to → DistinctTargets moves
sent_targets moves to from e h = rw e (sent_apart to from h.different)

pub sent_no_scratch : (moves : List Move) (to : List Spot) (from : List Source)
    → moves ≡ spot_moves to from → AreTargets to → AreSources from → NoScratch moves
sent_no_scratch moves to from e h k = rw e (sent_clean to from h.spots k)

pub sent_ranges : (moves : List Move) (to : List Spot) (from : List Source)
    → moves ≡ spot_moves to from → AreTargets to → AreSources from → AllMoveEnds in_range moves
sent_ranges moves to from e h k = rw e (sent_in_range to from h.spots k)

pub between_targets : (moves : List Move) (to from : List Spot) → moves ≡ moves_between to from
    → AreTargets to → DistinctTargets moves
between_targets moves to from e h = rw e (between_apart to from h.different)

pub between_no_scratch : (moves : List Move) (to from : List Spot) → moves ≡ moves_between to from
    → AreTargets to → AreSpots from → NoScratch moves
between_no_scratch moves to from e h k = rw e (between_clean to from h.spots k)

pub between_ranges : (moves : List Move) (to from : List Spot) → moves ≡ moves_between to from
    → AreTargets to → AreSpots from → AllMoveEnds in_range moves
between_ranges moves to from e h k = rw e (between_in_range to from h.spots k)

pub spots_in_range : (ss : List Spot) → AreSpots ss → AllInRange ss
spots_in_range [] h = tt
spots_in_range (s ∷ ss) h = (h.0.0, spots_in_range ss h.1)

pub targets_in_range : (ss : List Spot) → AreTargets ss → AllInRange ss
targets_in_range ss h = spots_in_range ss h.spots

-- what the steps do
pub steps_in_range : (steps moves : List Move) → UsesOnlyMoveSpots steps moves
    → AllMoveEnds in_range moves → AllMoveEnds in_range steps
steps_in_range steps moves h k = h.stays in_range refl k

pub moved_by : (steps moves : List Move) (old new : List Item) → MovesInParallel steps moves
    → ends steps ≤ 2 * length moves → UsesOnlyMoveSpots steps moves → new ≡ old
    ++ plain (moves_code steps) → EmitsMoves moves old new
moved_by steps moves old new once few among is = record
    { steps = steps; order = record { once = once; few = few; among = among }; is = is }

pub sent_by : (moves : List Move) (to : List Spot) (from : List Source) (old mid new : List Item)
    → moves ≡ spot_moves to from → EmitsMoves moves old mid → new ≡ mid
    ++ plain (number_moves to from) → EmitsParallelMoves to from old new
sent_by moves to from old mid new e m is =
    let n = number_moves to from in
    record {
      steps = m.steps;
      order = rw (sym e) m.order;
      is = is ∙ ap (λ x. x ++ plain n) m.is ∙ append_assoc old (plain (moves_code m.steps))
          (plain n) ∙ ap (λ x. old ++ x) (sym (plain_append (moves_code m.steps) n));
    }

pub between_by : (moves : List Move) (to from : List Spot) (old new : List Item)
    → moves ≡ moves_between to from → EmitsMoves moves old new
    → EmitsMoves (moves_between to from) old new
between_by moves to from old new e m = rw (sym e) m

-- where no spot or no word is left

none_sent : (to : List Spot) (from : List Source) → (length to ≡ 0) ⊎ (length from ≡ 0)
    → spot_moves to from ≡ []
none_sent to from (inl h) = ap (λ x. spot_moves x from) (is_empty to h)
none_sent to from (inr h) = ap (λ x. spot_moves to x) (is_empty from h) ∙ none to
  where
    none : (to : List Spot) → spot_moves to [] ≡ []
    none [] = refl
    none (t ∷ to) = refl

pub all_sent : (made whole : List Move) (to : List Spot) (from : List Source) → (length to ≡ 0)
    ⊎ (length from ≡ 0) → made ++ spot_moves to from ≡ whole → made ≡ whole
all_sent made whole to from h e = sym (append-nil made) ∙ ap (λ x. made ++ x)
    (sym (none_sent to from h)) ∙ e

no_numbers : (to : List Spot) (from : List Source) → (length to ≡ 0) ⊎ (length from ≡ 0)
    → number_moves to from ≡ []
no_numbers to from (inl h) = ap (λ x. number_moves x from) (is_empty to h)
no_numbers to from (inr h) = ap (λ x. number_moves to x) (is_empty from h) ∙ none to
  where
    none : (to : List Spot) → number_moves to [] ≡ []
    none [] = refl
    none (t ∷ to) = refl

pub all_numbers : (made whole : List Item) (to : List Spot) (from : List Source) → (length to ≡ 0)
    ⊎ (length from ≡ 0) → made ++ plain (number_moves to from) ≡ whole → made ≡ whole
all_numbers made whole to from h e = sym (append-nil made) ∙ ap (λ x. made ++ plain x)
    (sym (no_numbers to from h)) ∙ e

none_between : (to from : List Spot) → (length to ≡ 0) ⊎ (length from ≡ 0)
    → moves_between to from ≡ []
none_between to from (inl h) = ap (λ x. moves_between x from) (is_empty to h)
none_between to from (inr h) = ap (λ x. moves_between to x) (is_empty from h) ∙ none to
  where
    none : (to : List Spot) → moves_between to [] ≡ []
    none [] = refl
    none (t ∷ to) = refl

pub all_between : (made whole : List Move) (to from : List Spot) → (length to ≡ 0)
    ⊎ (length from ≡ 0) → made ++ moves_between to from ≡ whole → made ≡ whole
all_between made whole to from h e = sym (append-nil made) ∙ ap (λ x. made ++ x)
    (sym (none_between to from h)) ∙ e

module _ (l : Program) (a : Assignment) where
  pub are_sources : (bs : List Operand) (made : List Source) → made ≡ sources l a bs
      → OperandsPlaced l a bs → AreSources made
  are_sources bs made e h = rw e (go bs h)
    where
      go : (bs : List Operand) → OperandsPlaced l a bs → AreSources (sources l a bs)
      go [] h = tt
      go (Var x ∷ bs) h = (h.0.1, go bs h.1)
      go (Num k ∷ bs) h = (tt, go bs h.1)
      go (Cell i ∷ bs) h = (tt, go bs h.1)

  pub are_spots : (xs : List ℕ) (made : List Spot) → made ≡ map (place_of a) xs → HavePlaces l a xs
      → AreSpots made
  are_spots xs made e h = rw e (go xs h)
    where
      go : (xs : List ℕ) → HavePlaces l a xs → AreSpots (map (place_of a) xs)
      go [] h = tt
      go (x ∷ xs) h = (h.0.1, go xs h.1)

pub targets_of : (l : Program) (a : Assignment) (xs : List ℕ) (made spots : List Spot)
    → spots ≡ made → (made ≡ map (place_of a) xs) × AreSpots made → TargetsPlaced l a xs
    → AreTargets spots
targets_of l a xs made spots e h t = record {
  spots = subst AreSpots (sym e) h.1;
  different = subst AllSpotsDiffer (sym (e ∙ h.0)) t.1;
}

pub results_pushed : (made pushed : List Spot) (r i n : ℕ) → i < n → made
    ++ result_spots (r + i) (n - i) ≡ result_spots r n → pushed ≡ made ++ Reg (r + i) ∷ []
    → pushed ++ result_spots (r + (i + 1)) (n - (i + 1)) ≡ result_spots r n
results_pushed made pushed r i n lt e p =
    let one : n - i ≡ suc (n - (i + 1)) = omega arith in
    let next : suc (r + i) ≡ r + (i + 1) = omega arith in
    let rest = result_spots (r + (i + 1)) (n - (i + 1)) in
    let more : result_spots (r + i) (n - i) ≡ Reg (r + i) ∷ rest
    = ap (result_spots (r + i)) one ∙ ap (λ k. Reg (r + i) ∷ result_spots k (n - (i + 1))) next
    in
    ap (λ x. x ++ rest) p ∙ append_assoc made (Reg (r + i) ∷ []) rest ∙ ap (λ x. made ++ x)
    (sym more) ∙ e

-- a list that was made item by item

pub all_made : {A B : Type 0} (f : A → B) (made : List B) (xs : List A) (i : ℕ) → made
    ++ map f (drop i xs) ≡ map f xs → length xs ≤ i → made ≡ map f xs
all_made f made xs i e le = sym (append-nil made) ∙ ap (λ x. made ++ map f x)
    (sym (drop_past xs i le)) ∙ e

-- the procedure at a number
pub procedure_at : (procs : List LowProc) (f : ℕ) (d : LowProc) → f < length procs
    → slice_get (map procedure_of procs) f ≡ Some (procedure_of (get_or procs f d))
procedure_at [] f d lt = absurd (omega arith)
procedure_at (q ∷ procs) zero d lt = refl
procedure_at (q ∷ procs) (suc f) d lt = procedure_at procs f d (omega arith)

pub params_placed : (low : Low) (a : Assignment) (procs : List LowProc) (f : ℕ) (q : LowProc)
    (xs : List ℕ) → Writable (program_of low) a × (f < length low.procs) → procs ≡ low.procs
    → xs ≡ (get_or procs f q).params → HavePlaces (program_of low) a xs
params_placed low a procs f q xs h e p =
    let there : slice_get (program_of low).procs f ≡ Some (procedure_of (get_or low.procs f q))
    = procedure_at low.procs f q h.1 in
    let is : xs ≡ (get_or low.procs f q).params = p ∙ ap (λ ps. (get_or ps f q).params) e in
    rw is ((h.0.procedures f (procedure_of (get_or low.procs f q)) there).params)

pub few_params : (low : Low) (a : Assignment) (procs : List LowProc) (f : ℕ) (q : LowProc)
    (xs : List ℕ) (spots : List Spot) → Writable (program_of low) a × (f < length low.procs)
    → procs ≡ low.procs → xs ≡ (get_or procs f q).params → spots ≡ map (place_of a) xs
    → length spots ≤ 16
few_params low a procs f q xs spots h e p s =
    let there : slice_get (program_of low).procs f ≡ Some (procedure_of (get_or low.procs f q))
    = procedure_at low.procs f q h.1 in
    let is : xs ≡ (get_or low.procs f q).params = p ∙ ap (λ ps. (get_or ps f q).params) e in
    let size : length spots ≡ length (get_or low.procs f q).params
    = ap length s ∙ length-map xs (place_of a) ∙ ap length is in
    omega (arith, size, (h.0.procedures f (procedure_of (get_or low.procs f q)) there).few_params)

pub arguments_are : (low : Low) (a : Assignment) (procs : List LowProc) (f : ℕ) (q : LowProc)
    (xs : List ℕ) (places spots : List Spot) → Writable (program_of low) a × (f < length low.procs)
    → procs ≡ low.procs → xs ≡ (get_or procs f q).params → places ≡ map (place_of a) xs
    → spots ≡ argument_spots 0 places
    → (spots ≡ argument_spots_of (program_of low) a f) × AreTargets spots
arguments_are low a procs f q xs places spots h e p s t =
    let there : slice_get (program_of low).procs f ≡ Some (procedure_of (get_or low.procs f q))
    = procedure_at low.procs f q h.1 in
    let is : xs ≡ (get_or low.procs f q).params = p ∙ ap (λ ps. (get_or ps f q).params) e in
    let all : spots ≡ argument_spots 0 (map (place_of a) (get_or low.procs f q).params)
    = t ∙ ap (argument_spots 0) (s ∙ ap (map (place_of a)) is) in (
      all ∙ ap (params_of a) (sym there),
      rw all
          (h.0.procedures f (procedure_of (get_or low.procs f q)) there).arguments,
    )

pub ruleset sending = (
  are_sources,
  are_spots,
  sent_targets,
  sent_no_scratch,
  sent_ranges,
  between_targets,
  between_no_scratch,
  between_ranges,
  targets_in_range,
  steps_in_range,
  moved_by,
  sent_by,
  between_by,
)
