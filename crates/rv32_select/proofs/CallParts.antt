-- Calls: registers are saved, arguments go to their spots, the procedure runs, results go to their
-- variables, and registers come
-- back.
use Rattle.std.proofs.Common.{◌≡◌, ◌≢◌, ℕ, zero, suc, ◌+◌, ◌<◌, ◌≤◌, List, [], ◌∷◌, ◌++◌, map, length, Bool, true, false, Some, refl, sym, ap, ◌∙◌, subst, arith}
use Rattle.std.specs.Prelude.{slice_get}
use Rattle.std.proofs.lemmas.Grind.{common_steps}
use Rattle.rv32_isa.specs.declared.instr.Instr.{Instr}
use Rattle.parallel_move.specs.declared.Spot.{Spot}
use Rattle.parallel_move.specs.declared.Spot.TheVariants.{Reg, Slot, Scratch}
use Rattle.parallel_move.specs.declared.Move.{Move}
use Rattle.parallel_move.specs.Moves.{after_moves_in_order}
use Rattle.low_code.specs.Tree.{Program}
use Rattle.low_code.specs.Values.{Word}
use Rattle.register_alloc.specs.Fits.{Ascending}
use Rattle.register_alloc.specs.Assignment.{Assignment, place_of}
use Rattle.rv32_items.specs.Course.{Layout}
use Rattle.rv32_select.specs.declared.source.Source.TheVariants.{At}
use Rattle.rv32_select.specs.Emit.{moves_code, number_moves, result_spots, save_moves, restore_moves}
use Rattle.rv32_select.specs.IsSelected.{IsOrder, moves_between}
use Rattle.rv32_select.proofs.Straight.{Data, Good, Does, does_on}
use Rattle.rv32_select.proofs.FrameViews.{spots, InFrame, Kept, kept_on, in_frame, Makes, moves_made}
use Rattle.rv32_select.proofs.OperandsRead.{read}
use Rattle.rv32_select.proofs.Gathering.{AllReadable, gathered, between_are, no_numbers}
use Rattle.rv32_select.proofs.SavedRegisters.{save_keeps_register, save_keeps_slot, restore_keeps_slot, restore_keeps_register, saved_word, restored, index_inside, saves_ok, restores_ok}
use Rattle.rv32_select.proofs.Relation.{bases, regs_of, word_of, AllHold}
use Rattle.rv32_select.proofs.PlaceFacts.{NotAmong, AllApart, IsOwn, AllOwn, AllFree}
use Rattle.rv32_select.proofs.BlockFacts.{own_place, own_places}
use Rattle.rv32_select.proofs.BlockEnds.{EachIs, all_hold}
use Rattle.seq.specs.Lists.{is_among}

nothing_behind : (xs : List Instr) → xs ++ [] ≡ xs
nothing_behind xs = grind (arith, common_steps)

pub slot_not_free : (l : Program) (a : Assignment) (g k : ℕ) (ss : List Spot) → AllFree l a g ss
    → NotAmong (Slot k) ss
slot_not_free l a g k [] h = tt
slot_not_free l a g k (s ∷ ss) h = (by_spot s h.0, slot_not_free l a g k ss h.1)
  where
    by_spot : (s : Spot) → IsOwn l a g 0 s → Slot k ≢ s
    by_spot (Reg r) o e = absurd (cc)
    by_spot (Slot i) o e = absurd (omega arith)
    by_spot Scratch o e = absurd o

-- a saved slot is none of the places of variables
save_not_own : (l : Program) (a : Assignment) (f saved k : ℕ) (ss : List Spot) → saved ≤ k
    → AllOwn l a f saved ss → NotAmong (Slot k) ss
save_not_own l a f saved k [] le h = tt
save_not_own l a f saved k (s ∷ ss) le h = (by_spot s h.0, save_not_own l a f saved k ss le h.1)
  where
    by_spot : (s : Spot) → IsOwn l a f saved s → Slot k ≢ s
    by_spot (Reg r) o e = absurd (cc)
    by_spot (Slot i) o e = let same : k ≡ i = cc in absurd (omega arith)
    by_spot Scratch o e = absurd o

free_readable : (l : Program) (a : Assignment) (lay : Layout) (stack j slots g : ℕ) (ss : List Spot)
    → AllFree l a g ss → AllReadable lay.code (bases stack) j slots (map At ss)
free_readable l a lay stack j slots g [] h = tt
free_readable l a lay stack j slots g (s ∷ ss) h = (
  own_place l a lay stack g j slots 0 s (omega arith) h.0,
  free_readable l a lay stack j slots g ss h.1,
)

free_each : (l : Program) (a : Assignment) (lay : Layout) (stack j slots g : ℕ) (ss : List Spot)
    (vs : List Word) (d : Data) → AllFree l a g ss → AllHold l.width ss vs (regs_of d)
    → EachIs l.width (read lay.code (bases stack) j slots d) (map At ss) vs
free_each l a lay stack j slots g [] vs d o h = tt
free_each l a lay stack j slots g (s ∷ ss) [] d o h = tt
free_each l a lay stack j slots g (Reg r ∷ ss) (v ∷ vs) d o h
    = (h.0, free_each l a lay stack j slots g ss vs d o.1 h.1)
free_each l a lay stack j slots g (Slot k ∷ ss) (v ∷ vs) d o h = let none = o.0
    in absurd (omega arith)
free_each l a lay stack j slots g (Scratch ∷ ss) (v ∷ vs) d o h = absurd o.0

map_many : (ss : List Spot) → length (map At ss) ≡ length ss
map_many [] = refl
map_many (s ∷ ss) = ap suc (map_many ss)

results_many : (r n : ℕ) → length (result_spots r n) ≡ n
results_many r zero = refl
results_many r (suc n) = ap suc (results_many (suc r) n)

module _ (l : Program) (a : Assignment) (lay : Layout) (stack f j slots saved : ℕ)
    (le : saved ≤ slots) (rs : List ℕ)
    (in_range : (r : ℕ) → is_among r rs ≡ true → (8 ≤ r) × (r < 32))
    (room_is : saved + length rs ≤ slots) where
  -- registers are saved
  pub record SavedAll (d : Data) : Type 0 where
    pub to : Data
    pub does : Does lay.code (bases stack) (moves_code (save_moves saved rs)) d to
    pub registers : (r : ℕ) → 8 ≤ r → r < 32 → to.regs r ≡ d.regs r
    pub low_slots : (k : ℕ) → k < saved → spots lay.code (bases stack) j slots to (Slot k) ≡ spots
        lay.code (bases stack) j slots d (Slot k)
    pub saves : (i r : ℕ) → slice_get rs i ≡ Some r
        → spots lay.code (bases stack) j slots to (Slot (saved + i)) ≡ d.regs r
    pub keeps : Kept lay.code (bases stack) j slots d to

  pub saved_all : (d : Data) → Good lay.code (bases stack) d
      → InFrame lay.code (bases stack) j slots d → SavedAll d
  saved_all d g fr =
      let m = moves_made lay.code (bases stack) j slots (save_moves saved rs) d g fr
      (saves_ok lay.code (bases stack) j slots saved rs in_range room_is) in
      let v = spots lay.code (bases stack) j slots d in
      record {
        to = m.to;
        does = m.does;
        registers = λ r lo hi. m.spots_are (Reg r) (lo, hi) ∙ save_keeps_register saved rs v r;
        low_slots = λ k lt. m.spots_are (Slot k) (omega arith) ∙ save_keeps_slot saved rs v k lt;
        saves = λ i r e. let inside = index_inside rs i r e
            in m.spots_are (Slot (saved + i)) (omega arith) ∙ saved_word saved rs v i r e;
        keeps = m.keeps;
      }

  pub own_same : (d : Data) (z : SavedAll d) (s : Spot) → IsOwn l a f saved s
      → spots lay.code (bases stack) j slots z.to s ≡ spots lay.code (bases stack) j slots d s
  own_same d z (Reg r) o = z.registers r o.0 o.1.0
  own_same d z (Slot k) o = z.low_slots k o
  own_same d z Scratch o = absurd o

  -- results go to their variables, and registers come back
  pub record Restored (xs : List ℕ) (steps : List Move) (vs : List Word) (d : Data) : Type 0 where
    pub to : Data
    pub does : Does lay.code (bases stack) (moves_code steps ++ moves_code (restore_moves saved rs))
        d to
    pub hold : AllHold l.width (map (place_of a) xs) vs (spots lay.code (bases stack) j slots to)
    pub registers : (r : ℕ) → 8 ≤ r → r < 32 → NotAmong (Reg r) (map (place_of a) xs)
        → is_among r rs ≡ false → to.regs r ≡ d.regs r
    pub low_slots : (k : ℕ) → k < saved → NotAmong (Slot k) (map (place_of a) xs)
        → spots lay.code (bases stack) j slots to (Slot k) ≡ spots lay.code (bases stack) j slots d
        (Slot k)
    pub saves : (i r : ℕ) → slice_get rs i ≡ Some r → is_among r rs ≡ true
        → to.regs r ≡ spots lay.code (bases stack) j slots d (Slot (saved + i))
    pub keeps : Kept lay.code (bases stack) j slots d to

  pub restored_all : (g count : ℕ) (xs : List ℕ) (steps : List Move) (vs : List Word) (d : Data)
      → Good lay.code (bases stack) d → InFrame lay.code (bases stack) j slots d → Ascending rs
      → IsOrder steps (moves_between (map (place_of a) xs) (result_spots 10 count))
      → AllFree l a g (result_spots 10 count)
      → AllOwn l a f saved (map (place_of a) xs) → AllApart (map (place_of a) xs)
      → ((r : ℕ) → is_among r rs ≡ true → NotAmong (Reg r) (map (place_of a) xs))
      → AllHold l.width (result_spots 10 count) vs (regs_of d) → length vs ≡ count
      → Restored xs steps vs d
  restored_all g count xs steps vs d good fr ascending order free own df apart hold many =
      let to_places = map (place_of a) xs in
      let from = result_spots 10 count in
      let ss = map At from in
      let order' = subst (λ x. IsOrder steps x) (between_are to_places from) order in
      let z = gathered lay.code (bases stack) j slots steps to_places ss d order' good fr
      (own_places l a lay stack f j slots saved to_places le own)
      (free_readable l a lay stack j slots g from free) df in
      let none : moves_code steps ++ number_moves to_places ss ≡ moves_code steps
      = ap (λ x. moves_code steps ++ x) (no_numbers to_places from) ∙ nothing_behind
      (moves_code steps) in
      let does1 = subst (λ x. Does lay.code (bases stack) x d z.data') none z.does in
      let frame1 = in_frame lay.code (bases stack) j slots fr z.keeps in
      let m = moves_made lay.code (bases stack) j slots (restore_moves saved rs) z.data' z.does.good
      frame1 (restores_ok lay.code (bases stack) j slots saved rs in_range room_is) in
      let v = spots lay.code (bases stack) j slots z.data' in
      let each = free_each l a lay stack j slots g from vs d free hold in
      let as_many : length (map At from) ≡ length vs
      = map_many from ∙ results_many 10 count ∙ sym many in
      let hold1 = all_hold l.width (read lay.code (bases stack) j slots d)
      (spots lay.code (bases stack) j slots z.data') to_places ss vs as_many z.each each in
      record {
        to = m.to;
        does = does_on lay.code (bases stack) does1 m.does;
        hold = still xs own apart vs z.data' m hold1;
        registers = λ r lo hi ne unsaved. m.spots_are (Reg r) (lo, hi) ∙ restore_keeps_register
            saved rs v r unsaved ∙ z.others (Reg r) ((lo, hi), λ e. absurd (cc)) ne;
        low_slots = λ k lt ne. m.spots_are (Slot k) (omega arith) ∙ restore_keeps_slot saved rs v k
            ∙ z.others (Slot k) ((omega arith), λ e. absurd (cc)) ne;
        saves = λ i r e among.
            let lohi = in_range r among in
            let inside = index_inside rs i r e in
            m.spots_are (Reg r) lohi ∙ restored saved rs v i r ascending e ∙ z.others
            (Slot (saved + i)) ((omega arith), λ e. absurd (cc))
            (save_not_own l a f saved (saved + i) to_places (omega arith) own);
        keeps = kept_on lay.code (bases stack) j slots z.keeps m.keeps;
      }
    where
      still : (xs : List ℕ) → AllOwn l a f saved (map (place_of a) xs)
          → ((r : ℕ) → is_among r rs ≡ true → NotAmong (Reg r) (map (place_of a) xs))
          → (vs : List Word) (e : Data)
          (m : Makes lay.code (bases stack) j slots (moves_code (restore_moves saved rs)) e
          (after_moves_in_order (restore_moves saved rs) (spots lay.code (bases stack) j slots e)))
          → AllHold l.width (map (place_of a) xs) vs (spots lay.code (bases stack) j slots e)
          → AllHold l.width (map (place_of a) xs) vs (spots lay.code (bases stack) j slots m.to)
      still [] o unsaved vs e m h = tt
      still (x ∷ xs) o unsaved [] e m h = tt
      still (x ∷ xs) o unsaved (w ∷ vs) e m h =
          (by_spot (place_of a x) o.0 unsaved h.0, still xs o.1 (λ r k. (unsaved r k).1) vs e m h.1)
        where
          by_spot : (s : Spot) → IsOwn l a f saved s
              → ((r : ℕ) → is_among r rs ≡ true → NotAmong (Reg r) (s ∷ map (place_of a) xs))
              → spots lay.code (bases stack) j slots e s ≡ word_of l.width w
              → spots lay.code (bases stack) j slots m.to s ≡ word_of l.width w
          by_spot (Reg r) own unsaved is = m.spots_are (Reg r) (own.0, own.1.0) ∙
              restore_keeps_register saved rs (spots lay.code (bases stack) j slots e) r
              (by_not r unsaved) ∙ is
            where
              by_not : (r : ℕ) →
                  ((q : ℕ) → is_among q rs ≡ true → NotAmong (Reg q) (Reg r ∷ map (place_of a) xs))
                  → is_among r rs ≡ false
              by_not r unsaved = go (is_among r rs) refl
                where
                  go : (b : Bool) → is_among r rs ≡ b → is_among r rs ≡ false
                  go false k = k
                  go true k = absurd ((unsaved r k).0 refl)
          by_spot (Slot k) own unsaved is = m.spots_are (Slot k) (omega arith) ∙ restore_keeps_slot
              saved rs (spots lay.code (bases stack) j slots e) k ∙ is
          by_spot Scratch own unsaved is = absurd own
