-- What the simulation asks of places, saved registers, labels and layout.
use Rattle.std.proofs.Common.{◌≡◌, ◌≢◌, ℕ, ◌+◌, ◌*◌, ◌%◌, ◌^◌, ◌<◌, ◌≤◌, List, [], ◌∷◌, ◌++◌, map, length, true, Some, ◌⊎◌}
use Rattle.std.specs.Prelude.{slice_get}
use Rattle.parallel_move.specs.declared.Spot.{Spot}
use Rattle.parallel_move.specs.declared.Spot.TheVariants.{Reg, Slot, Scratch}
use Rattle.low_code.specs.Tree.{Code, set, prim, load, save, take, put, get, call, join, give, tail, choose, fail, Arms, otherwise, arm, Procedure, Program}
use Rattle.low_code.specs.Formed.{uses, variables}
use Rattle.register_alloc.specs.Live.{IsLive}
use Rattle.register_alloc.specs.Fits.{Apart, Ascending, slots_of}
use Rattle.register_alloc.specs.Assignment.{Assignment, place_of, saves_at, words_at}
use Rattle.rv32_machine.specs.Memory.{end_of}
use Rattle.rv32_steps.specs.Trace.{procedure_from}
use Rattle.rv32_items.specs.declared.Item.{Item}
use Rattle.rv32_items.specs.declared.Item.TheVariants.{Label}
use Rattle.rv32_items.specs.Course.{Layout, label_from}
use Rattle.rv32_items.specs.Placed.{AddressesRise}
use Rattle.rv32_select.specs.Emit.{argument_spots, result_spots, stop_items}
use Rattle.rv32_select.specs.IsSelected.{EmitsProcedure, first_label}
use Rattle.limits.specs.Limits.{heap_start}
use Rattle.low_code.specs.Literals.{IsSmall, AreSmall, TestsSmall}
use Rattle.rv32_select.proofs.Courses.{Stands}
use Rattle.rv32_select.proofs.Relation.{Keeps}
use Rattle.seq.specs.Lists.{is_among}

abbrev pub NotAmong : Spot → List Spot → Type 0
NotAmong s [] = Unit {0}
NotAmong s (t ∷ ts) = (s ≢ t) × NotAmong s ts

-- no spot stands twice in the list
abbrev pub AllApart : List Spot → Type 0
AllApart [] = Unit {0}
AllApart (s ∷ ss) = NotAmong s ss × AllApart ss

module _ (l : Program) (a : Assignment) where
  -- procedure f may change this register as far as its callers know
  abbrev pub Free : (f r : ℕ) → Type 0
  Free f r = Keeps l a f r → ⊥

  -- a register that procedure f may change, or one of its slots before the saved registers
  abbrev pub IsOwn : (f saved : ℕ) → Spot → Type 0
  IsOwn f saved (Reg r) = (8 ≤ r) × ((r < 32) × Free f r)
  IsOwn f saved (Slot k) = k < saved
  IsOwn f saved Scratch = ⊥

  abbrev pub AllOwn : (f saved : ℕ) → List Spot → Type 0
  AllOwn f saved [] = Unit {0}
  AllOwn f saved (s ∷ ss) = IsOwn f saved s × AllOwn f saved ss

  -- spots in which words go to a procedure and come from it
  abbrev pub AllFree : (f : ℕ) → List Spot → Type 0
  AllFree f ss = AllOwn f 0 ss

  -- a call saves the registers of what is live behind it that the procedure may change, and none
  -- else
  pub record SavesFit (f slots saved : ℕ) (scope : List ℕ) (c : Code) (later : List ℕ) (site g : ℕ)
      : Type 0 where
    pub is_live : (r : ℕ) → is_among r (saves_at a site) ≡ true → (y : ℕ)
        × (IsLive scope c later y × (place_of a y ≡ Reg r))
    pub is_saved : (y r : ℕ) → IsLive scope c later y → place_of a y ≡ Reg r
        → (is_among r (saves_at a site) ≡ true) ⊎ Keeps l a g r
    pub ascending : Ascending (saves_at a site)
    pub room : saved + length (saves_at a site) ≤ slots

  -- a call of procedure g in f
  pub record CallFits (f g : ℕ) : Type 0 where
    pub called : Procedure
    pub is_called : slice_get l.procs g ≡ Some called
    pub keeps : (r : ℕ) → Keeps l a f r → Keeps l a g r

  module _ (f slots saved : ℕ) where
    -- variables that are bound at a point have places of the procedure's own, apart from what is
    -- live there
    abbrev pub Binds : (scope xs : List ℕ) → Code → (later : List ℕ) → Type 0
    Binds scope xs c later = Apart (place_of a) scope xs c later
        × AllOwn f saved (map (place_of a) xs)

    abbrev mutual
      pub Fine : (scope : List ℕ) → Code → (later : List ℕ) → Type 0
      Fine scope (set x o c) later = IsSmall o ×
          (Binds scope (x ∷ []) c later × Fine (x ∷ scope) c later)
      Fine scope (prim p x o u c) later = IsSmall o
          × (IsSmall u × (Binds scope (x ∷ []) c later × Fine (x ∷ scope) c later))
      Fine scope (load x o k c) later = IsSmall o ×
          (Binds scope (x ∷ []) c later × Fine (x ∷ scope) c later)
      Fine scope (save o k u c) later = IsSmall o × (IsSmall u × Fine scope c later)
      Fine scope (take xs c) later = (4 * l.width * length xs < 2 ^ 31)
          × (Binds scope xs c later × Fine (xs ++ scope) c later)
      Fine scope (put o c) later = IsSmall o × Fine scope c later
      Fine scope (get x c) later = Binds scope (x ∷ []) c later × Fine (x ∷ scope) c later
      Fine scope (call g site os xs c) later =
          AreSmall os ×
          (CallFits f g ×
          (SavesFit f slots saved scope c later site g
          × (Binds scope xs c later × Fine (xs ++ scope) c later)))
      Fine scope (join xs b c) later = Fine scope b (uses c ++ later)
          × (Binds scope xs c later × Fine (xs ++ scope) c later)
      Fine scope (give os) later = AreSmall os
      Fine scope (tail g site os) later = AreSmall os × CallFits f g
      Fine scope (choose as') later = ArmsFine scope as' later
      Fine scope fail later = Unit {0}

      pub ArmsFine : (scope : List ℕ) → Arms → (later : List ℕ) → Type 0
      ArmsFine scope (otherwise c) later = Fine scope c later
      ArmsFine scope (arm ts c as') later = TestsSmall ts
          × (Fine scope c later × ArmsFine scope as' later)

  -- a procedure: its frame, its parameters, arguments and results, and its block
  pub record ProcedureFine (f : ℕ) (q : Procedure) : Type 0 where
    pub slots : ℕ
    pub words : words_at a f ≡ 1 + slots
    pub small : 4 * words_at a f < 2 ^ 28
    pub enough : slots_of (place_of a) (variables q) ≤ slots
    pub params : Binds f slots (slots_of (place_of a) (variables q)) [] q.params q.body []
    pub body : Fine f slots (slots_of (place_of a) (variables q)) q.params q.body []
    pub arguments : AllFree f (argument_spots 0 (map (place_of a) q.params))
    pub arguments_differ : AllApart (argument_spots 0 (map (place_of a) q.params))
    pub results : AllFree f (result_spots 10 q.results)
    pub results_differ : AllApart (result_spots 10 q.results)

-- where the items of a procedure stand
pub record StandsAt (l : Program) (a : Assignment) (cells stack : ℕ) (items : List Item) (f : ℕ)
    (q : Procedure) : Type 0 where
  pub place : ℕ
  pub first : ℕ
  pub last : ℕ
  pub piece : List Item
  pub emits : EmitsProcedure l a cells stack f q first last piece
  pub stands : Stands items place piece
  pub above : first_label l ≤ first

pub record Setting (l : Program) (a : Assignment) (cells stack : ℕ) (lay : Layout)
    (items : List Item) (begins : List ℕ) : Type 0 where
  pub width_some : 1 ≤ l.width
  pub width_small : l.width ≤ 14
  pub cells_some : 1 ≤ cells
  pub cells_few : cells ≤ 8000000
  pub stack_few : stack ≤ 67108864
  pub stack_some : 1024 ≤ stack
  pub stack_four : stack % 4 ≡ 0
  pub rises : AddressesRise items lay
  pub below : end_of lay.code ≤ heap_start
  pub once : (t n : ℕ) → slice_get items t ≡ Some (Label n) → label_from 0 items n ≡ Some t
  pub procedures : (f : ℕ) (q : Procedure) → slice_get l.procs f ≡ Some q
      → StandsAt l a cells stack items f q
  pub fine : (f : ℕ) (q : Procedure) → slice_get l.procs f ≡ Some q → ProcedureFine l a f q
  pub begins_procedures : (f : ℕ) → f < length l.procs → procedure_from 0 begins f ≡ f ∷ []
  pub begins_no_other : (n : ℕ) → length l.procs ≤ n → procedure_from 0 begins n ≡ []
  pub stops_at : ℕ
  pub stops : Stands items stops_at (stop_items (length l.procs))
  pub last : length items ≡ stops_at + 12
