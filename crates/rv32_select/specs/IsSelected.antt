-- The items that stand for low code, statement by statement, where moves may be done in any order
-- that does them at once.
use Rattle.std.specs.Prelude.{◌/◌, nat_eq, ◌≡◌, ℕ, suc, ◌+◌, ◌-◌, ◌*◌, ◌%◌, ◌^◌, ◌≤◌, Bool, true, false, if◌then◌else◌, List, [], ◌∷◌, ◌++◌, map, length, Option, Some, None, slice_get, ◌⊎◌}
use Rattle.parallel_move.specs.declared.Spot.{Spot}
use Rattle.parallel_move.specs.declared.Move.{Move}
use Rattle.parallel_move.specs.Moves.{MovesInParallel, ends, UsesOnlyMoveSpots}
use Rattle.low_code.specs.declared.program.Operand.{Operand}
use Rattle.low_code.specs.declared.program.Operand.TheVariants.{Var, Num, Cell}
use Rattle.low_code.specs.declared.program.LowTest.{LowTest}
use Rattle.low_code.specs.declared.program.PrimOp.{PrimOp}
use Rattle.low_code.specs.Tree.{Code, set, prim, load, save, take, put, get, call, join, give, tail, choose, fail, Arms, otherwise, arm, Procedure, Program}
use Rattle.low_code.specs.Formed.{variables}
use Rattle.register_alloc.specs.Assignment.{Assignment, place_of, saves_at, words_at}
use Rattle.register_alloc.specs.Fits.{slots_of}
use Rattle.rv32_items.specs.declared.Item.{Item}
use Rattle.rv32_items.specs.declared.Item.TheVariants.{Label, Jump}
use Rattle.rv32_select.specs.declared.source.Source.{Source}
use Rattle.rv32_select.specs.declared.source.Source.TheVariants.{At, Number}
use Rattle.rv32_select.specs.declared.source.Continuation.{Continuation}
use Rattle.rv32_select.specs.declared.source.Continuation.TheVariants.{Returns, Follows, Jumps}
use Rattle.rv32_select.specs.Emit.{put_link, take_link, plain, moves_code, spot_moves, number_moves, set_code, prim_code, load_code, save_code, take_items, put_code, get_code, exit_with, argument_spots, result_spots, entry_items, base_at_start, leave_code, return_items, save_moves, restore_moves, branch_items, test_items, match_items, start_items, stop_items}
use Rattle.rv32_select.specs.Decides.{decides, tested, condition, other_condition}
use Rattle.rv32_select.specs.Halves.{SearchedArm, Halves}
use Rattle.limits.specs.Limits.{heap_start, stack_end}

-- steps that do moves at once, and go between no other spots
pub record IsOrder (steps moves : List Move) : Type 0 where
  pub once : MovesInParallel steps moves
  pub few : ends steps ≤ 2 * length moves
  pub among : UsesOnlyMoveSpots steps moves

-- a piece of items, and then others
abbrev pub Then : (piece : List Item) → (List Item → Type 0) → List Item → Type 0
Then piece Rest items = (rest : List Item) × (items ≡ piece ++ rest) × Rest rest

-- items that may go on to label n, a block that they pass then, and what stands behind the label
abbrev pub Passed : (tests : List Item) → (Block Behind : (n m : ℕ) → List Item → Type 0)
    → (n m : ℕ) → List Item → Type 0
Passed tests Block Behind n m items =
    (k : ℕ) × (block : List Item) × Block (suc n) k block
    × Then (tests ++ (block ++ Label n ∷ [])) (Behind k m) items

-- a piece that needs x1: where the return address isn't in the frame, it is there meanwhile
abbrev pub Round : (framed : Bool) → (piece : List Item) → (List Item → Type 0) → List Item → Type 0
Round true piece Rest items = Then piece Rest items
Round false piece Rest items =
    Then (plain put_link) (Then piece (Then (plain take_link) Rest)) items

-- moves from one list of spots to another
abbrev pub moves_between : (to from : List Spot) → List Move
moves_between [] from = []
moves_between (t ∷ to) [] = []
moves_between (t ∷ to) (s ∷ from) = record { to = t; from = s } ∷ moves_between to from

-- the way where other items come before the label
abbrev pub continued_by_jump : Continuation → Continuation
continued_by_jump Returns = Returns
continued_by_jump (Follows label) = Jumps label
continued_by_jump (Jumps label) = Jumps label

abbrev pub way_out : (framed : Bool) → (words : ℕ) → Continuation → List Item
way_out framed words Returns = return_items framed words
way_out framed words (Follows label) = []
way_out framed words (Jumps label) = Jump 0 label ∷ []

-- a block that likely runs rarely: it calls a procedure, or has no alternative
abbrev pub is_rare : Code → Bool
is_rare (set x b c) = is_rare c
is_rare (prim f x b d c) = is_rare c
is_rare (load x b k c) = is_rare c
is_rare (save b k d c) = is_rare c
is_rare (take xs c) = is_rare c
is_rare (put b c) = is_rare c
is_rare (get x c) = is_rare c
is_rare (call f site as' xs c) = true
is_rare (join xs b c) = is_rare c
is_rare (give as') = false
is_rare (tail f site as') = false
is_rare (choose as') = false
is_rare fail = true

-- where a choice goes on at a label, the first alternative needs no jump there if it stands behind
-- the others, and the last one has it: that is done where the last one alone is rare
abbrev pub waits : Continuation → (first last : Code) → Bool
waits Returns c d = false
waits (Follows label) c d = if is_rare c then false else is_rare d
waits (Jumps label) c d = if is_rare c then false else is_rare d

abbrev pub last_of : Arms → Code
last_of (otherwise c) = c
last_of (arm ts c as') = last_of as'

abbrev pub has_one : List LowTest → Bool
has_one [] = false
has_one (t ∷ []) = true
has_one (t ∷ (u ∷ ts)) = false

abbrev pub first_arm_goes_last : Continuation → Arms → Bool
first_arm_goes_last way (otherwise c) = false
first_arm_goes_last way (arm ts c as') = if has_one ts then waits way c (last_of as') else false

-- the bytes of a cell, and the heap's end
abbrev pub step : Program → ℕ
step l = 4 * l.width

abbrev pub heap_end : Program → (cells : ℕ) → ℕ
heap_end l cells = heap_start + step l * cells

-- the labels of procedures are their numbers; then come those of the stops
abbrev pub no_alternative : Program → ℕ
no_alternative l = length l.procs

abbrev pub heap_full : Program → ℕ
heap_full l = 1 + length l.procs

abbrev pub stack_full : Program → ℕ
stack_full l = 2 + length l.procs

abbrev pub first_label : Program → ℕ
first_label l = 3 + length l.procs

-- no procedure changes x27, so that what is there from the start on lasts
abbrev pub no_mask_has_x27 : (masks : List ℕ) → Bool
no_mask_has_x27 [] = true
no_mask_has_x27 (m ∷ ms) = if nat_eq (m / 2 ^ 27 % 2) 1 then false else no_mask_has_x27 ms

abbrev pub is_lasting : Assignment → Bool
is_lasting a = no_mask_has_x27 a.masks

abbrev pub places : Assignment → List ℕ → List Spot
places a xs = map (place_of a) xs

-- the spots in which a procedure takes its arguments and gives its results
abbrev pub params_of : Assignment → Option Procedure → List Spot
params_of a None = []
params_of a (Some q) = argument_spots 0 (places a q.params)

abbrev pub results_of : Option Procedure → ℕ
results_of None = 0
results_of (Some q) = q.results

abbrev pub result_spots_of : Program → (proc : ℕ) → List Spot
result_spots_of l f = result_spots 10 (results_of (slice_get l.procs f))

abbrev pub start_argument : Option ℕ → List Operand
start_argument None = []
start_argument (Some i) = Cell i ∷ []

module _ (l : Program) (a : Assignment) where
  abbrev pub argument_spots_of : (proc : ℕ) → List Spot
  argument_spots_of f = params_of a (slice_get l.procs f)

  abbrev pub source : Operand → Source
  source (Var x) = At (place_of a x)
  source (Num k) = Number k
  source (Cell i) = Number ((heap_start + step l * i) % 2 ^ 32)

  abbrev pub sources : List Operand → List Source
  sources as' = map source as'

  abbrev pub tests_items : (next : ℕ) → List LowTest → List Item
  tests_items next [] = []
  tests_items next (t ∷ ts) = test_items next (source t.left) t.right ++ tests_items next ts

  -- a call in a frame of which the slots from `saved` on are for saved registers: registers are
  -- saved, arguments go to their spots, results to their variables, and registers come back
  abbrev pub call_items : (saved proc : ℕ) → List Operand → (registers : List ℕ)
      → (arguments results : List Move) → List Item
  call_items saved f as' registers arguments results =
      plain (moves_code (save_moves saved registers)
      ++ (moves_code arguments ++ number_moves (argument_spots_of f) (sources as')))
      ++ Jump 1 f ∷ plain (moves_code results ++ moves_code (restore_moves saved registers))

  -- a choice by halves, with the items behind the search; n is the label where no number is the
  -- word
  abbrev pub ByHalves : (Each : Operand → List SearchedArm → (k : ℕ) → List Item → Type 0) → (n : ℕ)
      → List Item → Type 0
  ByHalves Each n items =
      (word : Operand) × (all : List SearchedArm) × (k : ℕ) × (search rest : List Item)
      × Halves n (source word) 0 None all (suc n) k search × Each word all k rest
      × (items ≡ (search ++ Label n ∷ []) ++ rest)

  -- the call of the start, and the exit behind it
  abbrev pub first_call : (stack_base : ℕ) → List Item
  first_call stack_base =
      plain (number_moves (argument_spots_of l.start) (sources (start_argument l.argument))
      ++ base_at_start (is_lasting a) stack_base)
      ++ Jump 1 l.start ∷ exit_with 0

module _ (l : Program) (a : Assignment) (cells stack : ℕ) where
  -- in a procedure whose frame has so many words, of which the slots from `saved` on are for saved
  -- registers, and the first one is the return address's or isn't
  module _ (words saved : ℕ) (framed : Bool) where
    abbrev mutual
      -- the items of a block that gives its words to these spots and goes this way then; n is the
      -- first label of its own, and m the next one behind them
      pub Emits : (to : List Spot) → Continuation → Code → (n m : ℕ) → List Item → Type 0
      Emits to way (set x b c) n m items =
          Then (plain (set_code (place_of a x) (source l a b))) (Emits to way c n m) items
      Emits to way (prim f x b d c) n m items =
          elim (decides f x c) [
            | true ↦ EmitsDecided f (source l a b) (source l a d) to way c n m items
            | false ↦ Then (plain (prim_code f (place_of a x) (source l a b) (source l a d)))
                (Emits to way c n m) items
          ]
      Emits to way (load x b k c) n m items =
          Then (plain (load_code (place_of a x) (source l a b) k)) (Emits to way c n m) items
      Emits to way (save b k d c) n m items =
          Then (plain (save_code (source l a b) k (source l a d))) (Emits to way c n m) items
      Emits to way (take xs c) n m items =
          Then (take_items (step l) (heap_full l) (places a xs)) (Emits to way c n m) items
      Emits to way (put b c) n m items =
          Round framed (plain (put_code (heap_end l cells) (source l a b)))
          (Emits to way c n m) items
      Emits to way (get x c) n m items =
          Round framed (plain (get_code (heap_end l cells) (place_of a x)))
          (Emits to way c n m) items
      Emits to way (call f site as' xs c) n m items =
          (arguments results : List Move)
          × IsOrder arguments (spot_moves (argument_spots_of l a f) (sources l a as'))
          × IsOrder results (moves_between (places a xs) (result_spots_of l f))
          × Round framed (call_items l a saved f as' (saves_at a site) arguments results)
          (Emits to way c n m) items
      Emits to way (join xs b c) n m items =
          (k : ℕ) × (block : List Item) × Emits (places a xs) (Follows n) b (suc n) k block
          × Then (block ++ Label n ∷ []) (Emits to way c k m) items
      Emits to way (give as') n m items =
          (m ≡ n) × (steps : List Move) × IsOrder steps (spot_moves to (sources l a as'))
          × (items
          ≡ plain (moves_code steps ++ number_moves to (sources l a as'))
          ++ way_out framed words way)
      Emits to way (tail f site as') n m items =
          (m ≡ n) × (steps : List Move)
          × IsOrder steps (spot_moves (argument_spots_of l a f) (sources l a as'))
          × (items ≡ plain (moves_code steps
          ++ (number_moves (argument_spots_of l a f) (sources l a as') ++ leave_code framed words))
          ++ Jump 0 f ∷ [])
      Emits to way (choose as') n m items =
          ByHalves l a (λ word all k rest. EmitsEach word to way as' all k m rest) n items
          ⊎ elim (first_arm_goes_last way as') [
            | true ↦ EmitsLast to way as' n m items
            | false ↦ EmitsArms to way as' n m items
          ]
      -- at the stop x5 has the address behind this jump, which tells where no alternative was
      Emits to way fail n m items = (m ≡ n) × (items ≡ Jump 5 (no_alternative l) ∷ [])

      pub EmitsArms : (to : List Spot) → Continuation → Arms → (n m : ℕ) → List Item → Type 0
      EmitsArms to way (otherwise c) n m items = Emits to way c n m items
      EmitsArms to way (arm ts c as') n m items =
          (k : ℕ) × (block : List Item) × Emits to (continued_by_jump way) c (suc n) k block
          × Then (tests_items l a n ts ++ (block ++ Label n ∷ [])) (EmitsArms to way as' k m) items

      -- arms with one test each, of this word: their numbers with their blocks, and the last block
      pub EmitsEach : (word : Operand) → (to : List Spot) → Continuation
          → Arms → List SearchedArm → (k m : ℕ)
          → List Item → Type 0
      EmitsEach word to way (otherwise c) all k m rest = (all ≡ []) × Emits to way c k m rest
      EmitsEach word to way (arm ts c as') all k m rest =
          (s : SearchedArm) × (others : List SearchedArm) × (all ≡ s ∷ others)
          × (ts ≡ record { left = word; right = s.number } ∷ [])
          × Emits to (continued_by_jump way) c s.first s.next s.block
          × EmitsEach word to way as' others k m rest

      -- the first arm, with its one test, behind the others
      pub EmitsLast : (to : List Spot) → Continuation → Arms → (n m : ℕ) → List Item → Type 0
      EmitsLast to way (otherwise c) n m items = ⊥
      EmitsLast to way (arm ts c as') n m items =
          (t : LowTest) × (ts ≡ t ∷ [])
          × (k : ℕ) × (others : List Item)
          × EmitsArms to (continued_by_jump way) as' (suc n) k others
          × Then (match_items n (source l a t.left) t.right ++ (others ++ Label n ∷ []))
          (Emits to way c k m) items

      -- a choice whose first arm is taken by how two words compare
      pub EmitsDecided : PrimOp → (left right : Source) → (to : List Spot) → Continuation → Code
          → (n m : ℕ) → List Item → Type 0
      EmitsDecided f left right to way (choose as') n m items = elim (first_arm_goes_last way as') [
        | true ↦ EmitsDecidedLast f left right to way as' n m items
        | false ↦ EmitsDecidedFirst f left right to way as' n m items
      ]
      EmitsDecided f left right to way _ n m items = ⊥

      -- that arm first, and behind the others
      pub EmitsDecidedFirst : PrimOp → (left right : Source) → (to : List Spot)
          → Continuation → Arms
          → (n m : ℕ) → List Item → Type 0
      EmitsDecidedFirst f left right to way (otherwise c) n m items = ⊥
      EmitsDecidedFirst f left right to way (arm ts c as') n m items =
          Passed (branch_items (other_condition f (tested ts)) n left right)
          (Emits to (continued_by_jump way) c) (EmitsArms to way as') n m items

      pub EmitsDecidedLast : PrimOp → (left right : Source) → (to : List Spot) → Continuation → Arms
          → (n m : ℕ) → List Item → Type 0
      EmitsDecidedLast f left right to way (otherwise c) n m items = ⊥
      EmitsDecidedLast f left right to way (arm ts c as') n m items =
          Passed (branch_items (condition f (tested ts)) n left right)
          (EmitsArms to (continued_by_jump way) as') (Emits to way c) n m items

  -- procedure f: its entry, and its block
  pub record EmitsProcedure (f : ℕ) (q : Procedure) (n m : ℕ) (items : List Item) : Type 0 where
    pub framed : Bool
    pub block : List Item
    pub body : Emits (words_at a f) (slots_of (place_of a) (variables q)) framed
        (result_spots 10 q.results) Returns q.body n m block
    pub is : items
        ≡ entry_items f (words_at a f) framed (is_lasting a) (stack_end - stack) (stack_full l)
        (places a q.params) ++ block

  -- the procedures from number f on
  abbrev pub EmitsProcedures : (f : ℕ) → List Procedure → (n m : ℕ) → List Item → Type 0
  EmitsProcedures f [] n m items = (m ≡ n) × (items ≡ [])
  EmitsProcedures f (q ∷ qs) n m items =
      (k : ℕ) × (first rest : List Item) × EmitsProcedure f q n k first
      × EmitsProcedures (suc f) qs k m rest × (items ≡ first ++ rest)

  pub record IsSelected (items : List Item) : Type 0 where
    pub last : ℕ
    pub procedures : List Item
    pub each : EmitsProcedures 0 l.procs (first_label l) last procedures
    pub is : items
        ≡ (start_items stack_end heap_start (heap_end l cells) (step l) (heap_full l) l.globals
        ++ first_call l a (stack_end - stack)) ++ (procedures ++ stop_items (no_alternative l))
