-- What items that were put behind others stand for.
use Rattle.std.specs.Prelude.{◌≡◌, ℕ, Bool, true, false, Option, None, List, [], ◌∷◌, ◌++◌, Some, slice_get, suc, ◌≤◌, length}
use Rattle.parallel_move.specs.declared.Spot.{Spot}
use Rattle.parallel_move.specs.declared.Move.{Move}
use Rattle.low_code.specs.declared.program.Operand.{Operand}
use Rattle.low_code.specs.declared.program.LowTest.{LowTest}
use Rattle.low_code.specs.declared.program.PrimOp.{PrimOp}
use Rattle.low_code.specs.Tree.{Code, prim, Arms, arm, Procedure, Program, code_of}
use Rattle.low_code.specs.declared.program.LowArm.{LowArm}
use Rattle.register_alloc.specs.Assignment.{Assignment, saves_at}
use Rattle.rv32_items.specs.declared.Item.{Item}
use Rattle.rv32_items.specs.declared.Item.TheVariants.{Jump}
use Rattle.rv32_select.specs.declared.source.Source.{Source}
use Rattle.rv32_select.specs.declared.decides.Comparison.{Comparison}
use Rattle.rv32_select.specs.declared.source.Continuation.{Continuation}
use Rattle.rv32_select.specs.Emit.{put_link, take_link, plain, moves_code, spot_moves, number_moves, leave_code}
use Rattle.rv32_select.specs.IsSelected.{IsOrder, sources, places, argument_spots_of, result_spots_of, moves_between, call_items, Emits, EmitsArms, EmitsLast, EmitsDecidedFirst, EmitsDecidedLast, EmitsProcedure, source}
use Rattle.rv32_select.specs.Decides.{decides_code, decides, decided}
use Rattle.rv32_select.specs.Halves.{SearchedArm, IsBelowBound, Halves}
use Rattle.rv32_select.specs.Writable.{Placed, ArmsPlaced}

-- moves in some order
pub record EmitsMoves (moves : List Move) (old new : List Item) : Type 0 where
  pub steps : List Move
  pub order : IsOrder steps moves
  pub is : new ≡ old ++ plain (moves_code steps)

-- words that went to spots at once
pub record EmitsParallelMoves (to : List Spot) (from : List Source) (old new : List Item)
    : Type 0 where
  pub steps : List Move
  pub order : IsOrder steps (spot_moves to from)
  pub is : new ≡ old ++ plain (moves_code steps ++ number_moves to from)

abbrev pub one_arm : List LowTest × Code → Arms → Arms
one_arm t = arm t.0 t.1

-- the comparison of a statement that decides the end right behind it
abbrev pub IsDecidingComparison : (before : Code → Code) → (end : Code) → Option Comparison → Type 0
IsDecidingComparison before end None = decided (before end) ≡ false
IsDecidingComparison before end (Some c) =
    (before ≡ prim c.operation c.variable c.left c.right)
    × (decides c.operation c.variable end ≡ true)

-- and where that is the last one of a block
abbrev pub DecidesBlockEnd : (is_last : Bool) → (before : Code → Code) → (end : Code)
    → Option Comparison → Type 0
DecidesBlockEnd is_last before end None = is_last ≡ true → decided (before end) ≡ false
DecidesBlockEnd is_last before end (Some c) =
    (is_last ≡ true) × IsDecidingComparison before end (Some c)

-- before and behind a piece that needs x1
abbrev pub link_aside : (framed : Bool) → List Item
link_aside true = []
link_aside false = plain put_link

abbrev pub link_back : (framed : Bool) → List Item
link_back true = []
link_back false = plain take_link

-- each of some arms has one test, of this word against a number, and the numbers rise from `low`
-- on, below a bound
abbrev pub TestsAscend : (word : Operand) (low : ℕ) → Option ℕ → List LowArm → Type 0
TestsAscend word low high [] = Unit {0}
TestsAscend word low high (t ∷ ts) =
    (number : ℕ) × (t.tests ≡ record { left = word; right = number } ∷ []) × (low ≤ number)
    × IsBelowBound number high × TestsAscend word (suc number) high ts

abbrev pub TestsAscendIfSearched : Option Operand → List LowArm → Type 0
TestsAscendIfSearched None ts = Unit {0}
TestsAscendIfSearched (Some word) ts = (1 ≤ length ts) × TestsAscend word 0 None ts

module _ (l : Program) (a : Assignment) where
  pub record Called (saved f site : ℕ) (as' : List Operand) (xs : List ℕ) (old new : List Item)
      : Type 0 where
    pub arguments : List Move
    pub results : List Move
    pub order : IsOrder arguments (spot_moves (argument_spots_of l a f) (sources l a as'))
    pub results_order : IsOrder results (moves_between (places a xs) (result_spots_of l f))
    pub is : new ≡ old ++ call_items l a saved f as' (saves_at a site) arguments results

  pub record TailCalled (framed : Bool) (words f : ℕ) (as' : List Operand) (old new : List Item)
      : Type 0 where
    pub steps : List Move
    pub order : IsOrder steps (spot_moves (argument_spots_of l a f) (sources l a as'))
    pub is : new
        ≡ old ++ (plain (moves_code steps
        ++ (number_moves (argument_spots_of l a f) (sources l a as') ++ leave_code framed words))
        ++ Jump 0 f ∷ [])

module _ (l : Program) (a : Assignment) (cells stack words saved : ℕ) (framed : Bool) where
  -- a block
  pub record Emitted (to : List Spot) (way : Continuation) (c : Code) (old : List Item)
      (n : ℕ) (new : List Item) (m : ℕ) : Type 0 where
    pub items : List Item
    pub is : new ≡ old ++ items
    pub emits : Emits l a cells stack words saved framed to way c n m items

  pub record EmittedArms (to : List Spot) (way : Continuation) (c : Arms) (old : List Item)
      (n : ℕ) (new : List Item) (m : ℕ) : Type 0 where
    pub items : List Item
    pub is : new ≡ old ++ items
    pub emits : EmitsArms l a cells stack words saved framed to way c n m items

  pub record EmittedLast (to : List Spot) (way : Continuation) (c : Arms) (old : List Item)
      (n : ℕ) (new : List Item) (m : ℕ) : Type 0 where
    pub items : List Item
    pub is : new ≡ old ++ items
    pub emits : EmitsLast l a cells stack words saved framed to way c n m items

  -- arms with one test each, by the blocks that stand for them
  abbrev pub AreSought : (word : Operand) (to : List Spot) (way : Continuation) → List LowArm
      → List SearchedArm → Type 0
  AreSought word to way [] [] = Unit {0}
  AreSought word to way [] (s ∷ ss) = ⊥
  AreSought word to way (t ∷ ts) [] = ⊥
  AreSought word to way (t ∷ ts) (s ∷ ss) =
      (t.tests ≡ record { left = word; right = s.number } ∷ [])
      × Emits l a cells stack words saved framed to way (code_of t.block) s.first s.next s.block
      × AreSought word to way ts ss

  -- arms that are looked for by halves
  pub record Searched (miss : ℕ) (word : Operand) (to : List Spot) (way : Continuation) (low : ℕ)
      (high : Option ℕ) (ts : List LowArm) (old : List Item) (n : ℕ) (new : List Item) (m : ℕ)
      : Type 0 where
    pub all : List SearchedArm
    pub items : List Item
    pub is : new ≡ old ++ items
    pub arms : AreSought word to way ts all
    pub halves : Halves miss (source l a word) low high all n m items

  pub record EmittedDecidedFirst (f : PrimOp) (left right : Source)
      (to : List Spot) (way : Continuation)
      (c : Arms) (old : List Item) (n : ℕ) (new : List Item) (m : ℕ) : Type 0 where
    pub items : List Item
    pub is : new ≡ old ++ items
    pub emits : EmitsDecidedFirst l a cells stack words saved framed f left right to way c n m items

  pub record EmittedDecidedLast (f : PrimOp) (left right : Source)
      (to : List Spot) (way : Continuation)
      (c : Arms) (old : List Item) (n : ℕ) (new : List Item) (m : ℕ) : Type 0 where
    pub items : List Item
    pub is : new ≡ old ++ items
    pub emits : EmitsDecidedLast l a cells stack words saved framed f left right to way c n m items

  -- a statement before any block that it doesn't decide
  pub record Before (before : Code → Code) (old : List Item) (n : ℕ) (new : List Item) (m : ℕ)
      : Type 0 where
    pub items : List Item
    pub is : new ≡ old ++ items
    pub placed : (c : Code) → Placed l a (before c) → Placed l a c
    pub no_choice : (x : ℕ) (c : Code) → decides_code x (before c) ≡ false
    pub before_choice : (c : Code) → ((x : ℕ) → decides_code x c ≡ false)
        → decided (before c) ≡ false
    pub emits : (to : List Spot) (way : Continuation) (c : Code) (k : ℕ) (rest : List Item)
        → decided (before c) ≡ false → Emits l a cells stack words saved framed to way c m k rest
        → Emits l a cells stack words saved framed to way (before c) n k (items ++ rest)

  -- an arm, or several, before any others
  pub record ArmsBefore (to : List Spot) (way : Continuation) (before : Arms → Arms)
      (old : List Item) (n : ℕ) (new : List Item) (m : ℕ) : Type 0 where
    pub items : List Item
    pub is : new ≡ old ++ items
    pub placed : (as' : Arms) → ArmsPlaced l a (before as') → ArmsPlaced l a as'
    pub emits : (as' : Arms) (k : ℕ) (rest : List Item)
        → EmitsArms l a cells stack words saved framed to way as' m k rest
        → EmitsArms l a cells stack words saved framed to way (before as') n k (items ++ rest)

-- a procedure
pub record EmittedProcedure (l : Program) (a : Assignment) (cells stack f : ℕ)
    (old : List Item) (n : ℕ) (new : List Item) (m : ℕ) : Type 0 where
  pub items : List Item
  pub is : new ≡ old ++ items
  pub emits : (q : Procedure) → slice_get l.procs f ≡ Some q
      → EmitsProcedure l a cells stack f q n m items
