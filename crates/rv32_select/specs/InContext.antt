-- What is said of a program, its places, its cells and its frames, said of the context that holds
-- them: a name with `In` or `in` behind it is the one without, in a context and maybe in a frame.
use Rattle.std.specs.Prelude.{ℕ, List, map}
use Rattle.parallel_move.specs.declared.Spot.{Spot}
use Rattle.low_code.specs.declared.program.Operand.{Operand}
use Rattle.low_code.specs.declared.program.LowTest.{LowTest}
use Rattle.low_code.specs.declared.program.LowArm.{LowArm}
use Rattle.low_code.specs.declared.program.LowBlock.{LowBlock}
use Rattle.low_code.specs.declared.program.LowStmt.{LowStmt}
use Rattle.low_code.specs.Tree.{Code, prim, Arms, Program, program_of, code_of, arm_of, before_of, arms_before}
use Rattle.register_alloc.specs.Assignment.{Assignment}
use Rattle.rv32_items.specs.declared.Item.{Item}
use Rattle.rv32_select.specs.declared.source.Source.{Source}
use Rattle.rv32_select.specs.declared.source.Destination.{Destination}
use Rattle.rv32_select.specs.declared.context.Context.{Context}
use Rattle.rv32_select.specs.declared.context.Frame.{Frame}
use Rattle.rv32_select.specs.declared.blocks.Selection.{Selection}
use Rattle.rv32_select.specs.declared.search.Search.{Search}
use Rattle.rv32_select.specs.declared.decides.Comparison.{Comparison}
use Rattle.rv32_select.specs.IsSelected.{source, sources, places, argument_spots_of, result_spots_of, tests_items, heap_end, heap_full, no_alternative}
use Rattle.rv32_select.specs.Writable.{HavePlaces, OperandPlaced, OperandsPlaced, TestsPlaced, TargetsPlaced, CallPlaced, Placed, ArmsPlaced, ArmPlaced, BlocksPlaced}
use Rattle.rv32_select.specs.Emitting.{Called, TailCalled, Emitted, EmittedArms, EmittedLast, EmittedDecidedFirst, EmittedDecidedLast, Searched, Before, ArmsBefore, EmittedProcedure}

-- the arms of a choice, of the code's lists
abbrev pub alternatives : List LowArm → (otherwise : LowBlock) → Arms
alternatives arms otherwise = arms_before (map arm_of arms) (code_of otherwise)

-- a comparison before a block
abbrev pub compared : Comparison → Code → Code
compared c = prim c.operation c.variable c.left c.right

module _ (self : Context) where
  abbrev pub program : Program
  program = program_of self.low.now

  abbrev pub assignment : Assignment
  assignment = self.places.now

  abbrev pub heap_end_in : ℕ
  heap_end_in = heap_end program self.cells

  abbrev pub heap_full_in : ℕ
  heap_full_in = heap_full program

  abbrev pub no_alternative_in : ℕ
  no_alternative_in = no_alternative program

  -- what operands, variables and procedures are in instructions

  abbrev pub source_in : Operand → Source
  source_in = source program assignment

  abbrev pub sources_in : List Operand → List Source
  sources_in = sources program assignment

  abbrev pub places_in : List ℕ → List Spot
  places_in = places assignment

  abbrev pub argument_spots_in : (proc : ℕ) → List Spot
  argument_spots_in = argument_spots_of program assignment

  abbrev pub result_spots_in : (proc : ℕ) → List Spot
  result_spots_in = result_spots_of program

  abbrev pub tests_in : (next : ℕ) → List LowTest → List Item
  tests_in = tests_items program assignment

  -- what has to be, so that they can be written

  abbrev pub HavePlacesIn : List ℕ → Type 0
  HavePlacesIn = HavePlaces program assignment

  abbrev pub TargetsPlacedIn : List ℕ → Type 0
  TargetsPlacedIn = TargetsPlaced program assignment

  abbrev pub OperandPlacedIn : Operand → Type 0
  OperandPlacedIn = OperandPlaced program assignment

  abbrev pub OperandsPlacedIn : List Operand → Type 0
  OperandsPlacedIn = OperandsPlaced program assignment

  abbrev pub ComparisonPlacedIn : Comparison → Type 0
  ComparisonPlacedIn c = OperandPlacedIn c.left × OperandPlacedIn c.right

  abbrev pub TestsPlacedIn : List LowTest → Type 0
  TestsPlacedIn = TestsPlaced program assignment

  abbrev pub CallPlacedIn : (proc site : ℕ) → List Operand → (variables : List ℕ) → Type 0
  CallPlacedIn = CallPlaced program assignment

  abbrev pub PlacedIn : Code → Type 0
  PlacedIn = Placed program assignment

  abbrev pub StmtPlacedIn : LowStmt → Type 0
  StmtPlacedIn stmt = (c : Code) × PlacedIn (before_of stmt c)

  abbrev pub ArmPlacedIn : List LowTest × Code → Type 0
  ArmPlacedIn = ArmPlaced program assignment

  abbrev pub ArmsPlacedIn : Arms → Type 0
  ArmsPlacedIn = ArmsPlaced program assignment

  abbrev pub BlocksPlacedIn : List LowArm → Type 0
  BlocksPlacedIn = BlocksPlaced program assignment

  -- a procedure, behind what was selected before

  abbrev pub EmittedProcedureIn : (proc : ℕ) → (old new : Selection) → Type 0
  EmittedProcedureIn proc old new =
      EmittedProcedure program assignment self.cells self.stack proc old.code old.next new.code
      new.next

module _ (self : Context) (frame : Frame) where
  -- what was selected behind what

  abbrev pub CalledIn : (proc site : ℕ) → List Operand → (variables : List ℕ)
      → (old new : List Item) → Type 0
  CalledIn = Called (program self) (assignment self) frame.saved

  abbrev pub TailCalledIn : (proc : ℕ) → List Operand → (old new : List Item) → Type 0
  TailCalledIn = TailCalled (program self) (assignment self) frame.framed frame.words

  abbrev pub EmittedIn : Destination → Code → (old new : Selection) → Type 0
  EmittedIn to c old new =
      Emitted (program self) (assignment self) self.cells self.stack frame.words frame.saved
      frame.framed to.spots.now to.way c old.code old.next new.code new.next

  abbrev pub EmittedArmsIn : Destination → Arms → (old new : Selection)
      → Type 0
  EmittedArmsIn to arms old new =
      EmittedArms (program self) (assignment self) self.cells self.stack frame.words frame.saved
      frame.framed to.spots.now to.way arms old.code old.next new.code new.next

  abbrev pub EmittedLastIn : Destination → Arms → (old new : Selection)
      → Type 0
  EmittedLastIn to arms old new =
      EmittedLast (program self) (assignment self) self.cells self.stack frame.words frame.saved
      frame.framed to.spots.now to.way arms old.code old.next new.code new.next

  abbrev pub EmittedDecidedFirstIn : Comparison → Destination → Arms
      → (old new : Selection) → Type 0
  EmittedDecidedFirstIn comparison to arms old new =
      EmittedDecidedFirst (program self) (assignment self) self.cells self.stack frame.words
      frame.saved frame.framed comparison.operation (source_in self comparison.left)
      (source_in self comparison.right) to.spots.now to.way arms old.code old.next new.code new.next

  abbrev pub EmittedDecidedLastIn : Comparison → Destination → Arms
      → (old new : Selection) → Type 0
  EmittedDecidedLastIn comparison to arms old new =
      EmittedDecidedLast (program self) (assignment self) self.cells self.stack frame.words
      frame.saved frame.framed comparison.operation (source_in self comparison.left)
      (source_in self comparison.right) to.spots.now to.way arms old.code old.next new.code new.next

  abbrev pub SearchedIn : Search → Destination → List LowArm
      → (old new : Selection) → Type 0
  SearchedIn search to arms old new =
      Searched (program self) (assignment self) self.cells self.stack frame.words frame.saved
      frame.framed search.miss search.word to.spots.now to.way search.low search.high arms old.code old.next
      new.code new.next

  abbrev pub BeforeIn : (before : Code → Code) → (old new : Selection) → Type 0
  BeforeIn before old new =
      Before (program self) (assignment self) self.cells self.stack frame.words frame.saved
      frame.framed before old.code old.next new.code new.next

  abbrev pub ArmsBeforeIn : Destination → (before : Arms → Arms)
      → (old new : Selection) → Type 0
  ArmsBeforeIn to before old new =
      ArmsBefore (program self) (assignment self) self.cells self.stack frame.words frame.saved
      frame.framed to.spots.now to.way before old.code old.next new.code new.next
