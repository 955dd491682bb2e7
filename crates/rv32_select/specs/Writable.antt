-- What a program and its places are, so that each of its items can be written: places are in the
-- lists and no scratch spots, registers are x0 to x31, and words that go to spots at once go to
-- different ones.
use Rattle.std.specs.Prelude.{◌≡◌, ℕ, ◌*◌, ◌≤◌, ◌<◌, ◌^◌, List, [], ◌∷◌, map, length, Some, slice_get}
use Rattle.low_code.specs.declared.program.Operand.{Operand}
use Rattle.low_code.specs.declared.program.Operand.TheVariants.{Var, Num, Cell}
use Rattle.low_code.specs.declared.program.LowTest.{LowTest}
use Rattle.low_code.specs.declared.program.LowArm.{LowArm}
use Rattle.low_code.specs.Tree.{Code, code_of, set, prim, load, save, take, put, get, call, join, give, tail, choose, fail, Arms, otherwise, arm, Procedure, Program}
use Rattle.low_code.specs.Formed.{variables}
use Rattle.register_alloc.specs.Assignment.{Assignment, place_of, saves_at, words_at}
use Rattle.register_alloc.specs.Fits.{slots_of}
use Rattle.rv32_select.specs.Emit.{argument_spots}
use Rattle.rv32_select.specs.Ranges.{IsSpot, AreRegisters, AllSpotsDiffer, AreTargets}
use Rattle.limits.specs.Limits.{largest_program, most_cells}

-- a frame of less than 2^28 bytes, and the first of its slots for saved registers
abbrev pub FrameFits : (words saved : ℕ) → Type 0
FrameFits words saved = (words < 67108864) × (saved < 67108864)

module _ (l : Program) (a : Assignment) where
  abbrev pub HasPlace : ℕ → Type 0
  HasPlace x = (x < length a.spots) × IsSpot (place_of a x)

  abbrev pub HavePlaces : List ℕ → Type 0
  HavePlaces [] = Unit {0}
  HavePlaces (x ∷ xs) = HasPlace x × HavePlaces xs

  abbrev pub OperandPlaced : Operand → Type 0
  OperandPlaced (Var x) = HasPlace x
  OperandPlaced (Num k) = Unit {0}
  OperandPlaced (Cell i) = Unit {0}

  abbrev pub OperandsPlaced : List Operand → Type 0
  OperandsPlaced [] = Unit {0}
  OperandsPlaced (b ∷ bs) = OperandPlaced b × OperandsPlaced bs

  abbrev pub TestsPlaced : List LowTest → Type 0
  TestsPlaced [] = Unit {0}
  TestsPlaced (t ∷ ts) = OperandPlaced t.left × TestsPlaced ts

  abbrev pub TargetsPlaced : List ℕ → Type 0
  TargetsPlaced xs = HavePlaces xs × AllSpotsDiffer (map (place_of a) xs)

  -- registers are saved only where they are variables': x8 to x31
  abbrev pub CallPlaced : (proc site : ℕ) → List Operand → List ℕ → Type 0
  CallPlaced f site as' xs =
      (f < length l.procs) × (site < length a.saves) × AreRegisters (saves_at a site)
      × (length (saves_at a site) ≤ 24)
      × OperandsPlaced as' × TargetsPlaced xs

  abbrev mutual
    pub Placed : Code → Type 0
    Placed (set x b c) = HasPlace x × OperandPlaced b × Placed c
    Placed (prim f x b d c) = HasPlace x × OperandPlaced b × OperandPlaced d × Placed c
    Placed (load x b k c) = HasPlace x × OperandPlaced b × Placed c
    Placed (save b k d c) = OperandPlaced b × OperandPlaced d × Placed c
    Placed (take xs c) = HavePlaces xs × (4 * l.width * length xs < 2 ^ 32) × Placed c
    Placed (put b c) = OperandPlaced b × Placed c
    Placed (get x c) = HasPlace x × Placed c
    Placed (call f site as' xs c) = CallPlaced f site as' xs × Placed c
    Placed (join xs b c) = TargetsPlaced xs × Placed b × Placed c
    Placed (give as') = OperandsPlaced as'
    Placed (tail f site as') = (f < length l.procs) × (site < length a.saves) × OperandsPlaced as'
    Placed (choose as') = ArmsPlaced as'
    Placed fail = Unit {0}

    pub ArmsPlaced : Arms → Type 0
    ArmsPlaced (otherwise c) = Placed c
    ArmsPlaced (arm ts c as') = TestsPlaced ts × Placed c × ArmsPlaced as'

  abbrev pub BlocksPlaced : List LowArm → Type 0
  BlocksPlaced [] = Unit {0}
  BlocksPlaced (t ∷ ts) = Placed (code_of t.block) × BlocksPlaced ts

  abbrev pub ArmPlaced : List LowTest × Code → Type 0
  ArmPlaced t = TestsPlaced t.0 × Placed t.1

  pub record ProcedurePlaced (q : Procedure) : Type 0 where
    pub few_params : length q.params ≤ 16
    pub few_results : q.results ≤ 13
    pub params : HavePlaces q.params
    pub bound : HavePlaces (variables q)
    pub slots : slots_of (place_of a) (variables q) < 67108864
    pub arguments : AreTargets (argument_spots 0 (map (place_of a) q.params))
    pub body : Placed q.body

  pub record Writable : Type 0 where
    pub width : (1 ≤ l.width) × (l.width ≤ 14)
    pub procedures : (f : ℕ) (q : Procedure) → slice_get l.procs f ≡ Some q → ProcedurePlaced q
    pub few_procedures : length l.procs ≤ largest_program
    pub frames : length a.frames ≡ length l.procs
    pub masks : length a.masks ≡ length l.procs
    pub words : (f : ℕ) → words_at a f < 67108864
    pub start : l.start < length l.procs

  abbrev pub CanWrite : (cells : ℕ) → Type 0
  CanWrite cells = Writable × (cells ≤ most_cells)
