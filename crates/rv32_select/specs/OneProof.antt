-- That a program and its places can be written, and that spots are targets, has one proof at most:
-- a fact of a type has to.
use Rattle.std.specs.Prelude.{◌≡◌, ℕ, List, [], ◌∷◌}
use Rattle.std.specs.Coded.{×_prop, Unit-prop, le_prop}
use Rattle.std.proofs.Props.{props}
use Rattle.parallel_move.specs.declared.Spot.{Spot}
use Rattle.low_code.specs.declared.program.Operand.{Operand}
use Rattle.low_code.specs.declared.program.Operand.TheVariants.{Var, Num, Cell}
use Rattle.low_code.specs.declared.program.LowTest.{LowTest}
use Rattle.low_code.specs.Tree.{Code, set, prim, load, save, take, put, get, call, join, give, tail, choose, fail, Arms, otherwise, arm, Procedure, Program}
use Rattle.register_alloc.specs.Assignment.{Assignment}
use Rattle.rv32_select.specs.Ranges.{IsSpot, AreSpots, AreRegisters, AllSpotsDiffer, AreTargets}
use Rattle.rv32_select.specs.Writable.{HasPlace, HavePlaces, OperandPlaced, OperandsPlaced, TestsPlaced, TargetsPlaced, CallPlaced, Placed, ArmsPlaced, ProcedurePlaced, Writable, CanWrite}

triple_prop : {A B C : Type 0} → IsProp A → IsProp B → IsProp C → IsProp (A × B × C)
triple_prop p q r x y i = (p x.0 y.0 i, q x.1 y.1 i, r x.2 y.2 i)

same_numbers : (n m : ℕ) → IsProp (n ≡ m)
same_numbers n m = Prim.hlevel props

IsSpot-prop : (s : Spot) → IsProp (IsSpot s)
IsSpot-prop s = Prim.hlevel props

AreSpots-prop : (ss : List Spot) → IsProp (AreSpots ss)
AreSpots-prop [] = Unit-prop
AreSpots-prop (s ∷ ss) = ×_prop (IsSpot-prop s) (AreSpots-prop ss)

AllSpotsDiffer-prop : (ss : List Spot) → IsProp (AllSpotsDiffer ss)
AllSpotsDiffer-prop [] = Unit-prop
AllSpotsDiffer-prop (s ∷ ss) = ×_prop (Prim.hlevel props) (AllSpotsDiffer-prop ss)

AreRegisters-prop : (rs : List ℕ) → IsProp (AreRegisters rs)
AreRegisters-prop [] = Unit-prop
AreRegisters-prop (r ∷ rs) = ×_prop le_prop (AreRegisters-prop rs)

pub AreTargets-prop : (to : List Spot) → IsProp (AreTargets to)
AreTargets-prop to x y i = record {
  spots = AreSpots-prop to x.spots y.spots i;
  different = AllSpotsDiffer-prop to x.different y.different i;
}

module _ (l : Program) (a : Assignment) where
  HasPlace-prop : (x : ℕ) → IsProp (HasPlace l a x)
  HasPlace-prop x = ×_prop le_prop (IsSpot-prop _)

  HavePlaces-prop : (xs : List ℕ) → IsProp (HavePlaces l a xs)
  HavePlaces-prop [] = Unit-prop
  HavePlaces-prop (x ∷ xs) = ×_prop (HasPlace-prop x) (HavePlaces-prop xs)

  OperandPlaced-prop : (b : Operand) → IsProp (OperandPlaced l a b)
  OperandPlaced-prop (Var x) = HasPlace-prop x
  OperandPlaced-prop (Num k) = Unit-prop
  OperandPlaced-prop (Cell i) = Unit-prop

  OperandsPlaced-prop : (bs : List Operand) → IsProp (OperandsPlaced l a bs)
  OperandsPlaced-prop [] = Unit-prop
  OperandsPlaced-prop (b ∷ bs) = ×_prop (OperandPlaced-prop b) (OperandsPlaced-prop bs)

  TestsPlaced-prop : (ts : List LowTest) → IsProp (TestsPlaced l a ts)
  TestsPlaced-prop [] = Unit-prop
  TestsPlaced-prop (t ∷ ts) = ×_prop (OperandPlaced-prop t.left) (TestsPlaced-prop ts)

  TargetsPlaced-prop : (xs : List ℕ) → IsProp (TargetsPlaced l a xs)
  TargetsPlaced-prop xs = ×_prop (HavePlaces-prop xs) (AllSpotsDiffer-prop _)

  CallPlaced-prop : (f site : ℕ) (bs : List Operand) (xs : List ℕ)
      → IsProp (CallPlaced l a f site bs xs)
  CallPlaced-prop f site bs xs =
      λ x y i. (
        le_prop x.0 y.0 i,
        le_prop x.1 y.1 i,
        AreRegisters-prop _ x.2 y.2 i,
        le_prop x.3 y.3 i,
        OperandsPlaced-prop bs x.4 y.4 i,
        TargetsPlaced-prop xs x.5 y.5 i,
      )

  mutual
    Placed-prop : (c : Code) → IsProp (Placed l a c)
    Placed-prop (set x b c) =
        triple_prop (HasPlace-prop x) (OperandPlaced-prop b) (Placed-prop c)
    Placed-prop (prim f x b d c) =
        λ y z i. (
          HasPlace-prop x y.0 z.0 i,
          OperandPlaced-prop b y.1 z.1 i,
          OperandPlaced-prop d y.2 z.2 i,
          Placed-prop c y.3 z.3 i,
        )
    Placed-prop (load x b k c) =
        triple_prop (HasPlace-prop x) (OperandPlaced-prop b) (Placed-prop c)
    Placed-prop (save b k d c) =
        triple_prop (OperandPlaced-prop b) (OperandPlaced-prop d) (Placed-prop c)
    Placed-prop (take xs c) = triple_prop (HavePlaces-prop xs) le_prop (Placed-prop c)
    Placed-prop (put b c) = ×_prop (OperandPlaced-prop b) (Placed-prop c)
    Placed-prop (get x c) = ×_prop (HasPlace-prop x) (Placed-prop c)
    Placed-prop (call f site bs xs c) = ×_prop (CallPlaced-prop f site bs xs) (Placed-prop c)
    Placed-prop (join xs b c) =
        triple_prop (TargetsPlaced-prop xs) (Placed-prop b) (Placed-prop c)
    Placed-prop (give bs) = OperandsPlaced-prop bs
    Placed-prop (tail f site bs) = triple_prop le_prop le_prop (OperandsPlaced-prop bs)
    Placed-prop (choose ts) = ArmsPlaced-prop ts
    Placed-prop fail = Unit-prop

    ArmsPlaced-prop : (ts : Arms) → IsProp (ArmsPlaced l a ts)
    ArmsPlaced-prop (otherwise c) = Placed-prop c
    ArmsPlaced-prop (arm ts c others) =
        triple_prop (TestsPlaced-prop ts) (Placed-prop c) (ArmsPlaced-prop others)

  ProcedurePlaced-prop : (q : Procedure) → IsProp (ProcedurePlaced l a q)
  ProcedurePlaced-prop q x y i = record {
    few_params = le_prop x.few_params y.few_params i;
    few_results = le_prop x.few_results y.few_results i;
    params = HavePlaces-prop _ x.params y.params i;
    bound = HavePlaces-prop _ x.bound y.bound i;
    slots = le_prop x.slots y.slots i;
    arguments = AreTargets-prop _ x.arguments y.arguments i;
    body = Placed-prop q.body x.body y.body i;
  }

  Writable-prop : IsProp (Writable l a)
  Writable-prop x y i = record {
    width = ×_prop le_prop le_prop x.width y.width i;
    procedures = λ f q e. ProcedurePlaced-prop q (x.procedures f q e) (y.procedures f q e) i;
    few_procedures = le_prop x.few_procedures y.few_procedures i;
    frames = same_numbers _ _ x.frames y.frames i;
    masks = same_numbers _ _ x.masks y.masks i;
    words = λ f. le_prop (x.words f) (y.words f) i;
    start = le_prop x.start y.start i;
  }

  pub CanWrite-prop : (cells : ℕ) → IsProp (CanWrite l a cells)
  CanWrite-prop cells = ×_prop Writable-prop le_prop
