-- Literals that are words: numbers below 2^32.
use Rattle.std.specs.Prelude.{ℕ, ◌^◌, ◌<◌, List, [], ◌∷◌}
use Rattle.low_code.specs.declared.program.Operand.{Operand}
use Rattle.low_code.specs.declared.program.Operand.TheVariants.{Var, Num, Cell}
use Rattle.low_code.specs.declared.program.LowTest.{LowTest}
use Rattle.low_code.specs.Tree.{Code, set, prim, load, save, take, put, get, call, join, give, tail, choose, fail, Arms, otherwise, arm, Procedure, Program}

abbrev pub IsSmall : Operand → Type 0
IsSmall (Var x) = Unit {0}
IsSmall (Num k) = k < 2 ^ 32
IsSmall (Cell i) = Unit {0}

abbrev pub AreSmall : List Operand → Type 0
AreSmall [] = Unit {0}
AreSmall (o ∷ os) = IsSmall o × AreSmall os

abbrev pub TestsSmall : List LowTest → Type 0
TestsSmall [] = Unit {0}
TestsSmall (t ∷ ts) = (IsSmall t.left × (t.right < 2 ^ 32)) × TestsSmall ts

abbrev pub TagsSmall : List ℕ → Type 0
TagsSmall [] = Unit {0}
TagsSmall (t ∷ ts) = (t < 2 ^ 32) × TagsSmall ts

abbrev mutual
  -- a block of which each literal is a word
  pub Small : Code → Type 0
  Small (set x o c) = IsSmall o × Small c
  Small (prim f x o u c) = IsSmall o × IsSmall u × Small c
  Small (load x o k c) = IsSmall o × Small c
  Small (save o k u c) = IsSmall o × IsSmall u × Small c
  Small (take xs c) = Small c
  Small (put o c) = IsSmall o × Small c
  Small (get x c) = Small c
  Small (call f site os xs c) = AreSmall os × Small c
  Small (join xs b c) = Small b × Small c
  Small (give os) = AreSmall os
  Small (tail f site os) = AreSmall os
  Small (choose as') = ArmsSmall as'
  Small fail = Unit {0}

  pub ArmsSmall : Arms → Type 0
  ArmsSmall (otherwise c) = Small c
  ArmsSmall (arm ts c as') = TestsSmall ts × Small c × ArmsSmall as'

abbrev pub AllSmall : List Procedure → Type 0
AllSmall [] = Unit {0}
AllSmall (q ∷ qs) = Small q.body × AllSmall qs

-- every literal of a program, number of a test and tag of a global is a word
pub record LiteralsAreWords (p : Program) : Type 0 where
  pub procedures : AllSmall p.procs
  pub tags : TagsSmall p.globals
