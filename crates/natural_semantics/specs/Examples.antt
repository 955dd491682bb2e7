-- Small programs, derived by the rules of the relation.
use Rattle.std.specs.Prelude.{◌≡◌, ◌≢◌, ℕ, List, [], ◌∷◌, codes, pos, Some, slice_get}
use Rattle.arity_check.specs.declared.normal.Flat.TheVariants as flat
use Rattle.arity_check.specs.declared.normal.PrimOp.{PrimOp}
use Rattle.arity_check.specs.declared.normal.PrimOp.TheVariants.{Add}
use Rattle.arity_check.specs.declared.normal.Var.TheVariants as var
use Rattle.arity_check.specs.Program.{Program, App, Let}
use Rattle.core_meaning.specs.Examples.{list_program, fun, set, take_three, shared}
use Rattle.core_meaning.specs.Heap.{Value, Int, Con, Prim, Known, Waiting}
use Rattle.core_meaning.specs.Printing.{PrintingEnd, Done, Going}
use Rattle.natural_semantics.specs.World.{World, updated}
use Rattle.natural_semantics.specs.Natural.{Forces}
use Rattle.natural_semantics.specs.Stuck.{ForceSticks}
use Rattle.natural_semantics.specs.Prints.{first_world, ProgramPrints}

-- main = let y = 1; x = add x y in x;
abbrev pub needs_itself : Program
needs_itself = list_program
    (fun (codes "main") 0
    (Let (set 0 (flat.Int (pos 1)) ∷ (set 1 (flat.Prim Add (var.Local 1) (var.Local 0)) ∷ []))
    (App (flat.Apply (var.Local 1) [])))
    ∷ []) 0

-- A name that waits for an operation on itself has no value, whatever the program and its other
-- names are, and nothing is met that nothing accepts. So a program that needs such a name has no
-- end.
pub record SelfDemandHasNoDerivation : Type 0 where
  pub no_value : (p : Program) (w w' : World) (op : PrimOp) (a b : ℕ) (v : Value)
      → slice_get w.heap a ≡ Some (Waiting (Prim op a b)) → Forces p w a v w' → ⊥
  pub not_stuck : (p : Program) (w : World) (op : PrimOp) (a b : ℕ)
      → slice_get w.heap a ≡ Some (Waiting (Prim op a b)) → ForceSticks p w a → ⊥
  pub no_end : (i out : List ℕ) (end : PrintingEnd) → end ≢ Going
      → ProgramPrints needs_itself i out end → ⊥

-- The world in which the list of `twice (add 32 33)` has a value: its two elements are the name 3,
-- which waits for a sum. Behind the first demand this name has a number.
abbrev pub listed : World
listed = record {
  heap =
      Known (Con 1 (3 ∷ (5 ∷ []))) ∷ (Known (Int (pos 32)) ∷ (Known (Int (pos 33))
      ∷ (Waiting (Prim Add 1 2) ∷ (Known (Con 0 []) ∷ (Known (Con 1 (3 ∷ (4 ∷ []))) ∷ [])))));
  input = [];
}

abbrev pub summed : World
summed = updated listed 3 (Int (pos 65))

-- the sum is done at the first demand, and the second one changes nothing
pub record SumIsShared : Type 0 where
  pub list : Forces shared (first_world shared []) 0 (Con 1 (3 ∷ (5 ∷ []))) listed
  pub first_demand : Forces shared listed 3 (Int (pos 65)) summed
  pub tail : Forces shared summed 5 (Con 1 (3 ∷ (4 ∷ []))) summed
  pub second_demand : Forces shared summed 3 (Int (pos 65)) summed

pub record ExamplesAreDerived : Type 0 where
  -- three elements of an endless list
  pub take : ProgramPrints take_three [] (codes "ABC") Done
  pub twice : ProgramPrints shared [] (codes "AA") Done
  pub sum_is_shared : SumIsShared
  pub self_demand : SelfDemandHasNoDerivation
