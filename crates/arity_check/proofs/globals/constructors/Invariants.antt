use Rattle.std.proofs.Common.{◌≡◌, ℕ, drop, map}
use Rattle.std.specs.Ordering.{nat_cmp}
use Rattle.std.specs.BTreeMap.{get}
use Rattle.core_reader.specs.Tree.{data_of}
use Rattle.arity_check.specs.Whole.{constructor_at}
use Rattle.arity_check.specs.Tables.{or_else}
use Rattle.arity_check.proofs.globals.constructors.Given as goal

abbrev pub invariant-loop-i : goal.invariant-loop-i
invariant-loop-i l = (x : ℕ) → or_else (get nat_cmp l.table x)
    (constructor_at (map data_of (drop l.i l.constructors)) l.i x) ≡ constructor_at
    (map data_of l.constructors) 0 x
