use Rattle.std.proofs.Common.{◌≡◌, ℕ, drop, map}
use Rattle.std.specs.Ordering.{nat_cmp}
use Rattle.std.specs.BTreeMap.{get}
use Rattle.core_reader.specs.Tree.{data_of}
use Rattle.match_compile.specs.Rules.{fields_in}
use Rattle.match_compile.proofs.Tables.{or_else}
use Rattle.match_compile.proofs.rules.fields_of.Given as goal

abbrev pub invariant-loop-constructor : goal.invariant-loop-constructor
invariant-loop-constructor l = (x : ℕ) → or_else (get nat_cmp l.fields x)
    (fields_in (map data_of (drop l.constructor-index l.constructors)) x) ≡ fields_in
    (map data_of l.constructors) x
