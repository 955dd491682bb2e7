use Rattle.std.proofs.Common.{◌≡◌, ◌++◌, drop, map}
use Rattle.low_code.specs.Tree.{program_of}
use Rattle.register_alloc.specs.Assignment.{place_of}
use Rattle.rv32_select.specs.Writable.{HavePlaces}
use Rattle.rv32_select.proofs.context.Context.spots.Given as goal

abbrev pub invariant-loop-x : goal.invariant-loop-x
invariant-loop-x l = record {
  made : l.spots.items ++ map (place_of l.self.places.now) (drop l.x-index l.variables) ≡ map
      (place_of l.self.places.now) l.variables;
  placed : HavePlaces (program_of l.self.low.now) l.self.places.now (drop l.x-index l.variables);
}
