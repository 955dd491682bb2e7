use Rattle.std.proofs.Common.{◌≡◌, length, map, take}
use Rattle.core_reader.specs.Tree.{data_of, function}
use Rattle.core_link.specs.declared.naming.Named.{Named}
use Rattle.core_link.specs.ModuleOf.{module_of}
use Rattle.core_link.specs.Renaming.{numbers_of, joined_constructors, joined_functions}
use Rattle.core_link.proofs.join.all_declared.Given as goal

abbrev pub invariant-loop-named : goal.invariant-loop-named
invariant-loop-named l = record {
  at : l.at ≡ length l.yielded;
  constructors : map data_of l.declared.constructors ≡ joined_constructors
      (map (λ (n : Named). module_of n.part) l.yielded) (map numbers_of (take l.at l.renamings));
  functions : map function l.declared.functions ≡ joined_functions
      (map (λ (n : Named). module_of n.part) l.yielded) (map numbers_of (take l.at l.renamings));
}
