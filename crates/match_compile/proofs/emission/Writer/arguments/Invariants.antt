use Rattle.std.proofs.Common.{◌≡◌, map, take}
use Rattle.core_reader.specs.Tree.{term}
use Rattle.match_compile.specs.EmissionOf.{named}
use Rattle.match_compile.proofs.emission.Writer.arguments.Given as goal

abbrev pub invariant-loop-binder : goal.invariant-loop-binder
invariant-loop-binder l = map term l.made ≡ map (named l.self.at) (take l.binder-index l.binders)
