use Rattle.std.proofs.Common.{◌≡◌, map}
use Rattle.std.specs.Prelude.{All}
use Rattle.core_link.specs.Renaming.{AreNameTexts}
use Rattle.core_link.proofs.join.all_named.Given as goal

abbrev pub invariant-loop-module : goal.invariant-loop-module
invariant-loop-module l = record
    { modules : map (λ n. n.part) l.all.items ≡ l.yielded; texts : All AreNameTexts l.all.items }
