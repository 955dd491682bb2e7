use Rattle.std.proofs.Common.{◌≡◌, take, Some}
use Rattle.copy_prop.specs.Copies.{zipped_aliases}
use Rattle.copy_prop.proofs.copies.zipped_aliases.Given as goal

abbrev pub invariant-loop-at : goal.invariant-loop-at
invariant-loop-at l = zipped_aliases (take l.at l.vars) (take l.at l.words) ≡ Some l.made
