use Rattle.std.proofs.Common.{◌≡◌, take}
use Rattle.low_translate.specs.Translation.{variables_of}
use Rattle.low_translate.proofs.blocks.as_operands.Given as goal

abbrev pub invariant-loop-x : goal.invariant-loop-x
invariant-loop-x l = l.made ≡ variables_of (take l.x-index l.vars)
