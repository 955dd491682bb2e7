use Rattle.std.proofs.Common.{◌≡◌, take}
use Rattle.grin_syntax.specs.Binders.{numbers_of}
use Rattle.low_translate.proofs.blocks.numbers_of.Given as goal

abbrev pub invariant-loop-x : goal.invariant-loop-x
invariant-loop-x l = l.made ≡ numbers_of (take l.x-index l.vars)
