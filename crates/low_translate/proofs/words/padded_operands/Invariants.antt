use Rattle.std.proofs.Common.{◌≡◌}
use Rattle.low_translate.specs.Translation.{padded_to_width}
use Rattle.low_translate.proofs.words.padded_operands.Given as goal

abbrev pub invariant-loop-i : goal.invariant-loop-i
invariant-loop-i l = l.made ≡ padded_to_width l.i l.words
