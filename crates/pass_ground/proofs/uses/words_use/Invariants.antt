use Rattle.std.proofs.Common.{◌≡◌, take}
use Rattle.pass_ground.specs.Uses.{words_use}
use Rattle.pass_ground.proofs.uses.words_use.Given as goal

abbrev pub invariant-loop-word : goal.invariant-loop-word
invariant-loop-word l = l.used ≡ words_use l.x.0 (take l.word-index l.words)
