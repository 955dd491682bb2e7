use Rattle.std.proofs.Common.{◌≡◌, map}
use Rattle.dead_store.specs.Holding.{set_holds}
use Rattle.dead_store.specs.Without.{without_word}
use Rattle.dead_store.proofs.blocks.DeadCellRemover.words.Given as goal

abbrev pub invariant-loop-word : goal.invariant-loop-word
invariant-loop-word l = l.made ≡ map (without_word (set_holds l.self.gone.now.keys)) l.yielded
