use Rattle.std.proofs.Common.{length}
use Rattle.points_to.proofs.hints.Hints.new_words.Given as goal

abbrev pub decreases-words : goal.decreases-words
decreases-words l = length l.left
