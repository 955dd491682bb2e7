use Rattle.std.proofs.Common.{length}
use Rattle.case_simplify.proofs.known.+note_copies.Given as goal

abbrev pub decreases-note_copies : goal.decreases-note_copies
decreases-note_copies l = length l.vars.now
