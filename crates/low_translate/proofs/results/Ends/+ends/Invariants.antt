use Rattle.low_translate.proofs.LastOps.{SoFar}
use Rattle.low_translate.proofs.results.Ends.+ends.Given as goal

abbrev pub invariant-alts-loop-alt : goal.invariant-alts-loop-alt
invariant-alts-loop-alt l = SoFar l.initial.self.node l.self.node l.initial.self.calls.items
    l.self.calls.items l.widest l.alts l.alt-index
