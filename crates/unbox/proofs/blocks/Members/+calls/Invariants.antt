use Rattle.std.proofs.Common.{false, take}
use Rattle.unbox_theory.specs.Ends.{is_member}
use Rattle.unbox.proofs.SoFar.{CallsFound}
use Rattle.unbox.proofs.blocks.Members.+calls.Given as goal

abbrev pub invariant-alts_call-loop-alt : goal.invariant-alts_call-loop-alt
invariant-alts_call-loop-alt l = CallsFound (is_member l.self.inside) false l.found
    (take l.alt-index l.alts)
