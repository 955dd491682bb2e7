use Rattle.std.proofs.Common.{◌≡◌, map, take}
use Rattle.grin_syntax.specs.Tree.{arm_of, arms_of}
use Rattle.points_to.specs.Found.{found}
use Rattle.pass_narrow.specs.Narrow.{arms_fit}
use Rattle.pass_narrow.proofs.fit.+fits.Given as goal

abbrev pub invariant-alts_fit-loop-alt : goal.invariant-alts_fit-loop-alt
invariant-alts_fit-loop-alt l = l.fit ≡ arms_fit l.tags.count (found l.tags.flow.now) l.stays
    (arms_of (map arm_of (take l.alt-index l.alts)))
