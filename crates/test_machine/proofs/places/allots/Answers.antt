use Rattle.std.proofs.Common.{arith}
use Rattle.low_code.specs.Tree.{program_of}
use Rattle.test_machine.proofs.Asked.{covered}
use Rattle.test_machine.proofs.places.allots.Goals as goal

pub spots_are-requires-clause-there : goal.spots_are-requires-clause-there
spots_are-requires-clause-there g c =
    let h = (covered (program_of c.args.low.now) c.in_ok-places.places _ _ c.requires.asked
    c.in_ok-places.ensures.fits).spots in let some = c.requires.some in omega (arith, h, some)

pub saved-requires : goal.saved-requires
saved-requires g c =
    (covered (program_of c.args.low.now) c.in_ok-places.places _ _ c.requires.asked
    c.in_ok-places.ensures.fits).saves

pub procedures_are-requires-clause-masks : goal.procedures_are-requires-clause-masks
procedures_are-requires-clause-masks g c =
    (covered (program_of c.args.low.now) c.in_ok-places.places _ _ c.requires.asked
    c.in_ok-places.ensures.fits).masks

pub procedures_are-requires-clause-frames : goal.procedures_are-requires-clause-frames
procedures_are-requires-clause-frames g c =
    (covered (program_of c.args.low.now) c.in_ok-places.places _ _ c.requires.asked
    c.in_ok-places.ensures.fits).frames
