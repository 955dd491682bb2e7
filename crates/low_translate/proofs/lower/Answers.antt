use Rattle.low_translate.proofs.Endings.{ends_of}
use Rattle.low_translate.proofs.Lowering.{lowered_lowers}
use Rattle.low_translate.proofs.LoweredFormed.{lowered_formed, lowered_small}
use Rattle.low_translate.proofs.lower.Goals as goal

pub translated-requires-clause-ends : goal.translated-requires-clause-ends
translated-requires-clause-ends c = ends_of c.args.g.now c.requires.formed c.requires.ready

pub returns-clause-formed : goal.returns-clause-formed
returns-clause-formed c = lowered_formed _ _ c.requires.formed c.requires.ready
    c.requires.vectorised c.in_ok-low.ensures

pub returns-clause-small : goal.returns-clause-small
returns-clause-small c = lowered_small _ _ c.requires.formed c.requires.ready c.requires.vectorised
    c.in_ok-low.ensures

pub returns-clause-lowers : goal.returns-clause-lowers
returns-clause-lowers c = lowered_lowers _ _ c.requires.formed c.requires.ready
    c.requires.vectorised c.in_ok-low.ensures
