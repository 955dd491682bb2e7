use Rattle.points_to.specs.Known.{held}
use Rattle.points_to.proofs.HeldFacts.{word_held}
use Rattle.points_to.proofs.satisfied.is_held.Goals as goal

pub returns : goal.returns
returns c = λ t. word_held (held c.args.facts.now) c.args.place c.args.part c.args.word
    (c.has.ensures.0 t)
