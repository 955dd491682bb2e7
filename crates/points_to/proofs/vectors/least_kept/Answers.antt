use Rattle.flow_system.specs.Shown.{tables_of, inclusions_of}
use Rattle.points_to.proofs.Whole.{least_of_kept}
use Rattle.points_to.proofs.vectors.least_kept.Goals as goal

pub returns-then-not-branch : goal.returns-then-not-branch
returns-then-not-branch c =
    least_of_kept (tables_of c.args.system.now) (inclusions_of c.args.system.now) c.round.new.kept
    (c.in_ok-round.ensures.sound c.rounds.invariant)
    (c.in_ok-round.ensures.done c.rounds.invariant c.if-not-branch.true)
