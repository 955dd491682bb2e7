use Rattle.unbox.proofs.Sweeping.{first_round, next_round, last_round, rounds_end}
use Rattle.unbox.proofs.members.members.Goals as goal

pub rounds-init : goal.rounds-init
rounds-init c = first_round _ _ _ c.in_ok-members.ensures

pub rounds-preserved : goal.rounds-preserved
rounds-preserved c = next_round _ _ _ _ _ _ c.rounds.invariant c.round-more.ensures

pub rounds-smaller : goal.rounds-smaller
rounds-smaller c = rounds_end _ _ _ _ _ c.rounds-test.true c.round-more.ensures

pub returns : goal.returns
returns c = last_round _ _ _ _ c.rounds.invariant c.rounds-test.false
