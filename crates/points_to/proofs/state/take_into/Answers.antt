use Rattle.std.proofs.Common.{subst, ⊎_elim}
use Rattle.points_to.specs.Held.{In}
use Rattle.seq.proofs.Member.{none_in}
use Rattle.points_to.proofs.state.take_into.Goals as goal

pub returns : goal.returns
returns c = λ u h. ⊎_elim (λ a. none_in (subst (In u) c.clear.ensures a)) (λ b. b)
    (c.in_ok-put_fresh.ensures u h)
