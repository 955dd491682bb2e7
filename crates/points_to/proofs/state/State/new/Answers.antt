use Rattle.points_to.proofs.StoredSound.{nothing_sound}
use Rattle.points_to.proofs.state.State.new.Goals as goal

pub returns : goal.returns
returns c = λ p cs. record {
  kept = nothing_sound p cs c.new.result c.new.ensures.facts c.new.ensures.stored;
  copies = c.new-2.ensures p cs;
}
