use Rattle.grin_opt.proofs.Stays.{stays_out}
use Rattle.grin_opt.proofs.laws.what_is_out_stays_out.Goals as goal

pub returns : goal.returns
returns c = stays_out
