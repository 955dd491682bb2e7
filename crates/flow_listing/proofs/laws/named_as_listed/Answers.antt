use Rattle.flow_listing.proofs.SameOrder.{named_as_listed}
use Rattle.flow_listing.proofs.laws.named_as_listed.Goals as goal

pub returns : goal.returns
returns c = named_as_listed
