use Rattle.flow_listing.proofs.OneText.{one_text}
use Rattle.flow_listing.proofs.laws.listing_is_unique.Goals as goal

pub returns : goal.returns
returns c = one_text
