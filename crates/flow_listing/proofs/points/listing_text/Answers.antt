use Rattle.std.proofs.Common.{◌∙◌}
use Rattle.points_to.specs.Found.{found}
use Rattle.flow_listing.proofs.Named.{points_put}
use Rattle.flow_listing.proofs.points.listing_text.Goals as goal

pub returns : goal.returns
returns c = c.into_vec.ensures ∙ points_put c.args.g.now (found c.args.flow.now) _ _ _ _
    c.in_ok-names.ensures c.new-text.ensures c.in_ok-put_globals.ensures c.in_ok-put_procs.ensures
