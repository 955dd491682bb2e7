use Rattle.points_to.proofs.Read.{put_joins}
use Rattle.arity_raise.proofs.updated.put_site.Goals as goal

pub returns : goal.returns
returns c = put_joins c.args.sites.now.keys c.insert.new.self.keys c.args.site.0
    c.in_ok-insert.ensures.keys
