use Rattle.points_to.specs.Found.{found}
use Rattle.dead_store.specs.Holding.{set_holds}
use Rattle.dead_store.proofs.ReadLeaves.{other_stays}
use Rattle.dead_store.proofs.updates.ReadUpdatesRule.leaf.Goals as goal

pub returns-in_default : goal.returns-in_default
returns-in_default c = other_stays (found c.args.self.now.flow.now)
    (set_holds c.args.self.now.sites.now.keys) c.args.op c.requires c.in_default.not-Update
