use Rattle.std.proofs.Common.{map}
use Rattle.std.specs.List.{flat_map}
use Rattle.points_to.specs.Found.{known}
use Rattle.points_to.specs.Rows.{words_in}
use Rattle.points_to.specs.Wanted.{SameSet, site_in}
use Rattle.points_to.proofs.PartWords.{sites_exact}
use Rattle.points_to.proofs.Sets.{if_ok}
use Rattle.points_to.proofs.flow.Flow.sites_in.Goals as goal

pub returns-clause-exact : goal.returns-clause-exact
returns-clause-exact c =
    let us = words_in c.in_ok-set.set in
    if_ok c.sites_of_set.result (λ ss. SameSet (map (λ s. s.0) ss) (flat_map site_in us)) _
    (λ ss m. sites_exact (known c.args.self.now) c.args.place c.args.part us c.in_ok-set.ensures
    (map (λ s. s.0) ss) m)
    c.sites_of_set.ensures.same
