use Rattle.std.proofs.Common.{map}
use Rattle.std.specs.List.{flat_map}
use Rattle.points_to.specs.Found.{known}
use Rattle.points_to.specs.Rows.{words_in}
use Rattle.points_to.specs.Wanted.{SameSet, tag_in}
use Rattle.points_to.proofs.PartWords.{tags_exact}
use Rattle.points_to.proofs.Sets.{if_ok}
use Rattle.points_to.proofs.flow.Flow.tags_in.Goals as goal

pub returns-clause-exact : goal.returns-clause-exact
returns-clause-exact c =
    let us = words_in c.in_ok-set.set in
    if_ok c.tags_of_set.result (λ ts. SameSet (map (λ t. t.0) ts) (flat_map tag_in us)) _
    (λ ts s. tags_exact (known c.args.self.now) c.args.place c.args.part us c.in_ok-set.ensures
    (map (λ t. t.0) ts) s)
    c.tags_of_set.ensures.same
