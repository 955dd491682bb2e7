use Rattle.std.proofs.Common.{◌++◌, map}
use Rattle.std.specs.List.{flat_map}
use Rattle.std.specs.List.Sorted.{IsStrictlyIncreasing}
use Rattle.flow_system.specs.declared.fact.Place.TheVariants.{Site as site}
use Rattle.flow_system.specs.Shown.{tables_of, inclusions_of}
use Rattle.points_to.specs.declared.wanted.Wanted.TheVariants.{NodeTags}
use Rattle.points_to.specs.Known.{held}
use Rattle.points_to.specs.Rows.{words_in}
use Rattle.points_to.specs.Stored.{values_in, stored_at, stored_nodes}
use Rattle.points_to.specs.Wanted.{Lists, SameSet, tag_in}
use Rattle.points_to.proofs.Sets.{if_both}
use Rattle.points_to.proofs.SiteTags.{site_lists}
use Rattle.points_to.proofs.stored_tags.tags_at.Goals as goal

pub returns : goal.returns
returns c =
    let p = tables_of c.args.system.now in
    let vs = values_in (inclusions_of c.args.system.now) in
    let H = held c.args.facts.now in
    let ns = stored_at c.args.stored.now c.args.s in
    let X = H (site c.args.s) in
    let words = words_in c.in_ok-words.words in
    if_both c.tags_of_set.result
    (λ ts. IsStrictlyIncreasing (map (λ t. t.0) ts))
    (λ ts. SameSet (map (λ t. t.0) ts) (flat_map tag_in words))
    (λ ts. Lists NodeTags (X ++ stored_nodes p vs H ns) (map (λ t. t.0) ts))
    (λ ts o s. site_lists p vs H X ns words (map (λ t. t.0) ts) c.in_ok-words.ensures o s)
    c.tags_of_set.ensures.ascending c.tags_of_set.ensures.same
