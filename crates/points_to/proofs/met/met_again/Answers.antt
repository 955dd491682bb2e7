use Rattle.std.proofs.Common.{◌≡◌, ◌<◌, length, map, refl, subst, sym}
use Rattle.std.specs.List.{flat_map}
use Rattle.points_to.specs.Met.{IsSortedSetOf}
use Rattle.points_to.specs.Stored.{sets_at}
use Rattle.points_to.proofs.TagsInCells.{met_earlier}
use Rattle.points_to.proofs.Sets.{if_ok}
use Rattle.points_to.proofs.met.met_again.Goals as goal

pub returns-then-same_sites : goal.returns-then-same_sites
returns-then-same_sites c =
    let below : c.args.earlier < length c.args.table.now
    = subst (λ n. c.args.earlier < n) c.len.ensures c.if-earlier-len.true in
    let ms = flat_map (sets_at c.args.sets.now) (map (λ s. s.0) c.args.sites.now) in
    if_ok c.from_slice.result (λ ts. ts ≡ c.tag_entry.result.now)
    (λ ts. IsSortedSetOf ms (map (λ t. t.0) ts))
    (λ ts e. subst (λ ts. IsSortedSetOf ms (map (λ t. t.0) ts)) (sym e)
    (met_earlier (sets_at c.args.sets.now) c.args.var_sites.now c.args.table.now c.args.earlier
    (map (λ s. s.0) c.args.sites.now) _ _ c.requires below (c.if-same_sites.ensures refl)
    c.site_entry.ensures c.tag_entry.ensures))
    c.from_slice.ensures
