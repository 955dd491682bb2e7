use Rattle.std.proofs.Common.{◌+◌, ◌∙◌, length, ap, map, slice_get, sym, subst, arith}
use Rattle.std.specs.List.{flat_map}
use Rattle.points_to.specs.Met.{IsSortedSetOf, IsPartialTagTable, tags_at}
use Rattle.points_to.specs.Stored.{sets_at}
use Rattle.points_to.specs.Wanted.{numbers_by}
use Rattle.points_to.proofs.Read.{longer}
use Rattle.points_to.proofs.TagsInCells.{met_more, met_done, ascends_like, flat_like}
use Rattle.points_to.proofs.met.variable_tag_table.Goals as goal

pub met_again-requires : goal.met_again-requires
met_again-requires c = subst
    (λ xs. IsPartialTagTable (sets_at xs) c.args.var_sites.now c.loop-n.table)
    (sym c.as_slice.ensures.value) c.loop-n.invariant.met

pub loop-n-preserved : goal.loop-n-preserved
loop-n-preserved c =
    let at = sets_at c.in_ok-sets.sets.items in
    let sites = c.args.var_sites.now in
    let ts = c.in_ok-tags.tags in
    record {
      many = ap length c.in_ok-push.ensures.ok ∙ longer (λ t. t.0) c.loop-n.table ts ∙ ap
          (λ m. m + 1) c.loop-n.invariant.many;
      met = subst (IsPartialTagTable at sites) (sym c.in_ok-push.ensures.ok)
          (met_more at sites c.loop-n.table c.loop-n.n _ ts c.loop-n.invariant.met
          c.loop-n.invariant.many c.site_entry-sites.ensures
          (subst (λ xs. IsSortedSetOf
          (flat_map (sets_at xs) (map (λ s. s.0) c.site_entry-sites.result.now))
          (map (λ t. t.0) ts)) c.as_slice.ensures.value c.in_ok-tags.ensures));
    }

pub returns : goal.returns
returns c = λ n.
    let at = sets_at c.in_ok-sets.sets.items in
    let tags = tags_at c.args.site_tags.now in
    let ss = numbers_by (λ s. s.0) (slice_get c.args.var_sites.now n) in
    ascends_like (flat_map at ss) (flat_map tags ss)
    (numbers_by (λ t. t.0) (slice_get c.loop-n.table n))
    (flat_like at tags c.in_ok-sets.ensures ss)
    (met_done at c.args.var_sites.now c.loop-n.table c.loop-n.n c.loop-n.invariant.met
    c.loop-n.invariant.many (omega arith) n)
