use Rattle.std.proofs.Common.{sym, subst, ◌∙◌}
use Rattle.std.specs.List.Sorted.{IsStrictlyIncreasing}
use Rattle.std.proofs.lemmas.List.Filters.{dedup_is}
use Rattle.std.proofs.lemmas.Map.Keys.{IsStrictlyIncreasing-dedup}
use Rattle.points_to.specs.Wanted.{SameSet}
use Rattle.points_to.proofs.Read.{sorted_same}
use Rattle.points_to.proofs.tables.ascending.Goals as goal

pub returns-clause-ascending : goal.returns-clause-ascending
returns-clause-ascending c =
    let is = c.from_vec.ensures ∙ dedup_is _ _ _ c.dedup.ensures.filtered in
    subst IsStrictlyIncreasing (sym is)
    (IsStrictlyIncreasing-dedup _ c.sort_unstable.ensures.sorted)

pub returns-clause-same : goal.returns-clause-same
returns-clause-same c =
    let is = c.from_vec.ensures ∙ dedup_is _ _ _ c.dedup.ensures.filtered in
    subst (λ ns. SameSet c.from_vec.result ns) c.into_vec-listed.ensures
    (subst (λ l. SameSet l c.into_vec-listed.result.items) (sym is)
    (sorted_same _ _ c.sort_unstable.ensures.permutation))
