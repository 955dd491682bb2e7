use Rattle.std.proofs.Common.{ap, sym, ◌∙◌}
use Rattle.std.specs.List.{flat_map}
use Rattle.points_to.specs.Bits.{block_numbers}
use Rattle.points_to.proofs.VectorLoops.{pairs_same}
use Rattle.points_to.proofs.vectors.CachedWords.is_of.Goals as goal

pub returns-clause-numbers : goal.returns-clause-numbers
returns-clause-numbers c = λ t.
    let F = flat_map block_numbers in
    let own = c.as_slice-own.result.now in
    let others = c.as_slice-others.result.now in
    sym (ap F c.as_slice-own.ensures.value) ∙ ap F
    (pairs_same own others (c.same_blocks.ensures.numbers t) (c.same_blocks.ensures.bits t)) ∙
    ap F c.as_slice-others.ensures.value
