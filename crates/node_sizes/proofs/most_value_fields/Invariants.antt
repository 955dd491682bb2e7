use Rattle.std.proofs.Common.{◌≡◌, drop, max}
use Rattle.grin_meaning.specs.Ready.{most_value_fields}
use Rattle.node_sizes.proofs.most_value_fields.Given as goal

abbrev pub invariant-loop-tag : goal.invariant-loop-tag
invariant-loop-tag l = max l.most (most_value_fields (drop l.tag-index l.tags)) ≡ most_value_fields
    l.tags
