use Rattle.std.proofs.Common.{◌≡◌, drop, max}
use Rattle.grin_meaning.specs.Ready.{most_fields}
use Rattle.node_sizes.proofs.most_fields.Given as goal

abbrev pub invariant-loop-tag : goal.invariant-loop-tag
invariant-loop-tag l = max l.most (most_fields (drop l.tag-index l.tags)) ≡ most_fields l.tags
