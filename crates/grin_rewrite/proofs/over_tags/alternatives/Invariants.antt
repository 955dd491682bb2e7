use Rattle.std.proofs.Common.{◌≡◌, map, take}
use Rattle.grin_syntax.specs.Tree.{arm_of}
use Rattle.grin_rewrite.proofs.over_tags.alternatives.Given as goal

abbrev pub invariant-loop-tag : goal.invariant-loop-tag
invariant-loop-tag g l = map arm_of l.alts ≡ map (g.A.Alternative.at_tag l.of)
    (map (λ t. t.0) (take l.tag-index l.tag-items))
