use Rattle.std.proofs.Common.{[], ◌∷◌, take}
use Rattle.std.specs.List.{flat_map}
use Rattle.points_to.specs.Rows.{numbers_in, GainsMembers}
use Rattle.points_to.proofs.met.tag_set.Given as goal

abbrev pub invariant-loop-tag : goal.invariant-loop-tag
invariant-loop-tag l = GainsMembers [] (numbers_in l.set)
    (flat_map (λ t. t.0 ∷ []) (take l.tag-index l.tags))
