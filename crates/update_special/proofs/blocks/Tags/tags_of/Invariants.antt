use Rattle.std.proofs.Common.{◌≡◌, map, take, filter}
use Rattle.points_to.specs.Found.{found}
use Rattle.update_special.proofs.Listed.{is_met}
use Rattle.update_special.proofs.blocks.Tags.tags_of.Given as goal

abbrev pub invariant-loop-tag : goal.invariant-loop-tag
invariant-loop-tag l = map (λ t. t.0) l.made ≡ filter
    (is_met l.self.count (found l.self.flow.now) l.var.0)
    (map (λ t. t.0) (take l.tag-index l.tag-items))
