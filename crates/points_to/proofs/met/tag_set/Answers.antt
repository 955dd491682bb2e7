use Rattle.std.proofs.Common.{[], ◌∷◌, subst}
use Rattle.std.specs.List.{flat_map}
use Rattle.points_to.specs.Rows.{numbers_in, GainsMembers, SameMembers}
use Rattle.points_to.proofs.Gets.{gets_next, gets_done, gets_from_none}
use Rattle.points_to.proofs.TagsInCells.{flat_ones}
use Rattle.points_to.proofs.met.tag_set.Goals as goal

pub loop-tag-preserved : goal.loop-tag-preserved
loop-tag-preserved c = gets_next (λ t. t.0 ∷ []) c.args.tags.now c.loop-tag.tag-index []
    (numbers_in c.loop-tag.set) (record { 0 = 0 }) (numbers_in c.add_new.new.self)
    c.loop-tag-test.true c.loop-tag.invariant
    (subst (GainsMembers (numbers_in c.loop-tag.set) (numbers_in c.add_new.new.self))
    c.number_block.ensures c.in_ok-add_new.ensures.gets)

pub returns : goal.returns
returns c =
    let set = numbers_in c.loop-tag.set in
    let tags = c.args.tags.now in
    subst (SameMembers set) (flat_ones (λ t. t.0) tags)
    (gets_from_none set (flat_map (λ t. t.0 ∷ []) tags)
    (gets_done (λ t. t.0 ∷ []) tags c.loop-tag.tag-index [] set c.loop-tag-test.false
    c.loop-tag.invariant))
