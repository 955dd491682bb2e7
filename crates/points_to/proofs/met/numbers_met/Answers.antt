use Rattle.std.proofs.Common.{[], subst}
use Rattle.std.specs.List.{flat_map}
use Rattle.points_to.specs.Rows.{numbers_in, GainsMembers, SameMembers}
use Rattle.points_to.specs.Stored.{sets_at}
use Rattle.points_to.proofs.Gets.{gets_next, gets_done, gets_from_none}
use Rattle.points_to.proofs.TagsInCells.{flat_numbers}
use Rattle.points_to.proofs.met.numbers_met.Goals as goal

pub loop-site-preserved : goal.loop-site-preserved
loop-site-preserved c = gets_next (λ s. sets_at c.args.sets.now s.0) c.args.sites.now
    c.loop-site.site-index [] (numbers_in c.loop-site.met) (record { 0 = 0 })
    (numbers_in c.put_all.new.met) c.loop-site-test.true c.loop-site.invariant
    (subst (GainsMembers (numbers_in c.loop-site.met) (numbers_in c.put_all.new.met))
    c.blocks_at.ensures c.in_ok-put_all.ensures)

pub returns : goal.returns
returns c =
    let met = numbers_in c.loop-site.met in
    let sites = c.args.sites.now in
    let at = sets_at c.args.sets.now in
    subst (SameMembers met) (flat_numbers (λ s. s.0) at sites)
    (gets_from_none met (flat_map (λ s. at s.0) sites)
    (gets_done (λ s. at s.0) sites c.loop-site.site-index [] met c.loop-site-test.false
    c.loop-site.invariant))
