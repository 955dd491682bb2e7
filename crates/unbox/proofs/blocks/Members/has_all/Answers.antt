use Rattle.unbox_theory.specs.Ends.{is_member}
use Rattle.unbox.proofs.Sweeping.{all_in_next, all_in_done}
use Rattle.unbox.proofs.blocks.Members.has_all.Goals as goal

pub loop-f-preserved : goal.loop-f-preserved
loop-f-preserved c = all_in_next (is_member c.args.self.now.inside) _ _ _ _ _ _ c.loop-f-test.true
    c.has.ensures c.both-all.ensures c.loop-f.invariant

pub returns : goal.returns
returns c = all_in_done (is_member c.args.self.now.inside) _ _ _ c.loop-f-test.false
    c.loop-f.invariant
