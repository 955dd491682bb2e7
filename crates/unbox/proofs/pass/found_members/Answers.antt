use Rattle.points_to.specs.Found.{found}
use Rattle.unbox.proofs.Joined.{greatest_of}
use Rattle.unbox.proofs.pass.found_members.Goals as goal

pub returns : goal.returns
returns c = greatest_of (found c.args.flow.now) c.args.g.now _ _ _ _ _ c.as_slice-procs.ensures
    c.in_ok-ties.ensures c.as_slice.ensures c.len.ensures c.in_ok-members.ensures
