use Rattle.std.proofs.Common.{arith}
use Rattle.match_compile.proofs.Knowing.{one_completes, all_complete}
use Rattle.match_compile.proofs.known.note_all.Goals as goal

pub loop-branch-preserved : goal.loop-branch-preserved
loop-branch-preserved c =
    one_completes c.loop-branch.known.keys c.note.new.known.keys c.args.branches.now
    c.loop-branch.branch-index c.branch-item.result c.loop-branch-test.true c.branch-item.is
    c.in_ok-note.ensures.more c.in_ok-note.ensures.head c.loop-branch.invariant

pub returns : goal.returns
returns c =
    all_complete c.loop-branch.known.keys c.args.branches.now c.loop-branch.branch-index
    (omega (arith, c.loop-branch-test.false)) c.loop-branch.invariant
