use Rattle.flow_system.specs.Shown.{tables_of}
use Rattle.points_to.specs.Reads.{applied_reads}
use Rattle.points_to.proofs.Loops.{flat_next, flat_done}
use Rattle.points_to.proofs.reads.all_applied_reads.Goals as goal

pub loop-word-preserved : goal.loop-word-preserved
loop-word-preserved c = flat_next (applied_reads (tables_of c.args.system.now)) _ _ _ _ _ _
    c.loop-word-test.true c.loop-word.invariant c.in_ok-applied_reads.ensures

pub returns : goal.returns
returns c = flat_done (applied_reads (tables_of c.args.system.now)) _ _ _ _ c.loop-word-test.false
    c.loop-word.invariant
