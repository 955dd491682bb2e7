use Rattle.flow_system.specs.Shown.{tables_of}
use Rattle.points_to.specs.Reads.{forced_reads}
use Rattle.points_to.proofs.Loops.{flat_next, flat_done}
use Rattle.points_to.proofs.reads.all_forced_reads.Goals as goal

pub loop-word-preserved : goal.loop-word-preserved
loop-word-preserved c = flat_next (forced_reads (tables_of c.args.system.now)) _ _ _ _ _ _
    c.loop-word-test.true c.loop-word.invariant c.in_ok-forced_reads.ensures

pub returns : goal.returns
returns c = flat_done (forced_reads (tables_of c.args.system.now)) _ _ _ _ c.loop-word-test.false
    c.loop-word.invariant
