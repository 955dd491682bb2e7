use Rattle.arity_check.specs.Program.{program}
use Rattle.grin_syntax.specs.Tree.{program_of}
use Rattle.test_compile.proofs.Last.{lowerable}
use Rattle.test_compile.proofs.last_stage.last_stage.Goals as goal

pub returns : goal.returns
returns c =
    let small = c.is_small-small.ensures in
    lowerable c.vectorise_takes_inlined.ensures (program c.args.p.now) c.requires
    (program_of c.in_ok-last.last) c.in_ok-last.ensures.made
    c.sizes_of.result.program c.sizes_of.result.largest (small.program cc) (small.largest cc)
    (small.procs cc) (small.globals cc) (small.slim cc)
