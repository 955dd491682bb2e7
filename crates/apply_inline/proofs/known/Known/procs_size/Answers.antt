use Rattle.std.proofs.Common.{arith}
use Rattle.grin_syntax.specs.Tree.{procedure_of, program_of}
use Rattle.points_to.specs.Found.{found}
use Rattle.inline_theory.specs.Expanded.{expanded_procedure}
use Rattle.apply_inline.proofs.Sums.{total_next, total_done}
use Rattle.apply_inline.proofs.known.Known.procs_size.Goals as goal

pub loop-proc-preserved : goal.loop-proc-preserved
loop-proc-preserved c =
    let e = total_next procedure_of
    (expanded_procedure (program_of c.args.self.now.program.now)
    (found c.args.self.now.flow.now)) c.args.procs.now c.loop-proc.proc-index _
    c.loop-proc-test.true c.proc-item.is in
    omega arith

pub returns : goal.returns
returns c =
    let e = total_done procedure_of
    (expanded_procedure (program_of c.args.self.now.program.now)
    (found c.args.self.now.flow.now)) c.args.procs.now c.loop-proc.proc-index
    c.loop-proc-test.false in
    omega arith
