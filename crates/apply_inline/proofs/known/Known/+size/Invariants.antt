use Rattle.std.proofs.Common.{take}
use Rattle.grin_syntax.specs.Tree.{program_of}
use Rattle.points_to.specs.Found.{found}
use Rattle.apply_inline.proofs.Sums.{StmtsSize, AltsSize}
use Rattle.apply_inline.proofs.known.Known.+size.Given as goal

abbrev pub invariant-block_size-loop-stmt : goal.invariant-block_size-loop-stmt
invariant-block_size-loop-stmt l = StmtsSize (program_of l.self.program.now) (found l.self.flow.now)
    (take l.stmt-index l.stmt-items) l.size

abbrev pub invariant-alts_size-loop-alt : goal.invariant-alts_size-loop-alt
invariant-alts_size-loop-alt l = AltsSize (program_of l.self.program.now) (found l.self.flow.now)
    (take l.alt-index l.alts) l.size
