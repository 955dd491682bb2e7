use Rattle.std.proofs.Common.{◌≡◌, map, take}
use Rattle.grin_syntax.specs.Tree.{procedure_of, program_of}
use Rattle.inline_theory.specs.Size.{total}
use Rattle.points_to.specs.Found.{found}
use Rattle.inline_theory.specs.Expanded.{saturated_at_64_bits, expanded_procedure}
use Rattle.apply_inline.proofs.known.Known.procs_size.Given as goal

abbrev pub invariant-loop-proc : goal.invariant-loop-proc
invariant-loop-proc l = l.size ≡ saturated_at_64_bits
    (total (expanded_procedure (program_of l.self.program.now) (found l.self.flow.now))
    (map procedure_of (take l.proc-index l.procs)))
