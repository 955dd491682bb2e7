use Rattle.std.proofs.Common.{take, length}
use Rattle.grin_syntax.specs.Tree.{procedure_of, program_of}
use Rattle.points_to.specs.Found.{found}
use Rattle.arity_raise.proofs.Chosen.{TurnsSoFar}
use Rattle.arity_raise.proofs.cells.ProgramFacts.turns.Given as goal

abbrev pub invariant-loop-x : goal.invariant-loop-x
invariant-loop-x l = TurnsSoFar (found l.self.flow.now) (program_of l.self.g.now)
    (procedure_of l.proc) (take l.x-index l.x-items) (length l.proc.params) l.count l.made
    l.initial.fresh.next l.fresh.next
