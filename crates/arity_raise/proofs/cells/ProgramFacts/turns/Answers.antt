use Rattle.std.proofs.Common.{length, subst}
use Rattle.grin_syntax.specs.Tree.{procedure_of, program_of}
use Rattle.points_to.specs.Found.{found}
use Rattle.raise_theory.specs.Decided.{Decided}
use Rattle.arity_raise.proofs.Chosen.{one_turn_more, turns_done}
use Rattle.arity_raise.proofs.cells.ProgramFacts.turns.Goals as goal

pub loop-x-preserved : goal.loop-x-preserved
loop-x-preserved c = one_turn_more (found c.args.self.now.flow.now)
    (program_of c.args.self.now.g.now) (procedure_of c.args.proc.now) _ c.loop-x.x-index _ _ _ _ _ _
    _ _ _ _ c.loop-x-test.true
    c.loop-x.invariant c.in_ok-decision.ensures.turn c.in_ok-decision.ensures.row
    c.in_ok-push.ensures.ok c.parameter_count_after-count.ensures

pub returns-clause-decided : goal.returns-clause-decided
returns-clause-decided c =
    subst (λ l. Decided (found c.args.self.now.flow.now) (program_of c.args.self.now.g.now)
    (procedure_of c.args.proc.now) (length c.args.proc.now.params) l c.loop-x.made)
    c.as_slice-x-items.ensures
    (turns_done (found c.args.self.now.flow.now) (program_of c.args.self.now.g.now)
    (procedure_of c.args.proc.now) _ c.loop-x.x-index _ _ _ _ _ c.loop-x-test.false
    c.loop-x.invariant)
