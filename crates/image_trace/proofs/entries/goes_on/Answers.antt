use Rattle.std.proofs.Common.{◌∷◌, ap, ◌∙◌, subst}
use Rattle.rv32_machine.specs.Steps.{state_of, step, Does}
use Rattle.image_trace.proofs.Steps.{one_more, next_states, write_states, read_states, exit_states, trap_states}
use Rattle.image_trace.proofs.entries.goes_on.Goals as goal

pub returns-in-Next-clause-states : goal.returns-in-Next-clause-states
returns-in-Next-clause-states c m =
    let s = state_of c.args.machine.now in
    one_more m s ∙ ap (λ l. s ∷ l) (next_states m s c.step.new.self (step s)
    (subst (λ r. Does s (step s) r c.step.new.self) c.in-Next.is c.step.ensures))

pub returns-in-Write-clause-states : goal.returns-in-Write-clause-states
returns-in-Write-clause-states c m =
    let s = state_of c.args.machine.now in
    one_more m s ∙ ap (λ l. s ∷ l) (write_states m s _ _ c.step.new.self (step s)
    (subst (λ r. Does s (step s) r c.step.new.self) c.in-Write.is c.step.ensures))

pub returns-in-Read-clause-states : goal.returns-in-Read-clause-states
returns-in-Read-clause-states c m =
    let s = state_of c.args.machine.now in
    one_more m s ∙ ap (λ l. s ∷ l) (read_states m s _ c.step.new.self _ (step s)
    (subst (λ r. Does s (step s) r c.step.new.self) c.in-Read.is c.step.ensures) c.give.ensures.0)

pub returns-in-Exit-clause-states : goal.returns-in-Exit-clause-states
returns-in-Exit-clause-states c m =
    let s = state_of c.args.machine.now in
    one_more m s ∙ ap (λ l. s ∷ l) (exit_states m s _ c.step.new.self (step s)
    (subst (λ r. Does s (step s) r c.step.new.self) c.in-Exit.is c.step.ensures))

pub returns-in-Trap-clause-states : goal.returns-in-Trap-clause-states
returns-in-Trap-clause-states c m =
    let s = state_of c.args.machine.now in
    one_more m s ∙ ap (λ l. s ∷ l) (trap_states m s _ _ c.step.new.self (step s)
    (subst (λ r. Does s (step s) r c.step.new.self) c.in-Trap.is c.step.ensures))
