use Rattle.std.proofs.Common.{subst}
use Rattle.grin_driver.specs.Outcome.{Outcome}
use Rattle.test_driver.proofs.quiet_rows.status_on.Goals as goal

pub returns-clause-exits : goal.returns-clause-exits
returns-clause-exits c = λ code e.
    (subst (Outcome _ _ c.args.text.now 1000000 1048576 1000000000) e
    c.run_text.ensures.outcome.0).ran

pub returns-clause-traps : goal.returns-clause-traps
returns-clause-traps c = λ kind pc e.
    (subst (Outcome _ _ c.args.text.now 1000000 1048576 1000000000) e
    c.run_text.ensures.outcome.0).ran
