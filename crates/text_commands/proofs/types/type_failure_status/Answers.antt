use Rattle.std.proofs.Common.{arith}
use Rattle.text_commands.proofs.TypesFit.{type_caused, fault_apart}
use Rattle.text_commands.proofs.types.type_failure_status.Goals as goal

pub returns-clause-first : goal.returns-clause-first
returns-clause-first c = λ text h. rw (c.rule-rule.ensures, c.number.ensures)
    (type_caused text c.args.fault.now (λ e. grind (arith, c.rule-rule.ensures)) h)

pub returns-clause-another : goal.returns-clause-another
returns-clause-another c = λ none text h.
    rw (c.rule-rule.ensures, c.number.ensures) (
      type_caused text c.args.fault.now (λ e. grind (arith, c.rule-rule.ensures)) h,
      fault_apart c.args.fault.now none,
    )
