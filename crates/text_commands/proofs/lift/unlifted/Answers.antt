use Rattle.std.proofs.Common.{arith}
use Rattle.text_commands.proofs.Lifted.{lift_caused}
use Rattle.text_commands.proofs.lift.unlifted.Goals as goal

pub returns : goal.returns
returns c = λ text h. rw (c.refused.ensures, c.rule-rule.ensures, c.place.ensures)
    (lift_caused text c.args.refusal.now (λ e. grind (arith, c.rule-rule.ensures)) h)
