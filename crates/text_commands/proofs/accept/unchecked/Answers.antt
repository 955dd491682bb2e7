use Rattle.std.proofs.Common.{arith}
use Rattle.text_commands.specs.Text.{Unaccepted}
use Rattle.text_commands.proofs.Texts.{caused}
use Rattle.text_commands.proofs.accept.unchecked.Goals as goal

pub returns : goal.returns
returns c = λ text p u t h. rw (c.rule-rule.ensures, c.number.ensures)
    (Unaccepted _ _ p u t (caused p c.args.refusal.now (λ e. grind (arith, c.rule-rule.ensures)) h))
