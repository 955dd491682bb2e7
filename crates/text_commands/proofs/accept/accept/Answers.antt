use Rattle.text_commands.proofs.Texts.{not_accepted}
use Rattle.text_commands.proofs.accept.accept.Goals as goal

pub returns-in-Err-clause-unaccepted : goal.returns-in-Err-clause-unaccepted
returns-in-Err-clause-unaccepted c = not_accepted c.args.text.now c.unread.result
    (c.unread.ensures _ c.in-Err.ensures.refused)
