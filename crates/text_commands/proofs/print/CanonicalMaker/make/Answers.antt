use Rattle.text_commands.proofs.print.CanonicalMaker.make.Goals as goal

pub returns-in-Err-clause-refused : goal.returns-in-Err-clause-refused
returns-in-Err-clause-refused c = c.unread.ensures _ c.in-Err.ensures.refused
