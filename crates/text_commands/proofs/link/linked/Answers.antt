use Rattle.text_commands.proofs.link.linked.Goals as goal

pub returns-in-Err-clause-unlinked : goal.returns-in-Err-clause-unlinked
returns-in-Err-clause-unlinked c = c.unlinked.ensures c.args.texts.now c.in-Err.ensures.refused
