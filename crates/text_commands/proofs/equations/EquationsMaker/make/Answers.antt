use Rattle.text_commands.proofs.equations.EquationsMaker.make.Goals as goal

pub returns-in-Err-clause-refused : goal.returns-in-Err-clause-refused
returns-in-Err-clause-refused c = c.unmatched.ensures c.args.text.now c.in-Err.ensures.refused
