use Rattle.command_line.specs.Commands.{BuildFile}
use Rattle.command_line.proofs.command.Command.build.Goals as goal

pub returns : goal.returns
returns c = c.in_ok-file.ensures BuildFile

pub returns-in_err-file : goal.returns-in_err-file
returns-in_err-file c = rw c.from_residual.ensures (c.in_err-file.ensures BuildFile)
