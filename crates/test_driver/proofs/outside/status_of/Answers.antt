use Rattle.command_line.specs.Commands.{command_of}
use Rattle.test_driver.proofs.Permits.{any_command}
use Rattle.test_driver.proofs.outside.status_of.Goals as goal

pub grinc_main-requires : goal.grinc_main-requires
grinc_main-requires c = record { permitted = any_command (command_of c.args.line.now) }
