use Rattle.text_commands.specs.Typing.{Fitting}
use Rattle.text_commands.proofs.sides.SidesMaker.make.Goals as goal

pub returns-in-Ok-clause-made : goal.returns-in-Ok-clause-made
returns-in-Ok-clause-made c = Fitting c.in-Ok.ensures.unbroken c.new.ensures.items
