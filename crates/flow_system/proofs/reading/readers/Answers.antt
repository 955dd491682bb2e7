use Rattle.std.proofs.Common.{sym, ◌∙◌}
use Rattle.flow_system.proofs.Numbered.{row_there, no_row_there}
use Rattle.flow_system.proofs.reading.readers.Goals as goal

pub returns-in-Some : goal.returns-in-Some
returns-in-Some c = c.as_slice.ensures ∙ row_there _ _ _ _ _ c.args.s.now.indexed
    (sym c.in-Some.ensures.value)

pub returns-in-None : goal.returns-in-None
returns-in-None c = no_row_there _ _ _ _ c.args.s.now.indexed (sym c.in-None.ensures.value)
