use Rattle.grin_driver.proofs.Codes.{one_each, frame_each, needs_of}
use Rattle.grin_driver.proofs.needs.told_needs.Goals as goal

pub needs_text-requires-clause-one_each : goal.needs_text-requires-clause-one_each
needs_text-requires-clause-one_each c = one_each _ _ _ c.in_ok-compiled.compiled
    c.in_ok-compiled.ensures.kept

pub needs_text-requires-clause-frame_each : goal.needs_text-requires-clause-frame_each
needs_text-requires-clause-frame_each c = frame_each _ _ _ c.in_ok-compiled.compiled
    c.in_ok-compiled.ensures.kept

pub returns-in-Ok-clause-told : goal.returns-in-Ok-clause-told
returns-in-Ok-clause-told c = needs_of _ _ _ c.in_ok-compiled.compiled _
    c.in_ok-compiled.ensures.kept c.in-Ok.ensures
