use Rattle.std.proofs.Common.{rules}
use Rattle.std.proofs.lemmas.List.{take_more}
use Rattle.flow_system.proofs.Numbered.{none_so_far, sets_more}
use Rattle.flow_system.proofs.rows.note_sets.Goals as goal

pub loop-place-init : goal.loop-place-init
loop-place-init c = none_so_far _ _ _

pub loop-place-preserved : goal.loop-place-preserved
loop-place-preserved c = sets_more _ _ _ _ _ _ _ _ (search (rules, take_more))
    c.loop-place.invariant c.in_ok-note_set.ensures
