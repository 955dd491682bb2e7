use Rattle.flow_system.specs.Shown.{tables_of, inclusions_of}
use Rattle.points_to.proofs.fast.solve_by_copies.Goals as goal

pub steps-init : goal.steps-init
steps-init c = c.in_ok-note_all.ensures
    (c.new-state.ensures (tables_of c.args.system.now) (inclusions_of c.args.system.now))
