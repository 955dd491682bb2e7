use Rattle.std.proofs.Common.{rules}
use Rattle.pass_cells.specs.Entries.{unshown_by_set}
use Rattle.pass_cells.proofs.Listed.{store_new}
use Rattle.pass_cells.proofs.memory.store_cell.Goals as goal

pub returns-in_ok-push-clause-is : goal.returns-in_ok-push-clause-is
returns-in_ok-push-clause-is c = store_new (unshown_by_set c.args.shown.now.keys) c.args.cell.now _
    _ _ (search rules) c.in_ok-words.ensures c.in_ok-push.ensures.ok
