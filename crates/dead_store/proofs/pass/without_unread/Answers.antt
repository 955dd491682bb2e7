use Rattle.dead_store.proofs.Contract.{left_by}
use Rattle.dead_store.proofs.pass.without_unread.Goals as goal

pub returns : goal.returns
returns c = left_by c.in_ok-sites.ensures c.in_ok-h.ensures
