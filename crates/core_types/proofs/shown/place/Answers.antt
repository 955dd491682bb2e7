use Rattle.std.proofs.Common.{sym, ◌∙◌}
use Rattle.core_types.proofs.Showing.{stands_nowhere}
use Rattle.core_types.proofs.shown.place.Goals as goal

pub returns-in-None : goal.returns-in-None
returns-in-None c = c.len.ensures.len ∙ stands_nowhere c.args.mark c.args.seen.now.keys
    (sym c.in-None.is ∙ c.get_index_of.ensures.index)
