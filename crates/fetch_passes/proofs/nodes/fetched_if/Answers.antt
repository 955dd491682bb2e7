use Rattle.fetch_passes.proofs.Pushed.{fetch_pushed}
use Rattle.fetch_passes.proofs.nodes.fetched_if.Goals as goal

pub returns-in_ok-push : goal.returns-in_ok-push
returns-in_ok-push c = λ k. fetch_pushed c.args.wanted c.args.var c.args.cell c.args.place
    c.args.made.now _ k c.if-wanted.true c.in_ok-push.ensures.ok
