use Rattle.fetch_passes.proofs.Scanned.{piece_ended}
use Rattle.fetch_passes.proofs.scan.Scan.finish.Goals as goal
use Rattle.std.proofs.Common.{rules}

pub returns-then-piece-len-clause-sizes : goal.returns-then-piece-len-clause-sizes
returns-then-piece-len-clause-sizes c s t a p u e = piece_ended s t c.args.self.now.used.items
    c.args.self.now.sizes.items c.args.at c.args.piece _ _ _ a p u e (search rules) (search rules)
