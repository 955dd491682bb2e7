use Rattle.std.proofs.Common.{ℕ, List, rules}
use Rattle.std.proofs.lemmas.Result.{IfOk-weaker}
use Rattle.variable_uses.specs.Uses.{AreUses}
use Rattle.register_alloc.specs.Holders.{AreMarkedForJoin}
use Rattle.register_alloc.proofs.Pairs.{pairs_also}
use Rattle.register_alloc.proofs.holders.Holders.entering.Goals as goal

pub returns : goal.returns
returns c = IfOk-weaker c.each.result _
    (λ h. (used : List ℕ) → AreUses used c.args.uses.now
    → AreMarkedForJoin used c.args.from c.args.to c.args.self.now.of.items h.of.items)
    (λ h made used are. pairs_also made (λ old new became. search rules)) c.each.ensures
