use Rattle.std.proofs.Common.{rules, ◌≡◌, ◌<◌, length, ap, ◌∙◌, arith}
use Rattle.low_translate.proofs.Operations.{length_fitted}
use Rattle.low_translate.proofs.blocks.LoweringPlan.update.Goals as goal

pub save_words-requires : goal.save_words-requires
save_words-requires c = let b : c.args.self.now.width < 4294967296 = search rules in let e
    : length c.as_slice-2.result.now ≡ c.args.self.now.width
    = ap length (c.as_slice-2.ensures ∙ c.in_ok-words-2.ensures) ∙ length_fitted _ _
    in omega (arith, b, e)
