use Rattle.std.proofs.Common.{sym, ◌∙◌, arith}
use Rattle.low_translate.proofs.Items.{results_of-get}
use Rattle.low_translate.proofs.blocks.LoweringPlan.results.Goals as goal

pub returns-in-Some : goal.returns-in-Some
returns-in-Some c = c.in-Some.ensures.lookup.3.1 0 ∙ sym (results_of-get _ c.args.f.0)

pub returns-in-None : goal.returns-in-None
returns-in-None c = c.in-None.ensures.lookup.4 (omega arith) 0 ∙ sym (results_of-get _ c.args.f.0)
