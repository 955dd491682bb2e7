use Rattle.std.proofs.Common.{rules, sym, ap, ◌∙◌}
use Rattle.low_translate.specs.Translation.{variables_of}
use Rattle.low_translate.proofs.Operations.{through_done}
use Rattle.low_translate.proofs.blocks.LoweringPlan.through.Goals as goal

pub returns : goal.returns
returns c = through_done c.args.self.now.width c.args.self.now.results.now c.args.numbers.now.next _
    _ c.args.goal _ _ _ _ _ _ _ _ c.end_words.ensures c.in_ok-vars.ensures.are
    c.in_ok-vars.ensures.next c.as_slice.ensures c.in_ok-plain.ensures
    (c.in_ok-words.ensures ∙ ap variables_of (c.as_slice-2.ensures ∙ sym c.as_slice.ensures))
    (search rules)
