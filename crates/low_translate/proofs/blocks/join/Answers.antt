use Rattle.std.proofs.Common.{◌∙◌, subst}
use Rattle.low_translate.specs.Emitted.{AppendsBefore}
use Rattle.low_code.specs.Tree.{join, code_of}
use Rattle.low_code.proofs.TreeOf.{before_of-Join}
use Rattle.low_translate.proofs.blocks.join.Goals as goal

pub returns : goal.returns
returns c = subst (AppendsBefore c.args.made.now c.emit.new.made)
    (before_of-Join c.in_ok-vars.vars c.in_ok-new.field-0 ∙
    (λ i. join (c.in_ok-vars.ensures i) (code_of (c.in_ok-new.ensures.ok i)))) c.in_ok-emit.ensures
