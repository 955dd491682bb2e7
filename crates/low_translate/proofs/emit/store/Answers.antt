use Rattle.std.proofs.Common.{subst}
use Rattle.low_translate.specs.Emitted.{AppendsBefore}
use Rattle.low_translate.specs.Translation.{take_if_any}
use Rattle.low_translate.proofs.Emitting.{adds_then}
use Rattle.low_translate.proofs.emit.store.Goals as goal

pub returns-clause-is : goal.returns-clause-is
returns-clause-is c = adds_then _ _ _ _ _
    (subst (λ xs. AppendsBefore c.args.made.now c.take_cells.new.made (take_if_any xs))
    c.in_ok-vars.ensures c.in_ok-take_cells.ensures) c.in_ok-fill_cells.ensures.is
