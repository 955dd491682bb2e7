use Rattle.std.proofs.Common.{inl, inr}
use Rattle.rv32_select.proofs.Sending.{all_between}
use Rattle.rv32_select.proofs.context.moves_between.Goals as goal

pub returns : goal.returns
returns c = all_between _ _ c.loop-to.to-iterator.a.rest.now c.loop-to.to-iterator.b.rest.now
    (elim c.in-None.ensures.steps [ inl h ↦ inl h.1.0 | inr h ↦ inr h.1.0 ]) c.loop-to.invariant
