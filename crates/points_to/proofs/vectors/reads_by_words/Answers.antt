use Rattle.std.proofs.Common.{◌∙◌, sym, subst}
use Rattle.flow_system.specs.Shown.{shown}
use Rattle.points_to.specs.Kept.{AllByWords}
use Rattle.points_to.proofs.VectorLoops.{none_before, more_before, all_before}
use Rattle.points_to.proofs.vectors.reads_by_words.Goals as goal

pub loop-inclusion-init : goal.loop-inclusion-init
loop-inclusion-init c = none_before _

pub loop-inclusion-preserved : goal.loop-inclusion-preserved
loop-inclusion-preserved c = more_before _ _ c.inclusion-item.result c.loop-inclusion-test.true
    c.inclusion-item.is (sym c.is_by_words.ensures ∙ c.if-not-is_by_words.false)
    c.loop-inclusion.invariant

pub returns : goal.returns
returns c = λ t. subst (λ xs. AllByWords (shown xs)) c.as_slice-inclusion-items.ensures
    (all_before _ _ c.loop-inclusion-test.false c.loop-inclusion.invariant)
