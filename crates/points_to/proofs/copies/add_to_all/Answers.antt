use Rattle.std.proofs.Common.{subst}
use Rattle.std.proofs.lemmas.List.{take_all}
use Rattle.std.specs.List.{flat_map}
use Rattle.points_to.specs.Bits.{block_words}
use Rattle.points_to.specs.Copies.{facts_to}
use Rattle.points_to.specs.Known.{held, GrowsByFacts}
use Rattle.points_to.proofs.Solved.{grows_none}
use Rattle.points_to.proofs.CopiesSound.{targets_next}
use Rattle.points_to.proofs.copies.add_to_all.Goals as goal

pub loop-x-init : goal.loop-x-init
loop-x-init c = grows_none (held c.args.facts.now)

pub loop-x-preserved : goal.loop-x-preserved
loop-x-preserved c = targets_next _ _ _ (flat_map block_words c.args.words.now) _ _ _
    c.loop-x-test.true c.loop-x.invariant c.in_ok-add_words.ensures

pub returns : goal.returns
returns c =
    subst (λ xs. GrowsByFacts (held c.args.facts.now) (held c.loop-x.facts)
    (facts_to xs (flat_map block_words c.args.words.now)))
    (take_all c.loop-x.x-index c.args.targets.now c.loop-x-test.false) c.loop-x.invariant
