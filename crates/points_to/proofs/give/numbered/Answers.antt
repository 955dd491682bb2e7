use Rattle.std.proofs.Common.{rules, refl}
use Rattle.flow_system.specs.Shown.{tables_of}
use Rattle.points_to.specs.Held.{numbered, in_part, elements}
use Rattle.points_to.specs.Known.{held}
use Rattle.points_to.specs.Numbering.{numbered_part}
use Rattle.points_to.proofs.Loops.{numbered_next, numbered_done}
use Rattle.points_to.proofs.give.numbered.Goals as goal

pub loop-word-preserved : goal.loop-word-preserved
loop-word-preserved c =
    let p = tables_of c.args.system.now in
    let H = held c.args.facts.now in
    numbered_next (numbered p H (numbered_part c.args.numbering))
    (λ j w. in_part (numbered_part c.args.numbering j) (elements p H w)) (λ j w ws. refl) _ _ _
    _ _ _ _ _ c.loop-word-test.true (search rules) c.loop-word.invariant
    c.in_ok-elements_at.ensures

pub returns : goal.returns
returns c = numbered_done
    (numbered (tables_of c.args.system.now) (held c.args.facts.now)
    (numbered_part c.args.numbering)) (λ j. refl) _ _ _ _ _ c.loop-word-test.false
    c.loop-word.invariant
