use Rattle.std.proofs.Common.{rules, ◌∙◌, sym}
use Rattle.std.proofs.lemmas.Iterator.Adapters.{YieldsList-from_vec}
use Rattle.std.proofs.lemmas.Iterator.Consumers.{YieldsList-end}
use Rattle.seq.proofs.Lists.{map_same}
use Rattle.pass_known.proofs.Loops.{one_chosen, one_dropped, all_chosen}
use Rattle.pass_known.proofs.rule.needed_alts.Goals as goal

pub loop-alt-preserved : goal.loop-alt-preserved
loop-alt-preserved c =
    rw c.in_ok-push.ensures.ok
    (one_chosen _ _ _ _ _ c.loop-alt.invariant _
    (sym c.is_arm_needed.ensures ∙ c.if-not-is_arm_needed.false) c.in_ok-left-2.ensures)

pub loop-alt-preserved-then-not-is_arm_needed : goal.loop-alt-preserved-then-not-is_arm_needed
loop-alt-preserved-then-not-is_arm_needed c = one_dropped _ _ _ _ _ c.loop-alt.invariant
    (sym c.is_arm_needed.ensures ∙ c.if-not-is_arm_needed.true)

pub returns : goal.returns
returns c =
    let all = YieldsList-end (YieldsList-from_vec c.args.alts (search rules) (search rules))
    c.loop-alt.yielded c.loop-alt.alt-iterator c.loop-alt.yielded_by _ c.next.new.self
    c.in-None.is c.next.ensures.steps in
    all_chosen _ _ c.loop-alt.made c.loop-alt.yielded c.args.alts
    (sym (map_same c.loop-alt.yielded) ∙ all.0) c.loop-alt.invariant
