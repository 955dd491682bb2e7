use Rattle.std.proofs.Common.{◌≤◌, length, subst}
use Rattle.flow_system.specs.Shown.{tables_of}
use Rattle.points_to.proofs.Solved.{RoundSoFar, round_begins, round_on, round_done}
use Rattle.points_to.proofs.rounds.round.Goals as goal

pub loop-inclusion-init : goal.loop-inclusion-init
loop-inclusion-init c = round_begins (tables_of c.args.system.now) _ c.args.facts.now

pub loop-inclusion-preserved : goal.loop-inclusion-preserved
loop-inclusion-preserved c =
    round_on (tables_of c.args.system.now) _ _ _ _ _ _ _ _ _ c.loop-inclusion-test.true
    c.inclusion-item.is c.either-added.ensures c.loop-inclusion.invariant
    c.in_ok-satisfy.ensures.grown c.in_ok-satisfy.ensures.still c.in_ok-satisfy.ensures.counted

pub returns : goal.returns
returns c =
    let p = tables_of c.args.system.now in
    let f = c.loop-inclusion.facts in
    let n = c.loop-inclusion.inclusion-index in
    let all : RoundSoFar p c.args.system.now.inclusions c.args.facts.now f c.loop-inclusion.added n
    = subst (λ cs. RoundSoFar p cs c.args.facts.now f c.loop-inclusion.added n)
    c.as_slice-inclusion-items.ensures c.loop-inclusion.invariant in
    let le : length c.args.system.now.inclusions ≤ n
    = subst (λ cs. length cs ≤ n) c.as_slice-inclusion-items.ensures c.loop-inclusion-test.false
    in
    record {
      sound = all.sound;
      done = λ e. round_done p c.args.system.now.inclusions
          c.args.facts.now f c.loop-inclusion.added n le all e;
      counted = all.counted;
    }
