use Rattle.std.proofs.Common.{◌+◌, ◌-◌, ◌^◌, ◌<◌, cond, sym, subst, arith}
use Rattle.flow_system.specs.Shown.{tables_of, inclusions_of}
use Rattle.points_to.specs.Known.{held}
use Rattle.points_to.proofs.Solved.{nothing_in_every, least_at_end, count_rises}
use Rattle.points_to.proofs.rounds.least_facts.Goals as goal

pub rounds-init : goal.rounds-init
rounds-init c = record {
  sound = nothing_in_every (tables_of c.args.system.now) (inclusions_of c.args.system.now)
      (held c.new-facts.result) c.new-facts.ensures;
  done = λ e. cc;
}

pub rounds-preserved : goal.rounds-preserved
rounds-preserved c = record {
  sound = c.in_ok-more.ensures.sound c.rounds.invariant.sound;
  done
      = c.in_ok-more.ensures.done;
}

pub rounds-smaller : goal.rounds-smaller
rounds-smaller c =
    let below : c.rounds.facts.count < 2 ^ 64 = omega arith in
    subst (λ b. (2 ^ 64 - c.round.new.facts.count) + cond c.in_ok-more.more 1 0 <
    (2 ^ 64 - c.rounds.facts.count) + cond b 1 0) (sym c.rounds-test.true)
    (count_rises c.rounds.facts c.round.new.facts c.in_ok-more.more below
    c.in_ok-more.ensures.counted)

pub returns : goal.returns
returns c = least_at_end (tables_of c.args.system.now) (inclusions_of c.args.system.now)
    (held c.rounds.facts) c.rounds.invariant.sound (c.rounds.invariant.done c.rounds-test.false)
