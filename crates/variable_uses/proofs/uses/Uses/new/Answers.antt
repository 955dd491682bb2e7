use Rattle.std.proofs.Common.{◌≡◌, length, ◌∙◌, rules, arith}
use Rattle.variable_uses.proofs.Positions.{are_uses, uses_next, uses_many}
use Rattle.variable_uses.proofs.uses.Uses.new.Goals as goal

pub loop-at-preserved : goal.loop-at-preserved
loop-at-preserved c =
    record {
      count = uses_many c.loop-at.uses.items c.push.new.self.items c.loop-at.at _
          c.in_ok-push.ensures.items c.loop-at.invariant.count;
      each = uses_next c.args.used.now c.loop-at.uses.items c.push.new.self.items c.loop-at.at _
          c.in_ok-push.ensures.items c.loop-at.invariant.count (search rules) (search rules)
          c.loop-at.invariant.each;
    }

pub returns : goal.returns
returns c =
    let all : c.loop-at.at ≡ length c.args.used.now = search rules in
    are_uses c.args.used.now c.loop-at.uses.items _
    (λ k lt. c.loop-at.invariant.each k (omega arith)) (c.loop-at.invariant.count ∙ all)
    c.sort_unstable.ensures.permutation c.sort_unstable.ensures.sorted
