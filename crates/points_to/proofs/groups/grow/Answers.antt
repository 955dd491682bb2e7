use Rattle.std.proofs.Common.{◌≤◌, ◌^◌, ◌∷◌, [], ap, ◌∙◌, sym, subst, length, arith, length-append}
use Rattle.points_to.specs.Waiting.{numbers_from}
use Rattle.points_to.proofs.InGroups.{none_more}
use Rattle.points_to.proofs.groups.grow.Goals as goal

pub growing-preserved : goal.growing-preserved
growing-preserved c =
    let ws = c.growing.groups.items in
    record {
      small = subst (λ l. length l ≤ 2 ^ 26) (sym c.in_ok-push.ensures.items)
          (omega (
            arith,
            length-append ws (0 ∷ []),
            c.growing-test.true,
            c.requires.bound,
            c.growing.groups.ok,
          ));
      same = ap (numbers_from 0) c.in_ok-push.ensures.items ∙ none_more ws _
          c.growing.invariant.same;
    }
