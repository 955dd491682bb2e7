use Rattle.std.proofs.Common.{◌≡◌, ◌+◌, ◌*◌, ◌<◌, ◌^◌, ◌-◌, ◌++◌, ◌∷◌, [], ℕ, List, length, ap, ◌∙◌, sym, subst, length-append}
use Rattle.points_to.specs.Held.{In}
use Rattle.points_to.specs.Waiting.{numbers_from}
use Rattle.points_to.proofs.InGroups.{whole_more}
use Rattle.points_to.proofs.groups.full_groups.Goals as goal

more : (ws : List ℕ) (w g : ℕ) → length ws ≡ g → length (ws ++ w ∷ []) ≡ g + 1
more ws w g e = length-append ws (w ∷ []) ∙ ap (λ k. k + 1) e

pub loop-g-preserved : goal.loop-g-preserved
loop-g-preserved c =
    let ws = c.loop-g.groups.items in
    let g = c.loop-g.g in
    record {
      count = ap length c.in_ok-push.ensures.items ∙ more ws (2 ^ 64 - 1) g
          c.loop-g.invariant.count;
      all = subst (λ l. (n : ℕ) → n < 64 * (g + 1) → In n (numbers_from 0 l))
          (sym c.in_ok-push.ensures.items)
          (whole_more ws g c.loop-g.invariant.count c.loop-g.invariant.all);
    }
